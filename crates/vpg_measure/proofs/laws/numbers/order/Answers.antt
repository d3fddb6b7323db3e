use Rattle.vpg_measure.proofs.Numbers.{order_is_numeric, truncated_order}
use Rattle.vpg_measure.proofs.laws.numbers.order.Goals as goal

pub returns-clause-whole : goal.returns-clause-whole
returns-clause-whole c = order_is_numeric

pub returns-clause-truncated : goal.returns-clause-truncated
returns-clause-truncated c = truncated_order

use Rattle.vpg_desk.proofs.Answering.{by_second, by_first}
use Rattle.vpg_desk.proofs.desk.Desk.looks_settled.Goals as goal

pub returns-then-is_settled : goal.returns-then-is_settled
returns-then-is_settled c = by_second c.args.self.now _ (c.is_settled.ensures.settled.0 c.if-is_settled.true) c.is_settled-then-is_settled.ensures.settled

pub returns-else-is_settled : goal.returns-else-is_settled
returns-else-is_settled c = by_first c.args.self.now c.is_settled.result c.if-is_settled.false c.is_settled.ensures.settled

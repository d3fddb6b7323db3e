use Rattle.vpg_board.proofs.Atomic.{join_leads}
use Rattle.vpg_board.proofs.laws.joins_are_steps.Goals as goal

pub returns : goal.returns
returns c order s id other v w = join_leads order s id other v w

use Rattle.vpg_board.proofs.Atomic.{split_leads}
use Rattle.vpg_board.proofs.laws.splits_are_steps.Goals as goal

pub returns : goal.returns
returns c order s id v = split_leads order s id v

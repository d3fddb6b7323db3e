use Rattle.vpg_board.proofs.Atomic.{raise_leads}
use Rattle.vpg_board.proofs.laws.raises_are_steps.Goals as goal

pub returns : goal.returns
returns c order s id word v = raise_leads order s id word v

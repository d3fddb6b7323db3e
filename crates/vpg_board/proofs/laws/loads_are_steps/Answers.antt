use Rattle.vpg_board.proofs.Atomic.{load_leads}
use Rattle.vpg_board.proofs.laws.loads_are_steps.Goals as goal

pub returns : goal.returns
returns c order s id word v = load_leads order s id word v

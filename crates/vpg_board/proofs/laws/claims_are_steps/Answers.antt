use Rattle.vpg_board.proofs.Atomic.{claim_leads}
use Rattle.vpg_board.proofs.laws.claims_are_steps.Goals as goal

pub returns : goal.returns
returns c order s id v is = claim_leads order is s id v

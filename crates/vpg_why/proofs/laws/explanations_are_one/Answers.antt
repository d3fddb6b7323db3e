use Rattle.vpg_why.proofs.Next.{explanations_are_one}
use Rattle.vpg_why.proofs.laws.explanations_are_one.Goals as goal

pub returns : goal.returns
returns c = explanations_are_one

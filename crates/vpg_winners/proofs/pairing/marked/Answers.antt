use Rattle.vpg_winners.specs.Pairs.{marked}
use Rattle.std.proofs.Common.{refl}
use Rattle.vpg_winners.proofs.pairing.marked.Goals as goal

pub returns : goal.returns
unfolding marked
returns c = rw c.code_of.ensures refl

use Rattle.std.proofs.Common.{length}
use Rattle.vpg_blake.proofs.implicants.+implicants.Given as goal

abbrev pub decreases-implicants : goal.decreases-implicants
decreases-implicants l = length l.features.now

use Rattle.std.proofs.Common.{◌≡◌, length}
use Rattle.vpg_formula.specs.Naming.{closed}
use Rattle.vpg_formula.specs.NamingCode.{opens}
use Rattle.vpg_formula.proofs.mentions.close.Given as goal

abbrev pub invariant-loop-last : goal.invariant-loop-last
invariant-loop-last l = closed (opens l.around.items) ≡ closed (opens l.fn.around.items)

abbrev pub decreases-loop-last : goal.decreases-loop-last
decreases-loop-last l = length l.around.items

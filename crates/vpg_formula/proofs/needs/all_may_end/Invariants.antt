use Rattle.std.proofs.Common.{◌≡◌, length}
use Rattle.vpg_formula.specs.Needs.{all_may_end}
use Rattle.vpg_formula.specs.NeedsCode.{needs_of}
use Rattle.vpg_formula.proofs.needs.all_may_end.Given as goal

abbrev pub invariant-loop-need : goal.invariant-loop-need
invariant-loop-need l = all_may_end (needs_of l.needs.items) ≡ all_may_end (needs_of l.fn.needs.items)

abbrev pub decreases-loop-need : goal.decreases-loop-need
decreases-loop-need l = length l.needs.items

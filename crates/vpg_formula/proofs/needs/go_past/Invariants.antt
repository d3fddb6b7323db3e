use Rattle.std.proofs.Common.{◌≡◌, length}
use Rattle.vpg_formula.specs.Needs.{step}
use Rattle.vpg_formula.specs.NeedsCode.{needs_of}
use Rattle.vpg_formula.proofs.needs.go_past.Given as goal

abbrev pub invariant-loop-need : goal.invariant-loop-need
invariant-loop-need l = step l.flag (needs_of l.needs.items) l.word l.starts ≡ step l.fn.flag (needs_of l.fn.needs.items) l.word l.starts

abbrev pub decreases-loop-need : goal.decreases-loop-need
decreases-loop-need l = length l.needs.items

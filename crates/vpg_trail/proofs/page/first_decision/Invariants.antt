use Rattle.std.proofs.Common.{◌≡◌, [], map, take}
use Rattle.vpg_trail.specs.Page.{decisions_of}
use Rattle.vpg_trail.specs.Shown.{entry_of}
use Rattle.vpg_trail.proofs.page.first_decision.Given as goal

abbrev pub invariant-loop-i : goal.invariant-loop-i
invariant-loop-i l = decisions_of (map entry_of (take l.i l.entries)) ≡ []

use Rattle.std.proofs.Common.{◌≡◌, None, map, take}
use Rattle.vpg_trail.specs.Page.{decision_on}
use Rattle.vpg_trail.specs.Shown.{entry_of}
use Rattle.vpg_trail.proofs.page.decided.Given as goal

abbrev pub invariant-loop-entry : goal.invariant-loop-entry
invariant-loop-entry l = decision_on l.feature (map entry_of (take l.entry-index l.entries)) ≡ None

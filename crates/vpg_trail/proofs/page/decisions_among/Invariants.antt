use Rattle.std.proofs.Common.{◌≡◌, map, take}
use Rattle.vpg_trail.specs.Page.{decisions_of}
use Rattle.vpg_trail.specs.Shown.{entry_of}
use Rattle.vpg_trail.proofs.page.decisions_among.Given as goal

abbrev pub invariant-loop-entry : goal.invariant-loop-entry
invariant-loop-entry l = l.decisions.items ≡ decisions_of (map entry_of (take l.entry-index l.entries))

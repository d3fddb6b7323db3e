use Rattle.std.proofs.Common.{◌≡◌, map, take}
use Rattle.vpg_trail.specs.Shown.{entry_of}
use Rattle.vpg_trail.proofs.page.Entries.copy_of.Given as goal

abbrev pub invariant-loop-entry : goal.invariant-loop-entry
invariant-loop-entry l = map entry_of l.items.items ≡ map entry_of (take l.entry-index l.entries)

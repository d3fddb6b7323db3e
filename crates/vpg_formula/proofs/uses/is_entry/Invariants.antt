use Rattle.std.proofs.Common.{◌≡◌, drop}
use Rattle.vpg_formula.specs.Standings.{is_among}
use Rattle.vpg_formula.specs.EntryCode.{earlier_of}
use Rattle.vpg_formula.proofs.uses.is_entry.Given as goal

abbrev pub invariant-loop-entry : goal.invariant-loop-entry
invariant-loop-entry l = is_among (earlier_of l.entries) l.name ≡ is_among (earlier_of (drop l.entry-index l.entries)) l.name

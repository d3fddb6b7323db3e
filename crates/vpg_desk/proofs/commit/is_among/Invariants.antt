use Rattle.std.proofs.Common.{◌≡◌, false, map, take}
use Rattle.vpg_trail.specs.Page.{literal_of, choices_of, stands}
use Rattle.vpg_trail.specs.Shown.{entry_of}
use Rattle.vpg_desk.proofs.commit.is_among.Given as goal

abbrev pub invariant-loop-entry : goal.invariant-loop-entry
invariant-loop-entry l = stands (choices_of (map entry_of (take l.entry-index l.entries))) (literal_of l.decision) ≡ false

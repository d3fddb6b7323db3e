use Rattle.std.proofs.Common.{◌≡◌, None, map, take}
use Rattle.vpg_trail.specs.Page.{literal_of, choices_of}
use Rattle.vpg_trail.specs.Shown.{entry_of}
use Rattle.vpg_desk.specs.Book.{first_missing}
use Rattle.vpg_desk.proofs.commit.first_not_among.Given as goal

abbrev pub invariant-loop-decision : goal.invariant-loop-decision
invariant-loop-decision l = first_missing (choices_of (map entry_of l.entries)) (map literal_of (take l.decision-index l.decisions)) ≡ None

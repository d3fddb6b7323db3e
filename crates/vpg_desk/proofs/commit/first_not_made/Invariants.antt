use Rattle.std.proofs.Common.{◌≡◌, None, map, take}
use Rattle.vpg_trail.specs.Page.{literal_of}
use Rattle.vpg_desk.specs.Book.{first_missing}
use Rattle.vpg_desk.proofs.commit.first_not_made.Given as goal

abbrev pub invariant-loop-decision : goal.invariant-loop-decision
invariant-loop-decision l = first_missing (map literal_of l.made) (map literal_of (take l.decision-index l.decisions)) ≡ None

use Rattle.std.proofs.Common.{◌≡◌, map, take}
use Rattle.vpg_trail.specs.Page.{literal_of}
use Rattle.vpg_desk.proofs.commit.literals_of.Given as goal

abbrev pub invariant-loop-decision : goal.invariant-loop-decision
invariant-loop-decision l = l.literals.items ≡ map literal_of (take l.decision-index l.decisions)

use Rattle.std.proofs.Common.{◌≡◌, false, map, take}
use Rattle.vpg_trail.specs.Page.{literal_of, stands}
use Rattle.vpg_desk.proofs.commit.is_made.Given as goal

abbrev pub invariant-loop-one : goal.invariant-loop-one
invariant-loop-one l = stands (map literal_of (take l.one-index l.made)) (literal_of l.decision) ≡ false

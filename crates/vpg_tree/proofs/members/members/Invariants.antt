use Rattle.std.proofs.Common.{◌≡◌, ◌+◌, ◌++◌, drop}
use Rattle.vpg_tree.specs.Tree.{members_from}
use Rattle.vpg_tree.proofs.members.members.Given as goal

abbrev pub invariant-loop-place : goal.invariant-loop-place
invariant-loop-place l = record {
  number : l.feature ≡ l.place-index + 1;
  text : l.list.items ++ members_from l.feature (drop l.place-index l.places) l.group ≡ members_from 1 l.places l.group;
}

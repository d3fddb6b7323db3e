use Rattle.std.proofs.Common.{◌≡◌, ◌++◌, ◌-◌, ◌≤◌, [], length, drop, map}
use Rattle.vpg_featureide.specs.Trees.{groups_from, place_of}
use Rattle.vpg_featureide.proofs.tree.features.Given as goal

abbrev pub invariant-loop-f : goal.invariant-loop-f
invariant-loop-f l = record {
  names_are : l.tree.names ++ drop l.f l.names ≡ l.names;
  groups_are : l.tree.groups ++ groups_from l.members l.f (drop l.f l.kinds) ≡ groups_from l.members 0 l.kinds;
  places_are : l.tree.places ++ map (place_of l.kinds) (drop (l.f - 1) l.members) ≡ map (place_of l.kinds) l.members;
  none : l.tree.constraints ≡ [];
  count : length l.tree.names ≡ l.f;
  first : 1 ≤ l.f;
}

use Rattle.std.proofs.Common.{take, map}
use Rattle.vpg_model.specs.Pairs.{pair_for}
use Rattle.vpg_model.specs.Searching.{AreRoots}
use Rattle.vpg_model.proofs.building.place_roots.Given as goal

abbrev pub invariant-loop-root : goal.invariant-loop-root
invariant-loop-root l = AreRoots l.initial.pairs.keys l.pairs.keys (map (pair_for l.source.parts.items l.first) (take l.root-index l.roots)) l.places.items

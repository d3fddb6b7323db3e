use Rattle.std.proofs.Common.{◌≡◌, ◌++◌, drop}
use Rattle.vpg_game.specs.Naming.{features_named}
use Rattle.vpg_game.proofs.naming.push_features.Given as goal

-- what is added and what is still to add is the whole
abbrev pub invariant-loop-edge : goal.invariant-loop-edge
invariant-loop-edge l = l.features.items ++ features_named (drop l.edge-index l.edges) ≡ l.initial.features.items ++ features_named l.edges

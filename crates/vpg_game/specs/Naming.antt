-- The vertices with an edge that needs a feature: its guard names the feature. This project's own.
use Rattle.std.specs.Prelude.{ℕ, ◌≡◌, ◌↔◌, List, [], ◌∷◌, ◌++◌, length, slice_index_or, Contains}
use Rattle.vpg_guards.specs.Formula.{Formula, named}
use Rattle.vpg_game.specs.Edges.{GuardedEdge}
use Rattle.vpg_game.specs.Game.{NamedVertex, no_vertex}

-- the features that the guards of edges name
abbrev pub features_named : List (GuardedEdge Formula) → List ℕ
features_named [] = []
features_named (e ∷ es) = named e.guard ++ features_named es

-- for each of this many features exactly the vertices that name it
pub record IsNaming (features : ℕ) (vertices : List NamedVertex) (naming : List (List ℕ)) : Type 0 where
  pub count : length naming ≡ features
  pub exact : (f v : ℕ) → Contains (slice_index_or naming f []) v ↔
      Contains (features_named (slice_index_or vertices v no_vertex).edges) f

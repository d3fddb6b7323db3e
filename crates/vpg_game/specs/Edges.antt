-- Edges of guarded games. Those of FASE 2020, with formulas for sets of configurations; that a target is named twice is
-- this project's own.
use Rattle.std.specs.Prelude.{◌≡◌, ℕ, ◌<◌, List, [], ◌∷◌, length, ◌==◌, if◌then◌else◌, slice_index, slice_index_or}
use Rattle.vpg_guards.specs.Formula.{Formula, always}
use Rattle.vpg_guards.specs.Grammar.{either}

-- an edge under a guard of any kind
pub record GuardedEdge (Guard : Type 0) : Type 0 where
  pub to : ℕ
  pub guard : Guard

-- One more edge: where its target is named before, its guard is joined to the guard there by `or`.
abbrev pub join_edge : List (GuardedEdge Formula) → GuardedEdge Formula → List (GuardedEdge Formula)
join_edge [] e = e ∷ []
join_edge (f ∷ fs) e =
    if f.to == e.to
    then record { to = f.to; guard = either f.guard e.guard } ∷ fs
    else f ∷ join_edge fs e

abbrev pub no_edge : GuardedEdge Formula
no_edge = record { to = 0; guard = always }

-- the place of each edge stands at its target
abbrev pub ArePlaces : List ℕ → List (GuardedEdge Formula) → Type 0
ArePlaces places edges = (k : ℕ) → k < length edges → slice_index places (slice_index_or edges k no_edge).to ≡ k

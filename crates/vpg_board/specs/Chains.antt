-- How predecessors are kept: as chains of edges. This project's own.
use Rattle.std.specs.Prelude.{ℕ, ◌+◌, ◌<◌, ◌≤◌, ◌==◌, if◌then◌else◌, List, [], ◌∷◌, length, map, reverse}
use Rattle.std.specs.Prelude.{slice_index, slice_index_or, All}
use Rattle.vpg_hope.specs.Games.{Game}

-- The sources of the edges of a chain. All edges are given, latest first; the place of an edge is one more than the
-- number of earlier edges.
abbrev pub chain_from : List (ℕ × ℕ) → ℕ → List ℕ
chain_from [] place = []
chain_from (edge ∷ earlier) place =
    if place == length earlier + 1 then edge.0 ∷ chain_from earlier edge.1 else chain_from earlier place

-- the sources of the edges to v, by the place of the last edge to each vertex
abbrev pub sources : List ℕ → List (ℕ × ℕ) → ℕ → List ℕ
sources last edges v = chain_from (reverse edges) (slice_index last v)

-- the sources of the edges to each vertex
abbrev pub lists_of : List ℕ → List (ℕ × ℕ) → List (List ℕ)
lists_of last edges = map (chain_from (reverse edges)) last

-- each edge comes from a vertex of a game with this many
abbrev pub LeadFrom : ℕ → List (ℕ × ℕ) → Type 0
LeadFrom n edges = All (λ edge. edge.0 < n) edges

-- each edge leads on to an earlier one or to none
abbrev pub LeadBack : List (ℕ × ℕ) → Type 0
LeadBack edges = (k : ℕ) → k < length edges → (slice_index_or edges k (0, 0)).1 ≤ k

pub record AreLinked (last : List ℕ) (edges : List (ℕ × ℕ)) : Type 0 where
  pub ends : All (λ place. place ≤ length edges) last
  pub back : LeadBack edges

-- the number of edges of a game
abbrev pub edges_kept : Game → ℕ
edges_kept [] = 0
edges_kept (vertex ∷ game) = length vertex.successors + edges_kept game

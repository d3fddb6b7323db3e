-- Counting edges vertex by vertex.
use Rattle.std.proofs.Common.{◌≡◌, ℕ, zero, suc, ◌+◌, ◌<◌, ◌≤◌, List, [], ◌∷◌, length, take, arith, ap, ◌∙◌, slice_index_or}
use Rattle.vpg_game.specs.Game.{NamedVertex, edges_in, no_vertex}

edges_next : (vs : List NamedVertex) (i : ℕ) → i < length vs → edges_in (take (suc i) vs) ≡ edges_in (take i vs) + length (slice_index_or vs i no_vertex).edges
edges_next [] i h = absurd (omega (arith, h))
edges_next (v ∷ vs) zero h = omega arith
edges_next (v ∷ vs) (suc i) h = omega (arith, edges_next vs i (omega (arith, h)))

-- one vertex more
pub edges_more : (vs : List NamedVertex) (i : ℕ) → i < length vs → edges_in (take (i + 1) vs) ≡ edges_in (take i vs) + length (slice_index_or vs i no_vertex).edges
edges_more vs i h = let e : i + 1 ≡ suc i = omega arith in ap (λ (n : ℕ). edges_in (take n vs)) e ∙ edges_next vs i h

-- those of the first vertices are no more than all
pub edges_of_front : (vs : List NamedVertex) (i : ℕ) → edges_in (take i vs) ≤ edges_in vs
edges_of_front [] zero = omega arith
edges_of_front [] (suc i) = omega arith
edges_of_front (v ∷ vs) zero = omega arith
edges_of_front (v ∷ vs) (suc i) = omega (arith, edges_of_front vs i)

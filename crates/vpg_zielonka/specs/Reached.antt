-- The vertices that plays from a vertex can come to. This project's own.
use Rattle.std.specs.Prelude.{◌≡◌, ℕ, ◌<◌, ◌⊎◌, List, Bool, true, false, length, slice_set, slice_index_or}
use Rattle.vpg_guards.specs.Formula.{Formula}
use Rattle.vpg_game.specs.Edges.{GuardedEdge}
use Rattle.vpg_game.specs.Game.{vertex_in}
use Rattle.vpg_game.specs.Guarded.{GuardedGame}
use Rattle.vpg_hope.specs.Games.{HasEdge}
use Rattle.vpg_zielonka.specs.Attractors.{Vertices}
use Rattle.vpg_zielonka.specs.Parts.{game_in}

-- a list of flags as a set of vertices
abbrev pub flagged : List Bool → Vertices
flagged flags v = slice_index_or flags v false

-- no edge leads out of the set, in no product
abbrev pub IsClosed : GuardedGame Formula → Vertices → Type 0
IsClosed graph set =
    (p : List Bool) (v w : ℕ) → set v ≡ true → HasEdge (game_in graph p) v w → set w ≡ true

-- the first edges of the vertex lead into the set
abbrev pub LeadInto : GuardedGame Formula → Vertices → (count v : ℕ) → Type 0
LeadInto graph set count v = (k : ℕ) (d : GuardedEdge Formula) → k < count → k < length (vertex_in graph v).edges →
    set (slice_index_or (vertex_in graph v).edges k d).to ≡ true

-- each vertex of the set waits, or its edges lead into the set
abbrev pub IsClosedBut : GuardedGame Formula → Vertices → (Waits : ℕ → Type 0) → Type 0
IsClosedBut graph set Waits =
    (v : ℕ) → set v ≡ true → Waits v ⊎ LeadInto graph set (length (vertex_in graph v).edges) v

-- a vertex that was not in the set waits, too
abbrev pub WaitsIfNew : List Bool → ℕ → (old new : List Bool) → Type 0
WaitsIfNew found v old new = ((flagged found v ≡ true) × (new ≡ old)) ⊎ (new ≡ slice_set old v true)

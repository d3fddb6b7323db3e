-- The edges of a vertex, each with what is known of its guard. This project's own.
use Rattle.std.specs.Prelude.{◌≡◌, ℕ, List, [], ◌∷◌, ◌++◌, codes, flat_map, length, slice_index}
use Rattle.vpg_guards.specs.Formula.{Formula}
use Rattle.vpg_guards.specs.Known.{kleene}
use Rattle.vpg_guards.specs.declared.tri.Tri.{Tri}
use Rattle.vpg_game.specs.Guarded.{GuardedEdge}
use Rattle.vpg_game.specs.Game.{vertex_in}
use Rattle.vpg_partial.specs.declared.decision.Decision.{Decision}
use Rattle.vpg_texts.specs.Labels.{beside_both, label_of}
use Rattle.vpg_texts.specs.Scene.{Scene, UnderKnown}
use Rattle.vpg_texts.specs.Text.{blank_number, known_word}

-- both identifiers, that of the vertex first; a word for the guard's value, by the known values; both names
abbrev pub edge_line : (identifiers : List ℕ) (labels : List (List ℕ)) → List Tri → (vertex : ℕ) →
    GuardedEdge Formula → List ℕ
edge_line identifiers labels known vertex edge =
    codes "edge" ++ blank_number (slice_index identifiers vertex) ++ blank_number (slice_index identifiers edge.to)
    ++ 32 ∷ known_word (kleene known edge.guard)
    ++ beside_both (label_of labels vertex) (label_of labels edge.to) ++ 10 ∷ []

-- a line for each of these edges of the vertex, and their number
abbrev pub edges_text : (identifiers : List ℕ) (labels : List (List ℕ)) → List Tri → (vertex : ℕ) →
    List (GuardedEdge Formula) → List ℕ
edges_text identifiers labels known vertex edges =
    flat_map (edge_line identifiers labels known vertex) edges
    ++ codes "edges" ++ blank_number (length edges) ++ 10 ∷ []

-- The text is the answer to `edges V`: the vertex's edges, each with what is known of its guard by what the decisions
-- make known of the features.
abbrev pub TellsEdges : Scene → (vertex : ℕ) → List Decision → (text : List ℕ) → Type 0
TellsEdges scene vertex decisions text =
    UnderKnown scene decisions
    (λ known. text ≡ edges_text scene.identifiers scene.labels known vertex (vertex_in scene.game vertex).edges)

-- The edges whose guard names a feature. This project's own.
use Rattle.std.specs.Prelude.{◌≡◌, ℕ, zero, suc, ◌<◌, ◌==◌, Bool, if◌then◌else◌, List, [], ◌∷◌, ◌++◌, codes, flat_map, length, slice_index}
use Rattle.std.specs.List.{list_any}
use Rattle.vpg_guards.specs.Formula.{Formula, named}
use Rattle.vpg_game.specs.Guarded.{GuardedEdge, GuardedGame}
use Rattle.vpg_game.specs.Game.{vertex_in}
use Rattle.vpg_texts.specs.Labels.{beside_both, label_of}
use Rattle.vpg_texts.specs.Scene.{Scene}
use Rattle.vpg_texts.specs.Text.{blank_number}
use Rattle.vpg_looks.specs.declared.uses.Used.{Used}

-- whether the guard names the feature
abbrev pub is_named : (feature : ℕ) → Formula → Bool
is_named feature guard = list_any (λ f. f == feature) (named guard)

-- the edge of the vertex, if its guard names the feature
abbrev pub use_at : (feature vertex : ℕ) → GuardedEdge Formula → List Used
use_at feature vertex edge =
    if is_named feature edge.guard then record { vertex = vertex; to = edge.to } ∷ [] else []

-- the edges of the first n vertices whose guard names the feature: in file order of the vertices, then of their edges
abbrev pub uses_below : GuardedGame Formula → (feature n : ℕ) → List Used
uses_below game feature zero = []
uses_below game feature (suc n) =
    uses_below game feature n ++ flat_map (use_at feature n) (vertex_in game n).edges

-- Both vertices of the edge are among this many.
abbrev pub IsInside : (count : ℕ) → Used → Type 0
IsInside count used = (used.vertex < count) × (used.to < count)

-- both identifiers, that of the vertex first, and both names
abbrev pub use_line : (identifiers : List ℕ) (labels : List (List ℕ)) → Used → List ℕ
use_line identifiers labels used =
    codes "use" ++ blank_number (slice_index identifiers used.vertex) ++ blank_number (slice_index identifiers used.to)
    ++ beside_both (label_of labels used.vertex) (label_of labels used.to) ++ 10 ∷ []

-- a line for each of these edges, and their number
abbrev pub uses_text : (identifiers : List ℕ) (labels : List (List ℕ)) → List Used → List ℕ
uses_text identifiers labels listed =
    flat_map (use_line identifiers labels) listed ++ codes "uses" ++ blank_number (length listed) ++ 10 ∷ []

-- The text is the answer to `uses F`: all edges of the game whose guard names the feature, and how many they are.
abbrev pub TellsUses : Scene → (feature : ℕ) → (text : List ℕ) → Type 0
TellsUses scene feature text =
    text ≡ uses_text scene.identifiers scene.labels (uses_below scene.game feature (length scene.game))

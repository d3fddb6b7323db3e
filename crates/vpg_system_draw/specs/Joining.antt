-- Arrows as the code keeps them, for private contracts: their ends, each once, and their labels. This project's own.
use Rattle.std.specs.Prelude.{◌≡◌, ℕ, List, [], ◌∷◌, length}
use Rattle.vpg_system_draw.specs.Arrows.{Arrow, joined}

-- the arrows of these ends, with these labels
abbrev pub arrows_in : List (ℕ × ℕ) → List (List ℕ) → List Arrow
arrows_in [] labels = []
arrows_in (e ∷ ends) [] = []
arrows_in (e ∷ ends) (l ∷ labels) = record { source = e.0; target = e.1; label = l } ∷ arrows_in ends labels

-- the arrow for a look-up past the end
abbrev pub no_arrow : Arrow
no_arrow = record { source = 0; target = 0; label = [] }

-- these are the arrows, each with a label
pub record AreArrows (arrows : List Arrow) (ends : List (ℕ × ℕ)) (labels : List (List ℕ)) : Type 0 where
  pub count : length labels ≡ length ends
  pub are : arrows_in ends labels ≡ arrows

-- these are the arrows with one more
abbrev pub AreJoined : List (ℕ × ℕ) → List (List ℕ) → (source target : ℕ) → (text : List ℕ) → List (ℕ × ℕ) →
    List (List ℕ) → Type 0
AreJoined ends labels source target text later_ends later_labels =
    AreArrows (joined (arrows_in ends labels) (record { source = source; target = target; label = text }))
    later_ends later_labels

-- Progress measures as tuples, greatest priority first. Jurdzinski 2000, mirrored for max-parity.
use Rattle.std.specs.Prelude.{⊤, ◌≡◌, ℕ, ◌<◌, ◌≤◌, ◌⊎◌, if◌then◌else◌, List, [], ◌∷◌, map, All, AllPairs, Contains, count_by, nat_le, ◌==◌}
use Rattle.std.specs.List.{AllZip}
use Rattle.vpg_sides.specs.Players.{IsOdd}
use Rattle.vpg_game.specs.declared.levels.Level.{Level}

-- the shape that a measure counts by: a place for each odd priority that occurs, with its count
abbrev pub Shape : Type 0
Shape = List Level

-- a place for each odd priority that occurs, greatest first
pub record IsShape (vertex_priorities : List ℕ) (shape : Shape) : Type 0 where
  pub falling : AllPairs (λ a b. b.priority < a.priority) shape
  pub odd : All (λ place. IsOdd place.priority) shape
  pub counted : All (λ place. place.count ≡ count_by (λ q. q == place.priority) vertex_priorities) shape
  pub occurring : All (λ place. Contains vertex_priorities place.priority) shape
  pub complete : All (λ q. IsOdd q → Contains (map (λ place. place.priority) shape) q) vertex_priorities

-- a tuple with one component for each odd priority that occurs, or Top, which is above all tuples
pub data Measure : Type 0 where
  Top : Measure
  Components : (cs : List ℕ) → Measure

abbrev pub zero_measure : Shape → Measure
zero_measure shape = Components (map (λ place. 0) shape)

-- one component for each place, up to its count
abbrev pub IsMeasure : Shape → Measure → Type 0
IsMeasure shape Top = ⊤
IsMeasure shape (Components components) = AllZip (λ component place. component ≤ place.count) components shape

-- the first difference decides
abbrev pub LexBelow : List ℕ → List ℕ → Type 0
LexBelow [] ys = ⊥
LexBelow (x ∷ xs) [] = ⊥
LexBelow (x ∷ xs) (y ∷ ys) = (x < y) ⊎ ((x ≡ y) × LexBelow xs ys)

abbrev pub LexAtMost : List ℕ → List ℕ → Type 0
LexAtMost xs ys = (xs ≡ ys) ⊎ LexBelow xs ys

-- lexicographic, the greatest priority first
abbrev pub AtMost : Measure → Measure → Type 0
AtMost Top Top = ⊤
AtMost (Components a) Top = ⊤
AtMost Top (Components b) = ⊥
AtMost (Components a) (Components b) = LexAtMost a b

-- the components on priority p and above, which come first
abbrev pub above : Shape → ℕ → List ℕ → List ℕ
above [] p components = []
above (place ∷ shape) p [] = []
above (place ∷ shape) p (x ∷ components) = if nat_le p place.priority then x ∷ above shape p components else []

-- the first measure fits a vertex of this priority with an edge to a vertex with the second one
abbrev pub Fits : Shape → ℕ → Measure → Measure → Type 0
Fits shape p Top Top = ⊤
Fits shape p Top (Components b) = ⊤
Fits shape p (Components a) Top = ⊥
Fits shape p (Components a) (Components b) =
    LexAtMost (above shape p b) (above shape p a) × (IsOdd p → LexBelow (above shape p b) (above shape p a))

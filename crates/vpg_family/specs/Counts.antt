-- The line that counts a family.
use Rattle.std.specs.Prelude.{ℕ, List, [], ◌∷◌, ◌++◌, length, codes, decimal, zero, suc, Option, Some, None, slice_get}
use Rattle.vpg_game.specs.Game.{NamedGame, edges_in, priorities_of, top_in, dual_top_in}

-- a word, a blank and a number
abbrev pub labelled : List ℕ → ℕ → List ℕ
labelled word n = word ++ 32 ∷ decimal n

-- `NAME V`, if there are both
abbrev pub root_line : Option (List ℕ) → Option ℕ → List ℕ
root_line None vertex = []
root_line (Some name) None = []
root_line (Some name) (Some vertex) = labelled name vertex ++ 10 ∷ []

-- the lines of the first n names and their vertices
abbrev pub root_lines : List (List ℕ) → List ℕ → ℕ → List ℕ
root_lines names vertices zero = []
root_lines names vertices (suc n) = root_lines names vertices n ++ root_line (slice_get names n) (slice_get vertices n)

-- a line for each name and its vertex
abbrev pub roots_text : List (List ℕ) → List ℕ → List ℕ
roots_text names vertices = root_lines names vertices (length names)

-- `vertices V edges E features F top TOP DUALTOP`
abbrev pub counts_text : NamedGame → List ℕ
counts_text game =
    labelled (codes "vertices") (length game.vertices)
    ++ labelled (codes " edges") (edges_in game.vertices)
    ++ labelled (codes " features") game.features
    ++ labelled (codes " top") (top_in (priorities_of game.vertices))
    ++ labelled [] (dual_top_in (priorities_of game.vertices))
    ++ 10 ∷ []

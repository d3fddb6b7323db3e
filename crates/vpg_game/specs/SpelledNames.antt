-- The names that a text of a game gives its vertices, and its start. The grammar is that of vpg_game (PGSolver's, with
-- guards).
use Rattle.std.specs.Prelude.{ℕ, min, List, [], ◌∷◌, map, Option, Some, None}
use Rattle.vpg_game.specs.Grammar.{Name, Entry, Heading, File, number_value}

-- for each vertex its name, empty if it has none; and the identifier where the game starts
pub record Told : Type 0 where
  pub names : List (List ℕ)
  pub start : Option ℕ

abbrev pub name_bytes : Option Name → List ℕ
name_bytes None = []
name_bytes (Some n) = n.bytes

-- one more than the greatest identifier
abbrev pub no_identifier : ℕ
no_identifier = 4294967296

abbrev pub start_of : Option Heading → Option ℕ
start_of None = None
start_of (Some h) = Some (min no_identifier (number_value h.number))

-- the names of a file's entries in order, empty if there is none, and the identifier of its `start`
abbrev pub told_by : File → Told
told_by f = record { names = name_bytes f.first.name ∷ map (λ e. name_bytes e.name) f.entries; start = start_of f.start }

-- The names of vertices at the ends of lines. This project's own.
use Rattle.std.specs.Prelude.{ℕ, Bool, true, false, ◌&&◌, ◌||◌, ◌==◌, nat_lt, if◌then◌else◌, List, [], ◌∷◌, ◌++◌, map, codes, slice_index_or}

-- the name of a vertex, empty if it has none
abbrev pub label_of : List (List ℕ) → ℕ → List ℕ
label_of labels v = slice_index_or labels v []

abbrev pub is_empty : List ℕ → Bool
is_empty [] = true
is_empty (b ∷ bytes) = false

-- a byte as it is shown: `?` for a control character
abbrev pub shown_byte : ℕ → ℕ
shown_byte byte = if nat_lt byte 32 || (byte == 127) then 63 else byte

-- ` "NAME"`
abbrev pub quoted : List ℕ → List ℕ
quoted name = codes " \"" ++ map shown_byte name ++ codes "\""

-- a name, if there is one
abbrev pub beside : List ℕ → List ℕ
beside name = if is_empty name then [] else quoted name

-- two names, if one of them isn't empty
abbrev pub beside_both : List ℕ → List ℕ → List ℕ
beside_both name other = if is_empty name && is_empty other then [] else quoted name ++ quoted other

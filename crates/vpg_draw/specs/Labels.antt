-- The text between the quotes of a Graphviz label (Graphviz's documentation, "Attribute types", escString and
-- lblString).
use Rattle.std.specs.Prelude.{ℕ, ◌+◌, Bool, if◌then◌else◌, ◌==◌, ◌&&◌, nat_le, nat_lt, List, [], ◌∷◌, ◌++◌, codes, decimal, flat_map, slice_index_or}
use Rattle.vpg_diagram.specs.declared.clause.Literal.{Literal}

-- A quote and a backslash have a backslash before them, `&` is written as an entity, and control bytes are blanks.
abbrev pub label_byte : ℕ → List ℕ
label_byte b =
    if b == 34 then codes "\\\""
    else (if b == 92 then codes "\\\\"
    else (if b == 38 then codes "&amp;"
    else (if nat_lt b 32 then codes " " else b ∷ [])))

-- a blank after 12 bytes of a line or more ends it
abbrev pub ends_line : ℕ → ℕ → Bool
ends_line column b = (b == 32) && nat_le 12 column

-- a name in lines, if the present line has this many bytes already
abbrev pub wrapped : ℕ → List ℕ → List ℕ
wrapped column [] = []
wrapped column (b ∷ bytes) =
    if ends_line column b then codes "\\n" ++ wrapped 0 bytes else label_byte b ++ wrapped (column + 1) bytes

-- the name of a feature
abbrev pub feature_name : List (List ℕ) → ℕ → List ℕ
feature_name names f = slice_index_or names f []

-- ` +F` or ` -F`
abbrev pub choice_text : List (List ℕ) → Literal → List ℕ
choice_text names c = 32 ∷ (if c.value then 43 else 45) ∷ feature_name names c.feature

-- ` +F` or ` -F` for each decision
abbrev pub choices_text : List (List ℕ) → List Literal → List ℕ
choices_text names choices = flat_map (choice_text names) choices

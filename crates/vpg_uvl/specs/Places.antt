-- Lines and columns of a text. This project's own.
use Rattle.std.specs.Prelude.{ℕ, ◌+◌, if◌then◌else◌, List, [], ◌∷◌, take}
use Rattle.vpg_uvl.specs.Rows.{ends_line}

-- the line after some bytes, from this one on
abbrev pub line_after : ℕ → List ℕ → ℕ
line_after line [] = line
line_after line (b ∷ bs) = line_after (if ends_line b then line + 1 else line) bs

-- the column after some bytes, from this one on
abbrev pub column_after : ℕ → List ℕ → ℕ
column_after column [] = column
column_after column (b ∷ bs) = column_after (if ends_line b then 1 else column + 1) bs

-- the line of the byte before which so many come, from 1
abbrev pub line_of : List ℕ → ℕ → ℕ
line_of text at = line_after 1 (take at text)

-- its column, from 1, in bytes
abbrev pub column_of : List ℕ → ℕ → ℕ
column_of text at = column_after 1 (take at text)

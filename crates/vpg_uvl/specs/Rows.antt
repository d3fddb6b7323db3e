-- The rows of a text in the Universal Variability Language (UVL; Sundermann et al. 2021): its lines without their
-- comments, and of these the ones that are not blank. A comment over several lines joins what stands before and after
-- it to one row.
use Rattle.std.specs.Prelude.{ℕ, ◌+◌, ◌*◌, ◌/◌, ◌^◌, min, Bool, true, false, not, ◌&&◌, ◌||◌, ◌==◌, if◌then◌else◌, List, [], ◌∷◌, length, take, drop, bytes_eq}
use Rattle.std.specs.List.{list_all, prefix_len, slice_split}
use Rattle.std.specs.Str.Lines.{strip_carriage_return}
use Rattle.vpg_uvl.specs.Comments.{plain}

-- a space or a tab
abbrev pub is_blank : ℕ → Bool
is_blank b = b == 32 || b == 9

abbrev pub ends_line : ℕ → Bool
ends_line b = b == 10

-- A line without its comments and without a carriage return at its end, or lines that a comment joins; and how many
-- bytes of the text come before it.
pub record Row : Type 0 where
  pub start : ℕ
  pub bytes : List ℕ

-- the rows of parts, the first of which begins after so many bytes; a part ends before a line feed
abbrev pub rows_from : ℕ → List (List ℕ) → List Row
rows_from start [] = []
rows_from start (part ∷ parts) =
    if list_all is_blank (strip_carriage_return part) then rows_from (start + length part + 1) parts
    else record { start = start; bytes = strip_carriage_return part } ∷ rows_from (start + length part + 1) parts

abbrev pub parts_of : List ℕ → List (List ℕ)
parts_of text = slice_split ends_line text

-- the rows of a text
abbrev pub rows : List ℕ → List Row
rows text = rows_from 0 (parts_of (plain text))

-- the text after the blanks at its front
abbrev pub after_blanks : List ℕ → List ℕ
after_blanks text = drop (prefix_len is_blank text) text

-- the column after one more blank: a tab goes to the next multiple of 8; columns from 2 ^ 32 on count as one
abbrev pub after_blank : ℕ → ℕ → ℕ
after_blank column b = min (if b == 9 then (column / 8 + 1) * 8 else column + 1) (2 ^ 32)

abbrev pub columns_after : ℕ → List ℕ → ℕ
columns_after column [] = column
columns_after column (b ∷ bs) = if is_blank b then columns_after (after_blank column b) bs else column

-- how far a row is indented, as Python counts it
abbrev pub indentation : List ℕ → ℕ
indentation bytes = columns_after 0 bytes

abbrev pub is_visible : ℕ → Bool
is_visible b = not (is_blank b)

-- the word at the front of a text: up to a blank
abbrev pub word_at : List ℕ → List ℕ
word_at text = take (prefix_len is_visible text) text

-- the text after that word and its blanks
abbrev pub behind_word : List ℕ → List ℕ
behind_word text = after_blanks (drop (prefix_len is_visible text) text)

abbrev pub is_nothing : List ℕ → Bool
is_nothing [] = true
is_nothing (b ∷ bs) = false

-- a row that is this word, at the line's front
abbrev pub is_head : List ℕ → List ℕ → Bool
is_head word bytes = bytes_eq (word_at bytes) word && is_nothing (behind_word bytes)

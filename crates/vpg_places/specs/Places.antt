-- The place of a byte in a text, and the line of a number. This project's own.
use Rattle.std.specs.Prelude.{◌≡◌, ℕ, zero, suc, ◌+◌, ◌-◌, ◌<◌, ◌≤◌, Bool, not, ◌&&◌, ◌==◌, if◌then◌else◌, nat_le, nat_lt, List, [], ◌∷◌, ◌++◌, take, reverse, count_by}
use Rattle.std.specs.Prelude.{◌⊎◌}

-- the byte ends a line
abbrev pub is_line_feed : ℕ → Bool
is_line_feed b = b == 10

-- a byte of UTF-8 that begins a character
abbrev pub begins_character : ℕ → Bool
begins_character b = not (nat_le 128 b && nat_lt b 192)

-- the bytes up to the first line feed
abbrev pub to_line_feed : List ℕ → List ℕ
to_line_feed [] = []
to_line_feed (b ∷ bs) = if is_line_feed b then [] else b ∷ to_line_feed bs

-- the line of a byte, from 1: one more than the line feeds before the byte
abbrev pub line_of : List ℕ → ℕ
line_of before = count_by is_line_feed before + 1

-- the column of a byte, from 1: one more than the characters of UTF-8 that begin between the last line feed and the
-- byte
abbrev pub column_of : List ℕ → ℕ
column_of before = count_by begins_character (to_line_feed (reverse before)) + 1

-- the bytes after the first line feed
abbrev pub behind_feed : List ℕ → List ℕ
behind_feed [] = []
behind_feed (b ∷ bs) = if is_line_feed b then bs else behind_feed bs

-- the bytes after this many line feeds
abbrev pub behind_feeds : ℕ → List ℕ → List ℕ
behind_feeds zero bs = bs
behind_feeds (suc n) bs = behind_feeds n (behind_feed bs)

-- the number of lines in a text: one more than its line feeds
abbrev pub lines_in : List ℕ → ℕ
lines_in text = count_by is_line_feed text + 1

-- the line of a text that has this number, without its line feed
abbrev pub line_text : List ℕ → ℕ → List ℕ
line_text text number = to_line_feed (behind_feeds (number - 1) text)

-- the number of characters of UTF-8 that begin in a line
abbrev pub width_of : List ℕ → ℕ
width_of line = count_by begins_character line

-- a column of a line: that of one of its characters, or the one after them
pub record IsColumnOf (line : List ℕ) (column : ℕ) : Type 0 where
  pub first : 0 < column
  pub last : column ≤ width_of line + 1

-- the line is one of the text's, and the column one of that line
pub record IsWithin (text : List ℕ) (line column : ℕ) : Type 0 where
  pub first : 0 < line
  pub last : line ≤ lines_in text
  pub inside : IsColumnOf (line_text text line) column

-- the bytes are the line of this number, without a carriage return at its end or with it
abbrev pub IsLine : List ℕ → ℕ → List ℕ → Type 0
IsLine text number bytes = (bytes ≡ line_text text number) ⊎ (bytes ++ 13 ∷ [] ≡ line_text text number)

-- Where the words of a text begin. This project's own.
use Rattle.std.specs.Prelude.{ℕ, zero, suc, ◌-◌, List, length, drop}
use Rattle.vpg_formula.specs.Words.{word_len, after_gap}

-- the text from the word on that comes after this many others
abbrev pub from_word : ℕ → List ℕ → List ℕ
from_word zero text = after_gap text
from_word (suc k) text = from_word k (drop (word_len (after_gap text)) (after_gap text))

-- the first byte of the word after this many others; after the last, the length of the text
abbrev pub place_of : List ℕ → ℕ → ℕ
place_of text k = length text - length (from_word k text)

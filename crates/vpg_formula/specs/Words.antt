-- Which words a text of requirements has: the tokens of mCRL2's formulas. That an action in quotes, or one with its
-- arguments, is one word is this project's own.
use Rattle.std.specs.Prelude.{ℕ, zero, suc, List, [], ◌∷◌, length, take, drop, Bool, true, false, not, ◌&&◌, ◌||◌, ◌==◌, if◌then◌else◌, codes, bytes_eq, Option, Some, None, option_map, unwrap_or, nat_lt}
use Rattle.std.specs.List.{prefix_len, list_any}
use Rattle.vpg_features.specs.Names.{is_name_byte}

-- a space, a tab, a carriage return or a line feed
abbrev pub is_blank : ℕ → Bool
is_blank b = b == 32 || b == 9 || b == 13 || b == 10

-- The number of bytes at the front that are blanks and comments. A comment goes from `%` to the end of its line; the
-- flag says whether one is open.
abbrev pub gap_len : Bool → List ℕ → ℕ
gap_len comment [] = 0
gap_len true (b ∷ text) = suc (gap_len (not (b == 10)) text)
gap_len false (b ∷ text) = if is_blank b || b == 37 then suc (gap_len (b == 37) text) else 0

-- the words that have a meaning of their own
abbrev pub keywords : List (List ℕ)
keywords =
    codes "true" ∷ codes "false" ∷ codes "mu" ∷ codes "nu" ∷ codes "always" ∷ codes "never" ∷ codes "possibly" ∷
    codes "inevitably" ∷ codes "again" ∷ codes "and" ∷ codes "deadlock" ∷ codes "free" ∷ codes "can" ∷ codes "after" ∷
    codes "will" ∷ []

abbrev pub is_keyword : List ℕ → Bool
is_keyword word = list_any (λ keyword. bytes_eq word keyword) keywords

abbrev pub one_more : Option ℕ → Option ℕ
one_more n = option_map suc n

abbrev pub starts_name : List ℕ → Bool
starts_name [] = false
starts_name (b ∷ text) = is_name_byte b

-- one more open parenthesis: 64 at most
abbrev pub deeper : ℕ → Option ℕ
deeper depth = if nat_lt depth 64 then Some (suc depth) else None

-- The number of parentheses open after a byte of an action with its arguments, if this many are open before it; none if
-- the action ends. After `|` comes another name, and arguments end with their line.
abbrev pub open_behind : ℕ → ℕ → List ℕ → Option ℕ
open_behind zero b text =
    if is_name_byte b || (b == 124 && starts_name text) then Some 0 else (if b == 40 then Some 1 else None)
open_behind (suc depth) b text =
    if b == 10 then None else
    (if b == 41 then Some depth else (if b == 40 then deeper (suc depth) else Some (suc depth)))

-- an action ends if no parenthesis is open
abbrev pub ended : ℕ → Option ℕ
ended zero = Some 0
ended (suc depth) = None

-- the length from an opening byte on, given the length after it: zero if the arguments are not closed
abbrev pub opening : Option ℕ → Option ℕ
opening None = Some 0
opening (Some n) = Some (suc n)

abbrev pub go_on : ℕ → Option ℕ → (ℕ → Option ℕ) → Option ℕ
go_on depth None later = ended depth
go_on zero (Some zero) later = one_more (later zero)
go_on zero (Some (suc more)) later = opening (later (suc more))
go_on (suc depth) (Some more) later = one_more (later more)

-- The length in bytes of an action with its arguments at the front, with this many parentheses open; none if they are
-- not closed. It ends in front of arguments that are not closed.
unfoldable pub action_len : ℕ → List ℕ → Option ℕ
action_len depth [] = ended depth
action_len depth (b ∷ text) = go_on depth (open_behind depth b text) (λ more. action_len more text)

-- The number of bytes up to the closing quote, which counts too; none if the line ends before. A quote after `\` closes
-- nothing; the flag says whether `\` comes before.
abbrev pub quoted_len : Bool → List ℕ → Option ℕ
quoted_len escaped [] = None
quoted_len escaped (b ∷ text) =
    if b == 10 then None else (if b == 34 && not escaped then Some 1 else one_more (quoted_len (b == 92) text))

-- whether a quote closes exactly at the end of the bytes after the first
abbrev pub closes_at : Option ℕ → ℕ → Bool
closes_at None n = false
closes_at (Some k) n = k == n

abbrev pub is_closed : List ℕ → Bool
is_closed text = closes_at (quoted_len false text) (length text)

-- the bytes up to the end of the line
abbrev pub line_len : List ℕ → ℕ
line_len text = prefix_len (λ b. not (b == 10)) text

-- a word in quotes, after the first: up to the closing one, or the line's end
abbrev pub quote_len : List ℕ → ℕ
quote_len text = unwrap_or (quoted_len false text) (line_len text)

-- a word of letters, digits and `_`; if it has no meaning of its own, arguments that follow directly belong to it
abbrev pub name_len : List ℕ → ℕ
name_len text =
    if is_keyword (take (prefix_len is_name_byte text) text) then prefix_len is_name_byte text
    else unwrap_or (action_len 0 text) 0

-- `=>`, `&&` and `||`
abbrev pub is_pair : ℕ → List ℕ → Bool
is_pair b [] = false
is_pair b (c ∷ text) = (b == 61 && c == 62) || (b == 38 && c == 38) || (b == 124 && c == 124)

-- The length of the word at the front, which does not begin with a blank. It is as long as it can be. A byte that
-- begins nothing else is a word alone.
abbrev pub word_len : List ℕ → ℕ
word_len [] = 0
word_len (b ∷ text) =
    if is_name_byte b then name_len (b ∷ text)
    else (if b == 34 then suc (quote_len text) else (if is_pair b text then 2 else 1))

-- the text after blanks and comments
abbrev pub after_gap : List ℕ → List ℕ
after_gap text = drop (gap_len false text) text

-- the first word, and then the others
abbrev pub word_and : (List ℕ → List (List ℕ)) → List ℕ → List (List ℕ)
word_and later [] = []
word_and later (b ∷ text) = take (word_len (b ∷ text)) (b ∷ text) ∷ later (drop (word_len (b ∷ text)) (b ∷ text))

-- the words of a text, looking at this many of its bytes
unfoldable pub words_with : ℕ → List ℕ → List (List ℕ)
words_with zero text = []
words_with (suc n) text = word_and (words_with n) (after_gap text)

-- the words of a text
abbrev pub words_of : List ℕ → List (List ℕ)
words_of text = words_with (length text) text

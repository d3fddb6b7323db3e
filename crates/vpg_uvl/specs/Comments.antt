-- Comments of the Universal Variability Language (UVL; Sundermann et al. 2021): from `//` to the end of the line, and
-- from `/*` to the next `*/`, also over several lines. Between quotes no comment begins; a quote ends with its line.
use Rattle.std.specs.Prelude.{ℕ, ◌+◌, Bool, true, false, ◌&&◌, ◌||◌, ◌==◌, if◌then◌else◌, List, [], ◌∷◌, Option, Some, None}
pub use Rattle.vpg_uvl.specs.declared.comments.Place.{Place}
pub use Rattle.vpg_uvl.specs.declared.comments.Place.TheVariants.{Outside, Quoted, InLine, Opening, Inside, Closing}

-- a text that begins with this byte
abbrev pub begins : ℕ → List ℕ → Bool
begins byte [] = false
begins byte (b ∷ bs) = b == byte

-- where the byte after a byte stands, by the byte's place and the text after it
abbrev pub next_place : Place → ℕ → List ℕ → Place
next_place Outside b bs =
    if b == 47 && begins 47 bs then InLine
    else (if b == 47 && begins 42 bs then Opening
    else (if b == 34 || b == 39 then Quoted b else Outside))
next_place (Quoted mark) b bs = if b == mark || b == 10 then Outside else Quoted mark
next_place InLine b bs = if begins 10 bs then Outside else InLine
next_place Opening b bs = Inside
next_place Inside b bs = if b == 42 && begins 47 bs then Closing else Inside
next_place Closing b bs = Outside

-- a place within a comment, after its first byte
abbrev pub is_comment : Place → Bool
is_comment Outside = false
is_comment (Quoted mark) = false
is_comment InLine = true
is_comment Opening = true
is_comment Inside = true
is_comment Closing = true

-- a byte, or a space if the byte is one of a comment
abbrev pub shown : Place → Place → ℕ → ℕ
shown place next b = if is_comment place || is_comment next then 32 else b

-- the text from a place on, with a space for each byte of a comment
abbrev pub plain_from : Place → List ℕ → List ℕ
plain_from place [] = []
plain_from place (b ∷ bs) = shown place (next_place place b bs) b ∷ plain_from (next_place place b bs) bs

-- the text with a space for each byte of a comment, also for its line ends
abbrev pub plain : List ℕ → List ℕ
plain text = plain_from Outside text

-- a place within a comment that needs its `*/`
abbrev pub is_block : Place → Bool
is_block Outside = false
is_block (Quoted mark) = false
is_block InLine = false
is_block Opening = true
is_block Inside = true
is_block Closing = true

-- where the last comment begins, if another comment begins here
abbrev pub start_of : Place → ℕ → ℕ → ℕ
start_of Opening start here = here
start_of _ start here = start

-- Where the comment begins that is open at the text's end, if one is: the start of the last comment, a place, how many
-- bytes come before it, and the text from there on.
abbrev pub open_from : ℕ → Place → ℕ → List ℕ → Option ℕ
open_from start place here [] = if is_block place then Some start else None
open_from start place here (b ∷ bs) =
    open_from (start_of (next_place place b bs) start here) (next_place place b bs) (here + 1) bs

-- how many bytes come before the `/*` that no `*/` follows, if there is one
abbrev pub open_comment : List ℕ → Option ℕ
open_comment text = open_from 0 Outside 0 text

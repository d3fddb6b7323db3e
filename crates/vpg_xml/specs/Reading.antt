-- Reading pieces from left to right, as a function on lists, for the reader's private contracts. This project's own.
use Rattle.std.specs.Prelude.{ℕ, zero, suc, List, [], ◌∷◌, ◌++◌, length, if◌then◌else◌, bytes_eq, nat_lt, Option, Some, None, Result, Ok, Err}
use Rattle.vpg_xml.specs.Elements.{Tag, Element, Piece, Placed, opening, closing, character}
use Rattle.vpg_xml.specs.Tokens.{is_blank}
use Rattle.vpg_xml.specs.Nesting.{element}

-- an open element: its index, and its name
pub record Frame : Type 0 where
  pub index : ℕ
  pub name : List ℕ

-- the elements that begin up to here, and the open ones of them, the innermost first
pub record State : Type 0 where
  pub elements : List Element
  pub opened : List Frame

-- why a piece cannot come next
pub data Refusal : Type 0 where
  mismatch : Refusal
  second_root : Refusal
  too_deep : Refusal
  outside : Refusal

-- the innermost one of open elements
abbrev pub first_frame : List Frame → Option Frame
first_frame [] = None
first_frame (f ∷ fs) = Some f

abbrev pub start : State
start = record { elements = []; opened = [] }

-- the element with more text
abbrev pub more_text : List ℕ → Element → Element
more_text said e = element e.at e.tag e.parent (e.text ++ said)

-- the elements with more text for the one at an index
abbrev pub add_text : ℕ → List ℕ → List Element → List Element
add_text i said [] = []
add_text zero said (e ∷ es) = more_text said e ∷ es
add_text (suc i) said (e ∷ es) = e ∷ add_text i said es

-- the state with one more open element
abbrev pub with_element : ℕ → Tag → Option ℕ → State → State
with_element at tag parent s = record {
  elements = s.elements ++ element at tag parent [] ∷ [];
  opened = record { index = length s.elements; name = tag.name } ∷ s.opened;
}

abbrev pub open_first : ℕ → Tag → State → List Element → Result State Refusal
open_first at tag s [] = Ok (with_element at tag None s)
open_first at tag s (e ∷ es) = Err second_root

abbrev pub open_in : ℕ → Tag → State → List Frame → Result State Refusal
open_in at tag s [] = open_first at tag s s.elements
open_in at tag s (f ∷ fs) =
    if nat_lt (length s.opened) 64 then Ok (with_element at tag (Some f.index) s) else Err too_deep

abbrev pub close_in : List ℕ → State → List Frame → Result State Refusal
close_in name s [] = Err mismatch
close_in name s (f ∷ fs) =
    if bytes_eq name f.name then Ok (record { elements = s.elements; opened = fs }) else Err mismatch

abbrev pub say_in : ℕ → State → List Frame → Result State Refusal
say_in c s [] = if is_blank c then Ok s else Err outside
say_in c s (f ∷ fs) = Ok (record { elements = add_text f.index (c ∷ []) s.elements; opened = s.opened })

-- the state after one more piece
abbrev pub step : State → ℕ → Piece → Result State Refusal
step s at (opening tag) = open_in at tag s s.opened
step s at (closing name) = close_in name s s.opened
step s at (character c) = say_in c s s.opened

abbrev pub and_then : Result State Refusal → (State → Result State Refusal) → Result State Refusal
and_then (Err e) f = Err e
and_then (Ok s) f = f s

-- the state after pieces
unfoldable pub run : List Placed → State → Result State Refusal
run [] s = Ok s
run (p ∷ ps) s = and_then (step s p.at p.piece) (run ps)

-- The code's values in the words of the definitions. This project's own.
use Rattle.std.specs.Prelude.{◌≡◌, ℕ, ◌<◌, List, [], ◌∷◌, length, Bool, true, false, not, ◌&&◌, ◌==◌, if◌then◌else◌, map, reverse, Option, Some, None, option_map, Ok, Err, ◌⊎◌}
use Rattle.std.specs.Borrow.{Bor}
use Rattle.vpg_xml.specs.Elements.{Attribute, Tag, Element, Document, Piece, Placed}
use Rattle.vpg_xml.specs.Tokens.{Token, a_character, a_comment, a_start, an_end, token_at, pieces_of, place_of, HasPieces}
use Rattle.vpg_xml.specs.Reading.{Frame, State, start, step, run, Refusal, mismatch, second_root, too_deep, outside}
use Rattle.vpg_xml.specs.declared.element.Attribute as code_attribute
use Rattle.vpg_xml.specs.declared.element.Tag as code_tag
use Rattle.vpg_xml.specs.declared.element.Element as code_element
use Rattle.vpg_xml.specs.declared.token.Token as code_token
use Rattle.vpg_xml.specs.declared.token.Token.TheVariants as tokens
use Rattle.vpg_xml.specs.declared.reader.Reader.{Reader}
use Rattle.vpg_xml.specs.declared.reader.Open.{Open}
use Rattle.vpg_xml.specs.declared.fault.XmlFault.{XmlFault}
use Rattle.vpg_xml.specs.declared.fault.XmlFault.TheVariants as faults

abbrev pub attribute_of : code_attribute.Attribute → Attribute
attribute_of a = record { at = a.at; name = a.name.now; value = a.value.items }

abbrev pub tag_of : code_tag.Tag → Tag
tag_of t = record { name = t.name.now; attributes = map attribute_of t.attributes.items }

abbrev pub element_of : code_element.Element → Element
element_of e = record { at = e.at; tag = tag_of e.tag; parent = e.parent; text = e.text.items }

-- the elements of the code, in the words of the definitions
abbrev pub elements_of : List code_element.Element → List Element
elements_of es = map element_of es

-- the bytes of a text, if there is one
abbrev pub text_in : Option (Bor (List ℕ)) → Option (List ℕ)
text_in o = option_map (λ w. w.now) o

-- a value and the text after it, if they are there
abbrev pub with_rest : {A B : Type 0} → (A → B) → Option (A × Bor (List ℕ)) → Option (B × List ℕ)
with_rest f o = option_map (λ p. (f p.0, p.1.now)) o

abbrev pub same : {A : Type 0} → A → A
same x = x

abbrev pub token_of : code_token.Token → Token
token_of (tokens.Character c) = a_character c
token_of tokens.Comment = a_comment
token_of (tokens.Start tag alone) = a_start (tag_of tag) alone
token_of (tokens.End name) = an_end name.now

abbrev pub frame_of : Open → Frame
frame_of o = record { index = o.index; name = o.name.now }

abbrev pub state_of : Reader → State
state_of r = record { elements = elements_of r.elements.items; opened = reverse (map frame_of r.open.items) }

-- the fault for a refusal at a place
abbrev pub fault_of : ℕ → Refusal → XmlFault
fault_of at mismatch = faults.Closing at
fault_of at second_root = faults.SecondRoot at
fault_of at too_deep = faults.TooDeep at
fault_of at outside = faults.Outside at

-- the first piece of this token, at this place, cannot come next
pub record IsRefusedBy (s : State) (at : ℕ) (token : Token) (fault : XmlFault) : Type 0 where
  pub refusal : Refusal
  pub piece : Piece
  pub others : List Placed
  pub first : pieces_of at token ≡ record { at = at; piece = piece } ∷ others
  pub refused : step s at piece ≡ Err refusal
  pub fault_is : fault ≡ fault_of at refusal

-- memory ran out, or a token is refused
abbrev pub IsStepError : State → ℕ → Token → XmlFault → Type 0
IsStepError s at token fault = (fault ≡ faults.Memory) ⊎ IsRefusedBy s at token fault

-- memory ran out, or a piece is refused
abbrev pub IsPieceError : State → ℕ → Piece → XmlFault → Type 0
IsPieceError s at piece fault =
    (fault ≡ faults.Memory) ⊎ ((r : Refusal) × (step s at piece ≡ Err r) × (fault ≡ fault_of at r))

-- the fault of a text that begins no token, at a place
abbrev pub unreadable : ℕ → List ℕ → XmlFault
unreadable at [] = faults.Unfinished at
unreadable at (b ∷ text) =
    if b == 38 then faults.Reference at else (if b == 60 then faults.Markup at else faults.Character at)

abbrev pub is_empty : {A : Type 0} → List A → Bool
is_empty [] = true
is_empty (x ∷ xs) = false

-- an element has begun, and none is open
abbrev pub is_whole : State → Bool
is_whole s = not (is_empty s.elements) && is_empty s.opened

-- why a body is not read
pub data Halts (size : ℕ) (body : List ℕ) : XmlFault → Type 0 where
  by_memory : Halts size body faults.Memory
  by_text : (pieces : List Placed) (rest : List ℕ) (s : State) → HasPieces size body pieces rest →
      run pieces start ≡ Ok s → 0 < length rest → token_at size rest ≡ None →
      Halts size body (unreadable (place_of size rest) rest)
  by_piece : {fault : XmlFault} (pieces : List Placed) (rest behind : List ℕ) (token : Token) (s : State) →
      HasPieces size body pieces rest → run pieces start ≡ Ok s → token_at size rest ≡ Some (token, behind) →
      IsRefusedBy s (place_of size rest) token fault → Halts size body fault
  by_end : (pieces : List Placed) (s : State) → HasPieces size body pieces [] → run pieces start ≡ Ok s →
      is_whole s ≡ false → Halts size body (faults.Unfinished size)

-- the body is read to its end, with these elements
pub record IsReadTo (size : ℕ) (body : List ℕ) (elements : Document) : Type 0 where
  pub pieces : List Placed
  pub s : State
  pub has : HasPieces size body pieces []
  pub reads : run pieces start ≡ Ok s
  pub whole : is_whole s ≡ true
  pub elements_are : elements ≡ s.elements

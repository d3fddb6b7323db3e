-- Which text spells which document: W3C, Extensible Markup Language (XML) 1.0, "well-formed". At most 64 elements are
-- open at one place.
use Rattle.std.specs.Prelude.{◌≡◌, ℕ, suc, ◌+◌, List, [], ◌∷◌, ◌++◌, length, true, Option, Some, None}
use Rattle.vpg_xml.specs.Elements.{Tag, Element, Document, Placed, opening, closing, character}
use Rattle.vpg_xml.specs.Tokens.{is_blank, HasPieces, body_of}

-- an element with this tag, which begins here
abbrev pub element : ℕ → Tag → Option ℕ → List ℕ → Element
element at tag parent text = record { at = at; tag = tag; parent = parent; text = text }

-- What the pieces between two tags are: characters, which are the text, and elements, a start tag, what is in it, and
-- an end tag of the same name. At most `depth` more elements are open at one place. `parent` is the index of the
-- element around, and `next` the number of elements that begin before. In the list each element comes before those in
-- it.
pub data Content : ℕ → ℕ → ℕ → List Placed → List ℕ → List Element → Type 0 where
  nothing : {depth parent next : ℕ} → Content depth parent next [] [] []
  a_character : {depth parent next at c : ℕ} {pieces : List Placed} {text : List ℕ} {elements : List Element} →
      Content depth parent next pieces text elements →
      Content depth parent next (record { at = at; piece = character c } ∷ pieces) (c ∷ text) elements
  an_element : (to : ℕ) {depth parent next at : ℕ} {tag : Tag} {inner pieces : List Placed} {said text : List ℕ}
      {inside elements : List Element} →
      Content depth next (suc next) inner said inside →
      Content (suc depth) parent (suc next + length inside) pieces text elements →
      Content (suc depth) parent next
      (record { at = at; piece = opening tag } ∷ (inner ++ record { at = to; piece = closing tag.name } ∷ pieces))
      text (element at tag (Some parent) said ∷ (inside ++ elements))

-- each piece is a blank
pub data AreBlanks : List Placed → Type 0 where
  no_more : AreBlanks []
  one_more : {at c : ℕ} {pieces : List Placed} → is_blank c ≡ true → AreBlanks pieces →
      AreBlanks (record { at = at; piece = character c } ∷ pieces)

-- The pieces are a document with these elements: one around all others, and blanks around it. This project's own: a
-- blank there may be written as a reference.
pub record IsDocument (pieces : List Placed) (elements : Document) : Type 0 where
  pub before : List Placed
  pub at : ℕ
  pub tag : Tag
  pub inner : List Placed
  pub to : ℕ
  pub after : List Placed
  pub said : List ℕ
  pub inside : List Element
  pub pieces_are : pieces ≡ before ++ record { at = at; piece = opening tag } ∷
      (inner ++ record { at = to; piece = closing tag.name } ∷ after)
  pub elements_are : elements ≡ element at tag None said ∷ inside
  pub blank_before : AreBlanks before
  pub blank_after : AreBlanks after
  pub content : Content 63 0 1 inner said inside

-- the text spells the document with these elements
pub record Spells (text : List ℕ) (elements : Document) : Type 0 where
  pub body : List ℕ
  pub pieces : List Placed
  pub body_is : body_of text ≡ Some body
  pub has : HasPieces (length text) body pieces []
  pub is : IsDocument pieces elements

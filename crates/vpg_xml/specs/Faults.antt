-- Where a text is no document: at the first token that cannot come there. This project's own.
use Rattle.std.specs.Prelude.{◌≡◌, ℕ, ◌+◌, List, [], ◌∷◌, ◌++◌, length, count_by, Bool, true, false, Option, Some, None}
use Rattle.vpg_xml.specs.Elements.{Document, Piece, Placed, opening, closing, character}
use Rattle.vpg_xml.specs.Tokens.{Token, token_at, pieces_of, place_of, HasPieces, body_of}
use Rattle.vpg_xml.specs.Nesting.{IsDocument}
use Rattle.vpg_xml.specs.declared.fault.XmlFault.{XmlFault}
use Rattle.vpg_xml.specs.declared.fault.XmlFault.TheVariants as faults

-- a document begins with these pieces
abbrev pub BeginsDocument : List Placed → Type 0
BeginsDocument pieces = (more : List Placed) × (elements : Document) × IsDocument (pieces ++ more) elements

-- the text has these pieces up to this place, where this text is left, and a document begins with them
pub record IsGoodUpTo (text : List ℕ) (pieces : List Placed) (rest : List ℕ) (at : ℕ) : Type 0 where
  pub body : List ℕ
  pub body_is : body_of text ≡ Some body
  pub has : HasPieces (length text) body pieces rest
  pub begins : BeginsDocument pieces
  pub place : at ≡ place_of (length text) rest

-- the first byte of a text
abbrev pub first_of : List ℕ → Option ℕ
first_of [] = None
first_of (b ∷ text) = Some b

-- no token begins at this place, where this byte is
pub record IsUnreadable (text : List ℕ) (at : ℕ) (Is : ℕ → Type 0) : Type 0 where
  pub pieces : List Placed
  pub rest : List ℕ
  pub good : IsGoodUpTo text pieces rest at
  pub byte : ℕ
  pub first : first_of rest ≡ Some byte
  pub is : Is byte
  pub none : token_at (length text) rest ≡ None

-- A token begins at this place, and no document goes on with its first piece. A document begins with the pieces before
-- it.
pub record IsMisplaced (text : List ℕ) (at : ℕ) (Is : List Placed → Piece → Type 0) : Type 0 where
  pub pieces : List Placed
  pub rest : List ℕ
  pub good : IsGoodUpTo text pieces rest at
  pub token : Token
  pub behind : List ℕ
  pub reads : token_at (length text) rest ≡ Some (token, behind)
  pub piece : Piece
  pub others : List Placed
  pub first : pieces_of at token ≡ record { at = at; piece = piece } ∷ others
  pub is : Is pieces piece
  pub stops : ¬ BeginsDocument (pieces ++ record { at = at; piece = piece } ∷ [])

abbrev pub is_opening : Piece → Bool
is_opening (opening tag) = true
is_opening (closing name) = false
is_opening (character c) = false

abbrev pub is_closing : Piece → Bool
is_closing (opening tag) = false
is_closing (closing name) = true
is_closing (character c) = false

abbrev pub is_character : Piece → Bool
is_character (opening tag) = false
is_character (closing name) = false
is_character (character c) = true

-- these pieces open this many elements more than they close
abbrev pub AreOpen : ℕ → List Placed → Type 0
AreOpen n pieces = count_by (λ p. is_opening p.piece) pieces ≡ count_by (λ p. is_closing p.piece) pieces + n

-- the text has tokens up to its end, a document begins with them, and they are none
pub record IsUnfinished (text : List ℕ) (at : ℕ) : Type 0 where
  pub pieces : List Placed
  pub good : IsGoodUpTo text pieces [] at
  pub none : (elements : Document) → ¬ IsDocument pieces elements

-- The place of a fault. `Declaration`: the text begins as a declaration, and there is none. `Character`, `Reference`
-- and `Markup`: no token begins there, by its first byte. `Closing`: an end tag that does not end the innermost
-- element. `SecondRoot`: an element after the outermost one. `TooDeep`: the element that would be the 65th open one.
-- `Outside`: a character outside all elements that is no blank. `Unfinished`: the text ends too early.
abbrev pub IsAt : List ℕ → XmlFault → Type 0
IsAt text (faults.Declaration at) = (at ≡ 0) × (body_of text ≡ None)
IsAt text (faults.Character at) = IsUnreadable text at (λ b. ¬ (b ≡ 38) × ¬ (b ≡ 60))
IsAt text (faults.Reference at) = IsUnreadable text at (λ b. b ≡ 38)
IsAt text (faults.Markup at) = IsUnreadable text at (λ b. b ≡ 60)
IsAt text (faults.Closing at) = IsMisplaced text at (λ before p. is_closing p ≡ true)
IsAt text (faults.SecondRoot at) = IsMisplaced text at (λ before p. (is_opening p ≡ true) × AreOpen 0 before)
IsAt text (faults.TooDeep at) = IsMisplaced text at (λ before p. (is_opening p ≡ true) × AreOpen 64 before)
IsAt text (faults.Outside at) = IsMisplaced text at (λ before p. (is_character p ≡ true) × AreOpen 0 before)
IsAt text (faults.Unfinished at) = IsUnfinished text at
IsAt text faults.Memory = Unit {0}

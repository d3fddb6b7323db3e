-- Documents as lists of their elements: W3C, Extensible Markup Language (XML) 1.0. Texts are lists of bytes.
use Rattle.std.specs.Prelude.{ℕ, List, Option}

-- an attribute: where its name begins, its name, and what its value says
pub record Attribute : Type 0 where
  pub at : ℕ
  pub name : List ℕ
  pub value : List ℕ

-- a start tag: its name, and its attributes in their order
pub record Tag : Type 0 where
  pub name : List ℕ
  pub attributes : List Attribute

-- An element: where its start tag begins, that tag, the index of the element around it, and its text. The text is the
-- characters in it that are in no other element within it.
pub record Element : Type 0 where
  pub at : ℕ
  pub tag : Tag
  pub parent : Option ℕ
  pub text : List ℕ

-- a document: its elements, in the order of their start tags
abbrev pub Document : Type 0
Document = List Element

-- What a document is made of: a start tag, an end tag with its name, a character.
pub data Piece : Type 0 where
  opening : Tag → Piece
  closing : List ℕ → Piece
  character : ℕ → Piece

-- a piece, and where its token begins
pub record Placed : Type 0 where
  pub at : ℕ
  pub piece : Piece

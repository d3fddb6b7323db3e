-- The joining of parts. This project's own; the rule that two conjunctions that differ in one sign join into one
-- without that literal is that of Quine and McCluskey.
use Rattle.std.specs.Prelude.{◌≡◌, ℕ, ◌<◌, true, false, List, [], ◌∷◌, ◌++◌, length, map, slice_index_or}
use Rattle.std.specs.List.{All, remove}
use Rattle.vpg_diagram.specs.declared.clause.Literal.{Literal}
use Rattle.vpg_partial.specs.Known.{negation}
use Rattle.vpg_why.specs.Suffices.{choice}
use Rattle.vpg_winners.specs.declared.parts.Winner.{Winner}

-- the winner in each product of a part, and the literals that cut it out
pub record PartView : Type 0 where
  pub winner : Winner
  pub literals : List Literal

-- the part that has every product
abbrev pub whole_of : Winner → PartView
whole_of winner = record { winner = winner; literals = [] }

-- the part with one literal more, at its front
abbrev pub cut_by : Literal → PartView → PartView
cut_by literal part = record { winner = part.winner; literals = literal ∷ part.literals }

-- the part without the literal at this place
abbrev pub without_literal : PartView → ℕ → PartView
without_literal part place = record { winner = part.winner; literals = remove part.literals place }

-- two lists of literals are the same but for the sign of the one at this place
pub record DiffersAt (one other : List Literal) (place : ℕ) : Type 0 where
  pub front : List Literal
  pub literal : Literal
  pub back : List Literal
  pub one_is : one ≡ front ++ literal ∷ back
  pub other_is : other ≡ front ++ negation literal ∷ back
  pub place_is : place ≡ length front

-- two parts of one winner with literals that differ in one sign alone
pub record JoinsAt (one other : PartView) (place : ℕ) : Type 0 where
  pub winner : one.winner ≡ other.winner
  pub literals : DiffersAt one.literals other.literals place

abbrev pub CanJoin : PartView → PartView → Type 0
CanJoin one other = (place : ℕ) × JoinsAt one other place

-- none of the parts can be joined with this one
abbrev pub HasNoMate : List PartView → PartView → Type 0
HasNoMate parts part = All (λ other. CanJoin other part → ⊥) parts

-- the first of the parts that can be joined with this one, and the place of the literal that is then left out
pub record IsFirstMate (parts : List PartView) (part : PartView) (place literal : ℕ) : Type 0 where
  pub within : place < length parts
  pub joins : (d : PartView) → JoinsAt (slice_index_or parts place d) part literal
  pub before : (k : ℕ) (d : PartView) → k < place → CanJoin (slice_index_or parts k d) part → ⊥

-- A part is put to others. While one of these can be joined with it, the first such is taken out and joined with it;
-- then it is put last.
pub data IsPut : (parts : List PartView) (part : PartView) (new : List PartView) → Type 0 where
  alone : {parts : List PartView} {part : PartView} → HasNoMate parts part → IsPut parts part (parts ++ part ∷ [])
  joined : {parts new : List PartView} {part : PartView} (place literal : ℕ) → IsFirstMate parts part place literal →
      IsPut (remove parts place) (without_literal part literal) new → IsPut parts part new

-- one part after another is put to others
pub data ArePut : (parts added new : List PartView) → Type 0 where
  done : {parts : List PartView} → ArePut parts [] parts
  next : {parts middle new : List PartView} {part : PartView} {rest : List PartView} → IsPut parts part middle →
      ArePut middle rest new → ArePut parts (part ∷ rest) new

-- The parts with a feature and those without it. If there are none of one kind, those of the other are all, and need no
-- literal of the feature. Otherwise each takes its literal, and those without are put to those with it.
abbrev pub AreHalves : ℕ → (with_it without parts : List PartView) → Type 0
AreHalves feature [] without parts = parts ≡ without
AreHalves feature (p ∷ ps) [] parts = parts ≡ p ∷ ps
AreHalves feature (p ∷ ps) (q ∷ qs) parts =
    ArePut (map (cut_by (choice feature true)) (p ∷ ps)) (map (cut_by (choice feature false)) (q ∷ qs)) parts

-- Parts with a feature and parts without it, in pairs that are the same else; marks to find them. This project's own.
use Rattle.std.specs.Prelude.{◌≡◌, ℕ, ◌+◌, ◌*◌, ◌%◌, ◌^◌, ◌<◌, ◌≤◌, ◌⊎◌, true, false, Bool, List, [], ◌∷◌, cond, length, slice_index_or}
use Rattle.std.specs.List.{AllByRecursion, remove}
use Rattle.vpg_diagram.specs.declared.clause.Literal.{Literal}
use Rattle.vpg_why.specs.Suffices.{choice}
use Rattle.vpg_winners.specs.declared.parts.Part.{Part}
use Rattle.vpg_winners.specs.declared.parts.Winner.{Winner}
use Rattle.vpg_winners.specs.declared.parts.Winner.TheVariants.{Won, Lost, Unsettled}
use Rattle.vpg_winners.specs.Joined.{PartView, cut_by}
use Rattle.vpg_winners.specs.Winners.{view_of}

-- a mark with one literal more
unfoldable pub marked : ℕ → Literal → ℕ
marked mark l = ((mark * 1000003) % 2 ^ 64 + (2 * l.feature + cond l.value 1 0)) % 2 ^ 64

-- a number that equal lists share, after another number
unfoldable pub mark_from : ℕ → List Literal → ℕ
mark_from mark [] = mark
mark_from mark (l ∷ ls) = mark_from (marked mark l) ls

-- where the marks of a winner's parts begin
abbrev pub first_mark : Winner → ℕ
first_mark Won = 1
first_mark Lost = 2
first_mark Unsettled = 3

-- a number that equal parts share: of the winner and the literals
abbrev pub mark_in : PartView → ℕ
mark_in part = mark_from (first_mark part.winner) part.literals

abbrev pub mark_of : Part → ℕ
mark_of part = mark_in (view_of part)

-- the flag at the slot of each mark is set
pub record AreFlagged (flags : List Bool) (marks : List ℕ) : Type 0 where
  pub some : 0 < length flags
  pub each : AllByRecursion (λ m. slice_index_or flags (m % length flags) false ≡ true) marks

-- none of the marks from one place on, and before another, is this one
abbrev pub HasNot : (marks : List ℕ) (from mark to : ℕ) → Type 0
HasNot marks from mark to = (k d : ℕ) → from ≤ k → k < to → slice_index_or marks k d ≡ mark → ⊥

-- the first place of a mark, from this one on; none before it is the mark's
pub record IsNext (marks : List ℕ) (from mark place : ℕ) : Type 0 where
  pub later : from ≤ place
  pub within : place < length marks
  pub before : HasNot marks from mark place

-- each literal of the part is of a later feature
abbrev pub IsBehind : ℕ → PartView → Type 0
IsBehind f part = AllByRecursion (λ l. f < l.feature) part.literals

-- each of the parts is so
abbrev pub AreBehind : ℕ → List PartView → Type 0
AreBehind f parts = AllByRecursion (IsBehind f) parts

-- the first of the parts that is the same as this one
pub record IsFirstSame (parts : List PartView) (part : PartView) (place : ℕ) : Type 0 where
  pub within : place < length parts
  pub same : (d : PartView) → slice_index_or parts place d ≡ part
  pub before : (k : ℕ) (d : PartView) → k < place → slice_index_or parts k d ≡ part → ⊥

-- none of the parts is this one
abbrev pub HasNone : List PartView → PartView → Type 0
HasNone parts part = AllByRecursion (λ v. v ≡ part → ⊥) parts

-- The part is the same as one with the feature, which is taken out; or it has its literal from now on.
abbrev pub IsPaired : (feature : ℕ) (left : List PartView) (part : PartView) (next : List PartView) (new : PartView) →
    Type 0
IsPaired f left part next new =
    (HasNone left part × (next ≡ left) × (new ≡ cut_by (choice f false) part)) ⊎
    ((place : ℕ) × IsFirstSame left part place × (next ≡ remove left place) × (new ≡ part))

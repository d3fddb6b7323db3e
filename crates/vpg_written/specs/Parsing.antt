-- Trees from lists of marks: a stack of trees, as for any formula in Polish notation with operands in front. This
-- project's own.
use Rattle.std.specs.Prelude.{◌≡◌, ℕ, zero, suc, List, [], ◌∷◌, ◌++◌, Bool}
use Rattle.vpg_requirement.specs.Actions.{ActionFormula}
use Rattle.vpg_formula.specs.declared.mark.Mark.{Mark}
use Rattle.vpg_formula.specs.declared.mark.Mark.TheVariants as marks
use Rattle.vpg_written.specs.Trees.{Tree, nothing, node}
use Rattle.vpg_written.specs.Terms.{IsTerm, AreSets}
use Rattle.vpg_written.specs.declared.piece.Piece.{Piece}

-- the number of operands of a mark
abbrev pub arity : Mark → ℕ
arity marks.OtherThan = 1
arity marks.Repeated = 1
arity marks.RepeatedOnce = 1
arity marks.Can = 1
arity marks.Will = 1
arity marks.Not = 1
arity marks.Always = 1
arity marks.Never = 1
arity marks.Possibly = 1
arity marks.Inevitably = 1
arity marks.AgainAndAgain = 1
arity (marks.Least x) = 1
arity (marks.Greatest x) = 1
arity marks.BothOf = 2
arity marks.EitherOf = 2
arity marks.Sequence = 2
arity marks.Choice = 2
arity marks.SomePath = 2
arity marks.EveryPath = 2
arity marks.After = 2
arity marks.And = 2
arity marks.Or = 2
arity marks.Implies = 2
arity m = 0

-- the tree at the top, or nothing
abbrev pub top_of : List Tree → Tree
top_of [] = nothing
top_of (t ∷ ts) = t

abbrev pub below_top : List Tree → List Tree
below_top [] = []
below_top (t ∷ ts) = ts

-- the operands of a mark with this many, and the rest: its first operand, its last one, and the trees below
abbrev pub first_of : ℕ → List Tree → Tree
first_of zero ts = nothing
first_of (suc zero) ts = nothing
first_of (suc (suc n)) ts = top_of (below_top ts)

abbrev pub last_of : ℕ → List Tree → Tree
last_of zero ts = nothing
last_of (suc n) ts = top_of ts

abbrev pub rest_of : ℕ → List Tree → List Tree
rest_of zero ts = ts
rest_of (suc zero) ts = below_top ts
rest_of (suc (suc n)) ts = below_top (below_top ts)

-- the mark with this many trees from the top as its operands
abbrev pub reduced : ℕ → Mark → List Tree → List Tree
reduced n m ts = node m (first_of n ts) (last_of n ts) ∷ rest_of n ts

-- the trees that marks make after these trees, the last one first
abbrev pub parsed : List Tree → List Mark → List Tree
parsed ts [] = ts
parsed ts (m ∷ ms) = parsed (reduced (arity m) m ts) ms

-- it has a mark
abbrev pub IsNode : Tree → Type 0
IsNode nothing = ⊥
IsNode (node m s t) = Unit {0}

-- the pieces of trees one after the other, the last one first
abbrev pub AreStacked : List (List ℕ) → List ActionFormula → List Tree → List Piece → Type 0
AreStacked names actions [] ps = ps ≡ []
AreStacked names actions (t ∷ ts) ps =
    (us : List Piece) × (vs : List Piece) × (ps ≡ us ++ vs) × IsNode t × AreStacked names actions ts us ×
    IsTerm names actions t vs

-- the last term of these pieces, and the pieces in front of it
pub record IsLastTerm (names : List (List ℕ)) (actions : List ActionFormula) (ts : List Tree)
    (ps front last : List Piece) : Type 0 where
  pub whole : ps ≡ front ++ last
  pub below : AreStacked names actions (below_top ts) front
  pub top : IsTerm names actions (top_of ts) last

-- the pieces in front of a mark with this many operands
pub record AreOperands (names : List (List ℕ)) (actions : List ActionFormula) (n : ℕ) (ts : List Tree)
    (ps first last : List Piece) : Type 0 where
  pub front : List Piece
  pub whole : ps ≡ front ++ (first ++ last)
  pub below : AreStacked names actions (rest_of n ts) front
  pub first_is : IsTerm names actions (first_of n ts) first
  pub last_is : IsTerm names actions (last_of n ts) last

-- One more piece after the others, with more sets than before.
pub record IsMade (names : List (List ℕ)) (actions : List ActionFormula) (ts : List Tree) (sets : List (List Bool))
    (ps : List Piece) : Type 0 where
  pub more : List ActionFormula
  pub are : AreSets names sets (actions ++ more)
  pub stacked : AreStacked names (actions ++ more) ts ps

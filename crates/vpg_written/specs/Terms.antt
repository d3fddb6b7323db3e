-- The code's terms: pieces, each a mark with facts on the term that it ends. This project's own.
use Rattle.std.specs.Prelude.{◌≡◌, ℕ, ◌+◌, ◌<◌, ◌≤◌, List, [], ◌∷◌, ◌++◌, length, Bool, true, false, slice_index_or}
use Rattle.vpg_requirement.specs.Actions as numbered
use Rattle.vpg_requirement.specs.Actions.{ActionFormula, permits}
use Rattle.vpg_parts.specs.Sets.{ArePermitted, actions_at}
use Rattle.vpg_formula.specs.declared.mark.Mark.{Mark}
use Rattle.vpg_meaning.specs.Labels.{none_of_them}
use Rattle.vpg_written.specs.Trees.{Tree, nothing, node, actions_in}
use Rattle.vpg_written.specs.declared.piece.Piece.{Piece}
use Rattle.vpg_written.specs.declared.piece.Parts.{Parts}

-- the piece of a term, with these operands in front of it
pub record IsPiece (names : List (List ℕ)) (actions : List ActionFormula) (m : Mark) (s t : Tree) (us vs : List Piece)
    (p : Piece) : Type 0 where
  pub mark : p.mark.now ≡ m
  pub whole : p.length ≡ length us + length vs + 1
  pub last : p.last ≡ length vs
  pub known : p.set < length actions
  pub set : actions_at actions p.set ≡ actions_in names (node m s t)

-- The pieces are those of the tree, if actions have these names and sets of actions stand for these action formulas.
abbrev pub IsTerm : List (List ℕ) → List ActionFormula → Tree → List Piece → Type 0
IsTerm names actions nothing ps = ps ≡ []
IsTerm names actions (node m s t) ps =
    (us : List Piece) × (vs : List Piece) × (p : Piece) × (ps ≡ us ++ (vs ++ p ∷ [])) × IsTerm names actions s us ×
    IsTerm names actions t vs × IsPiece names actions m s t us vs p

-- a term, split
pub record IsSplit (ps : List Piece) (it : Parts) : Type 0 where
  pub whole : ps ≡ it.first.now ++ (it.second.now ++ it.piece ∷ [])
  pub last : it.piece.last ≤ length it.first.now + length it.second.now → it.piece.last ≡ length it.second.now

-- the parts of a tree with a mark
pub record AreNode (names : List (List ℕ)) (actions : List ActionFormula) (m : Mark) (s t : Tree) (it : Parts) :
    Type 0 where
  pub mark : it.piece.mark.now ≡ m
  pub set : actions_at actions it.piece.set ≡ actions_in names (node m s t)
  pub first : IsTerm names actions s it.first.now
  pub second : IsTerm names actions t it.second.now

-- the parts are those of the tree
abbrev pub ArePartsOf : List (List ℕ) → List ActionFormula → Tree → Parts → Type 0
ArePartsOf names actions nothing it = ⊥
ArePartsOf names actions (node m s t) it = AreNode names actions m s t it

-- the first two sets are those of every action and of none
pub record HasConstants (actions : List ActionFormula) : Type 0 where
  pub every : actions_at actions 0 ≡ numbered.every_action
  pub none : actions_at actions 1 ≡ none_of_them

-- The sets are those of the action formulas, if actions have these names.
pub record AreSets (names : List (List ℕ)) (sets : List (List Bool)) (actions : List ActionFormula) : Type 0 where
  pub same : length sets ≡ length actions
  pub enough : 2 ≤ length actions
  pub constants : HasConstants actions
  pub permitted : (x : ℕ) → ArePermitted (length names) sets x (actions_at actions x)

-- the set has those of this many actions that the action formula permits
abbrev pub IsSetOf : ℕ → List Bool → ActionFormula → Type 0
IsSetOf count set x = (a : ℕ) → a < count → permits x a ≡ slice_index_or set a false

-- both of two action formulas, or one of them
abbrev pub joined_actions : Bool → ActionFormula → ActionFormula → ActionFormula
joined_actions true x y = numbered.both_of x y
joined_actions false x y = numbered.either_of x y

-- A mark's set of actions, from those of its operands. There may be more sets than before.
pub record IsSetBy (names : List (List ℕ)) (m : Mark) (actions : List ActionFormula) (first second : ℕ)
    (sets : List (List Bool)) (n : ℕ) : Type 0 where
  pub more : List ActionFormula
  pub are : AreSets names sets (actions ++ more)
  pub known : n < length (actions ++ more)
  pub set : (s t : Tree) → actions_at actions first ≡ actions_in names s →
      actions_at actions second ≡ actions_in names t → actions_at (actions ++ more) n ≡ actions_in names (node m s t)

-- the number of marks of the last term
abbrev pub length_at_end : List Piece → ℕ
length_at_end [] = 0
length_at_end (p ∷ []) = p.length
length_at_end (p ∷ q ∷ ps) = length_at_end (q ∷ ps)

-- the number of a term's set
abbrev pub set_at_end : List Piece → ℕ
set_at_end [] = 1
set_at_end (p ∷ []) = p.set
set_at_end (p ∷ q ∷ ps) = set_at_end (q ∷ ps)

-- The code's entries, as entries of the definitions. This project's own.
use Rattle.std.specs.Prelude.{◌≡◌, ℕ, ◌<◌, List, [], ◌++◌, length, Bool, slice_index_or}
use Rattle.vpg_requirement.specs.Actions.{ActionFormula}
use Rattle.vpg_formula.specs.declared.requirement.Entry.{Entry}
use Rattle.vpg_written.specs.Terms.{AreSets}
use Rattle.vpg_written.specs.Parsing.{parsed, AreStacked}
use Rattle.vpg_written.specs.declared.task.Term.{Term}

-- the term has the entry's name, and the pieces of its marks
pub record IsTermOf (names : List (List ℕ)) (actions : List ActionFormula) (e : Entry) (term : Term) : Type 0 where
  pub name : term.name.now ≡ e.name
  pub pieces : AreStacked names actions (parsed [] e.formula.marks.items) term.pieces.items

-- The terms of this many entries, with more sets than before.
pub record AreMade (names : List (List ℕ)) (actions : List ActionFormula) (entries : List Entry) (count : ℕ)
    (sets : List (List Bool)) (terms : List Term) : Type 0 where
  pub more : List ActionFormula
  pub are : AreSets names sets (actions ++ more)
  pub count_is : length terms ≡ count
  pub each : (n : ℕ) (e : Entry) (d : Term) → n < count →
      IsTermOf names (actions ++ more) (slice_index_or entries n e) (slice_index_or terms n d)

-- The steps by which the code finds how a form begins. This project's own.
use Rattle.std.specs.Prelude.{◌≡◌, ℕ, ◌<◌, List, [], Bool, true, false, not}
use Rattle.vpg_requirement.specs.NormalForms.{NormalForm}
use Rattle.vpg_formula.specs.declared.mark.Mark.{Mark}
use Rattle.vpg_formula.specs.declared.mark.Mark.TheVariants as marks
use Rattle.vpg_written.specs.Trees.{Tree, nothing, node, Around, Earlier, along, tree_form, tree_at}
use Rattle.vpg_written.specs.Terms.{ArePartsOf}
use Rattle.vpg_written.specs.Naming.{around_of}
use Rattle.vpg_written.specs.Tasks.{Basis, IsTree, IsStep, IsTask, IsOpening, form_at}
use Rattle.vpg_written.specs.declared.piece.Piece.{Piece}
use Rattle.vpg_written.specs.declared.task.Step.{Step}
use Rattle.vpg_written.specs.declared.task.Binder.{Binder}
use Rattle.vpg_written.specs.declared.task.Task.{Task}
use Rattle.vpg_written.specs.declared.task.Found.{Found}
use Rattle.vpg_written.specs.declared.task.Found.TheVariants as found

-- whether a regular formula begins with a part of its own
abbrev pub is_series : Tree → Bool
is_series (node marks.Sequence s t) = true
is_series (node marks.RepeatedOnce s t) = true
is_series t = false

-- The tree in front of a form is the one of these pieces, in front of the modality in front of the form.
pub record IsSeries (g : Basis) (every : Bool) (t : Tree) (step : Step) (ps : List Piece) (f : NormalForm) :
    Type 0 where
  pub tree : Tree
  pub term : IsTree g tree ps
  pub middle : NormalForm
  pub step_is : IsStep g step f middle
  pub form : along g.names every t f ≡ along g.names every tree middle

-- the rest of a regular formula in front of a task with a known form
pub record IsAlong (g : Basis) (every : Bool) (ps : List Piece) (task : Task) (h : NormalForm) : Type 0 where
  pub tree : Tree
  pub term : IsTree g tree ps
  pub form : NormalForm
  pub task_is : IsTask g task form
  pub is : h ≡ along g.names every tree form

abbrev pub is_negation : Tree → Bool
is_negation (node marks.Not s t) = true
is_negation t = false

-- the form of the tree is that of the tree of these pieces, under the other sign
pub record IsNegation (g : Basis) (t : Tree) (ps : List Piece) : Type 0 where
  pub tree : Tree
  pub term : IsTree g tree ps
  pub form : (earlier : Earlier) (sign : Bool) (around : Around) →
      tree_form g.names earlier sign around t ≡ tree_form g.names earlier (not sign) around tree

-- the form of the tree under a sign is that of the tree of these pieces under another
pub record IsSame (g : Basis) (t : Tree) (sign : Bool) (ps : List Piece) (other : Bool) : Type 0 where
  pub tree : Tree
  pub term : IsTree g tree ps
  pub form : (earlier : Earlier) (around : Around) →
      tree_form g.names earlier sign around t ≡ tree_form g.names earlier other around tree

-- the form of the tree under a sign is that of the tree of these pieces under another, and that tree is no negation
pub record IsBare (g : Basis) (t : Tree) (sign : Bool) (ps : List Piece) (other : Bool) : Type 0 where
  pub same : IsSame g t sign ps other
  pub bare : is_negation same.tree ≡ false

-- neither a negation nor a name
abbrev pub is_opened : Mark → Bool
is_opened marks.Not = false
is_opened (marks.Named x) = false
is_opened m = true

-- The result of a look at these pieces, for their form.
abbrev pub IsFound : Basis → Bool → ℕ → List Binder → Found → NormalForm → Type 0
IsFound g sign n bs (found.Opening o) f = IsOpening g o f
IsFound g sign n bs (found.Entry m) f = f ≡ form_at g m sign [] (tree_at g.entries m)
IsFound g sign n bs (found.Parts it) f =
    (t : Tree) × ArePartsOf g.names g.actions t it × (is_opened it.piece.mark.now ≡ true) ×
    (f ≡ form_at g n sign (around_of bs) t)

-- the entry that is found is one of this many
abbrev pub IsEarlier : ℕ → Found → Type 0
IsEarlier n (found.Entry m) = m < n
IsEarlier n it = Unit {0}

-- the tree is this name
abbrev pub IsNamed : Tree → List ℕ → Type 0
IsNamed nothing x = ⊥
IsNamed (node m s t) x = m ≡ marks.Named x

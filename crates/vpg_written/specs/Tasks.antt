-- The tasks that the translation still has to write, as the code has them, and their normal forms. This project's own.
use Rattle.std.specs.Prelude.{◌≡◌, ℕ, ◌<◌, ◌≤◌, List, [], ◌∷◌, ◌++◌, length, reverse, Bool, true, false, slice_index_or}
use Rattle.vpg_requirement.specs.Actions.{ActionFormula}
use Rattle.vpg_requirement.specs.NormalForms.{NormalForm, met, unmet, both, either, some_step, every_step, fixpoint, variable}
use Rattle.vpg_parts.specs.declared.symbol.Symbol.{Symbol}
use Rattle.vpg_parts.specs.declared.symbol.Symbol.TheVariants as symbols
use Rattle.vpg_parts.specs.Parts.{kind_of}
use Rattle.vpg_parts.specs.Sets.{actions_at}
use Rattle.vpg_written.specs.Shapes.{constant_form, joined_form, step_form, kind_for, star, coming, inevitable}
use Rattle.vpg_written.specs.Trees.{Tree, Around, along, tree_form, TreeEntry, tree_at, name_at, before}
use Rattle.vpg_written.specs.Terms.{IsTerm, HasConstants}
use Rattle.vpg_written.specs.declared.piece.Piece.{Piece}
use Rattle.vpg_written.specs.Naming.{around_of}
use Rattle.vpg_written.specs.declared.task.Binder.{Binder}
use Rattle.vpg_written.specs.declared.task.Place.{Place}
use Rattle.vpg_written.specs.declared.task.Way.{Way}
use Rattle.vpg_written.specs.declared.task.Way.TheVariants as ways
use Rattle.vpg_written.specs.declared.task.Step.{Step}
use Rattle.vpg_written.specs.declared.task.Goal.{Goal}
use Rattle.vpg_written.specs.declared.task.Goal.TheVariants as goals
use Rattle.vpg_written.specs.declared.task.Task.{Task}
use Rattle.vpg_written.specs.declared.task.Opening.{Opening}
use Rattle.vpg_written.specs.declared.task.Opening.TheVariants as openings
use Rattle.vpg_written.specs.declared.task.Item.{Item}
use Rattle.vpg_written.specs.declared.task.Item.TheVariants as items
use Rattle.vpg_written.specs.declared.task.Term.{Term}

-- ---- which forms are meant, where actions have these names, sets stand for these action formulas, and entries have
-- ---- these trees

-- the base of all of it
pub record Basis : Type 0 where
  pub names : List (List ℕ)
  pub actions : List ActionFormula
  pub entries : List TreeEntry
  pub constants : HasConstants actions

abbrev pub IsTree : Basis → Tree → List Piece → Type 0
IsTree g t ps = IsTerm g.names g.actions t ps

abbrev pub form_at : Basis → ℕ → Bool → Around → Tree → NormalForm
form_at g n sign around t = tree_form g.names (before g.names g.entries n) sign around t

-- the form of a tree in place of the formula
abbrev pub form_in : Basis → Place → Bool → Tree → NormalForm
form_in g p sign t = form_at g p.earlier sign (around_of p.scope.items) t

-- The form of these pieces after this many entries, inside these fixpoints.
pub record IsAt (g : Basis) (ps : List Piece) (sign : Bool) (n : ℕ) (bs : List Binder) (f : NormalForm) : Type 0 where
  pub known : n ≤ length g.entries
  pub tree : Tree
  pub term : IsTree g tree ps
  pub form : f ≡ form_at g n sign (around_of bs) tree

-- a formula inside these fixpoints, after this many entries
abbrev pub IsPlace : Basis → Place → NormalForm → Type 0
IsPlace g p f = IsAt g p.term.now p.is_negated p.earlier p.scope.items f

abbrev pub IsGoal : Basis → Goal → NormalForm → Type 0
IsGoal g (goals.Variable i) f = f ≡ variable i
IsGoal g (goals.Constant b) f = f ≡ constant_form b
IsGoal g (goals.Formula p) f = IsPlace g p f
IsGoal g (goals.Inevitably p) f = (h : NormalForm) × IsPlace g p h × (f ≡ inevitable p.is_negated h)

-- a regular formula in front of a form
abbrev pub IsWay : Basis → Way → Bool → NormalForm → NormalForm → Type 0
IsWay g (ways.Action n) every f h = h ≡ step_form every (actions_at g.actions n) f
IsWay g (ways.Regular ps) every f h = (t : Tree) × IsTree g t ps.now × (h ≡ along g.names every t f)

-- a regular formula in front of a form, once or any number of times
abbrev pub IsStepBy : Basis → Bool → Way → Bool → NormalForm → NormalForm → Type 0
IsStepBy g false way every f h = IsWay g way every f h
IsStepBy g true way every f h = (again : NormalForm) × IsWay g way every (variable 0) again × (h ≡ star every again f)

abbrev pub IsStep : Basis → Step → NormalForm → NormalForm → Type 0
IsStep g s f h = IsStepBy g s.is_repeated s.way s.is_every f h

-- steps in front of a form, the first one first
abbrev pub AreSteps : Basis → List Step → NormalForm → NormalForm → Type 0
AreSteps g [] f h = h ≡ f
AreSteps g (s ∷ ss) f h = (k : NormalForm) × AreSteps g ss f k × IsStep g s k h

-- a task: the code has the first step last
pub record IsTask (g : Basis) (task : Task) (h : NormalForm) : Type 0 where
  pub goal : NormalForm
  pub is : IsGoal g task.goal goal
  pub steps : AreSteps g (reverse task.steps.items) goal h

-- ---- how a form begins

abbrev pub IsOpening : Basis → Opening → NormalForm → Type 0
IsOpening g (openings.Constant b) h = h ≡ constant_form b
IsOpening g (openings.Variable i) h = h ≡ variable i
IsOpening g (openings.Joined b s t) h =
    (e : NormalForm) × (f : NormalForm) × IsTask g s e × IsTask g t f × (h ≡ joined_form b e f)
IsOpening g (openings.Step b n t) h =
    (f : NormalForm) × IsTask g t f × (h ≡ step_form b (actions_at g.actions n) f)
IsOpening g (openings.Star b way t) h =
    (f : NormalForm) × (again : NormalForm) × IsTask g t f × IsWay g way b (variable 0) again × (h ≡ star b again f)
IsOpening g (openings.Binding b p) h = (f : NormalForm) × IsPlace g p f × (h ≡ fixpoint (kind_for b) 0 f)
IsOpening g (openings.Inevitably p) h = (f : NormalForm) × IsPlace g p f × (h ≡ inevitable p.is_negated f)
IsOpening g (openings.Will b n) h = h ≡ fixpoint (kind_for b) 0 (coming b (actions_at g.actions n))

-- The form begins with the symbol, and has these operands.
abbrev pub Opens : List ActionFormula → Symbol → NormalForm → List NormalForm → Type 0
Opens actions symbols.True f hs = (f ≡ met) × (hs ≡ [])
Opens actions symbols.False f hs = (f ≡ unmet) × (hs ≡ [])
Opens actions symbols.And f hs = (d : NormalForm) × (e : NormalForm) × (f ≡ both d e) × (hs ≡ d ∷ e ∷ [])
Opens actions symbols.Or f hs = (d : NormalForm) × (e : NormalForm) × (f ≡ either d e) × (hs ≡ d ∷ e ∷ [])
Opens actions (symbols.SomeStep n) f hs = (e : NormalForm) × (f ≡ some_step (actions_at actions n) e) × (hs ≡ e ∷ [])
Opens actions (symbols.EveryStep n) f hs =
    (e : NormalForm) × (f ≡ every_step (actions_at actions n) e) × (hs ≡ e ∷ [])
Opens actions (symbols.Fixpoint kind) f hs = (e : NormalForm) × (f ≡ fixpoint (kind_of kind) 0 e) × (hs ≡ e ∷ [])
Opens actions (symbols.Variable i) f hs = (f ≡ variable i) × (hs ≡ [])

-- Symbols and tasks write forms one after the other.
abbrev pub Fill : Basis → List NormalForm → List Item → Type 0
Fill g fs [] = fs ≡ []
Fill g fs (items.Symbol s ∷ is) =
    (f : NormalForm) × (rest : List NormalForm) × (hs : List NormalForm) × (fs ≡ f ∷ rest) × Opens g.actions s f hs ×
    Fill g (hs ++ rest) is
Fill g fs (items.Task t ∷ is) =
    (f : NormalForm) × (rest : List NormalForm) × (fs ≡ f ∷ rest) × IsTask g t f × Fill g rest is

-- forms that are still to be written: the code keeps the next one last
abbrev pub IsToCome : Basis → List NormalForm → List Item → Type 0
IsToCome g fs is = Fill g fs (reverse is)

-- The form is written by a symbol and the items that are now still to be written, in front of the earlier ones.
abbrev pub Writes : Basis → NormalForm → Symbol → List Item → List Item → Type 0
Writes g f s old new = (fs : List NormalForm) → IsToCome g fs old → Fill g (f ∷ fs) (items.Symbol s ∷ reverse new)

-- ---- entries

-- the names of the entries, and the pieces of their trees, as the code keeps them
pub record AreTerms (g : Basis) (terms : List Term) : Type 0 where
  pub count : length g.entries ≡ length terms
  pub names : (n : ℕ) (d : Term) → n < length terms → name_at g.entries n ≡ (slice_index_or terms n d).name.now
  pub trees : (n : ℕ) (d : Term) → n < length terms →
      IsTree g (tree_at g.entries n) (slice_index_or terms n d).pieces.items

-- the form of an entry
abbrev pub entry_form : Basis → ℕ → NormalForm
entry_form g n = form_at g n false [] (tree_at g.entries n)

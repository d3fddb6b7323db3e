-- Tasks: steps in front of goals, and what is still to be written.
use Rattle.std.proofs.Common.{◌≡◌, ℕ, ◌≤◌, Bool, true, false, not, List, [], ◌∷◌, ◌++◌, length, reverse, refl, sym, subst, ◌∙◌, ap}
use Rattle.std.proofs.lemmas.List.{reverse-append}
use Rattle.vpg_requirement.specs.Actions.{ActionFormula}
use Rattle.vpg_requirement.specs.NormalForms.{NormalForm, variable}
use Rattle.vpg_parts.specs.Sets.{actions_at}
use Rattle.vpg_formula.specs.declared.mark.Mark.{Mark}
use Rattle.vpg_formula.specs.declared.mark.Mark.TheVariants as marks
use Rattle.vpg_written.specs.Shapes.{joined_form, step_form, shift_form, star, inevitable}
use Rattle.vpg_written.specs.Trees.{Tree, nothing, node, actions_in, along, Around, tree_form, before}
use Rattle.vpg_written.specs.Terms.{ArePartsOf}
use Rattle.vpg_written.specs.Naming.{around_of}
use Rattle.vpg_written.specs.Tasks.{Basis, IsTree, form_at, IsAt, IsGoal, IsWay, IsStepBy, IsStep, AreSteps, IsTask, IsOpening}
use Rattle.vpg_written.specs.Openings.{is_series, IsSeries, IsAlong, is_negation, IsNegation, IsSame, IsBare, is_opened, IsNamed}
use Rattle.vpg_written.specs.declared.piece.Piece.{Piece}
use Rattle.vpg_written.specs.declared.piece.Parts.{Parts}
use Rattle.vpg_written.specs.declared.task.Binder.{Binder}
use Rattle.vpg_written.specs.declared.task.Binder.TheVariants as binders
use Rattle.vpg_written.specs.declared.task.Way.{Way}
use Rattle.vpg_written.specs.declared.task.Way.TheVariants as ways
use Rattle.vpg_written.specs.declared.task.Step.{Step}
use Rattle.vpg_written.specs.declared.task.Goal.{Goal}
use Rattle.vpg_written.specs.declared.task.Task.{Task}
use Rattle.vpg_written.specs.declared.task.Opening.{Opening}
use Rattle.vpg_written.specs.declared.task.Opening.TheVariants as openings
use Rattle.vpg_written.proofs.Raising.{shift_step, shift_inner, shift_star, shift_along, shift_inevitable, hidden_form, before_alone}
use Rattle.vpg_written.proofs.Lookups.{around_more}
use Rattle.vpg_written.proofs.Arms.{Seen, seen}

module _ (g : Basis) where
  -- ---- places

  pub hidden_at : (ps : List Piece) (sign : Bool) (n : ℕ) (bs : List Binder) (f : NormalForm) → IsAt g ps sign n bs f → IsAt g ps sign n (bs ++ binders.Hidden ∷ []) (shift_form 0 f)
  hidden_at ps sign n bs f here = record {
    known = here.known;
    tree = here.tree;
    term = here.term;
    form = ap (shift_form 0) here.form ∙ hidden_form g.names (before g.names g.entries n) (before_alone g.names g.entries n) here.tree sign (around_of bs)
        ∙ ap (λ (a : Around). form_at g n sign a here.tree) (sym (around_more bs binders.Hidden));
  }

  pub tree_at_place : (ps : List Piece) (sign : Bool) (n : ℕ) (bs : List Binder) (a : Around) (t : Tree) → n ≤ length g.entries → IsTree g t ps → around_of bs ≡ a → IsAt g ps sign n bs (form_at g n sign a t)
  tree_at_place ps sign n bs a t known term e = record { known = known; tree = t; term = term; form = ap (λ (b : Around). form_at g n sign b t) (sym e) }

  -- ---- steps

  pub steps_end : (ss : List Step) (f : NormalForm) → ss ≡ [] → AreSteps g (reverse ss) f f
  steps_end ss f e = subst (λ (xs : List Step). AreSteps g (reverse xs) f f) (sym e) refl

  pub one_more_step : (ss : List Step) (s : Step) (f k h : NormalForm) → AreSteps g (reverse ss) f k → IsStep g s k h → AreSteps g (reverse (ss ++ s ∷ [])) f h
  one_more_step ss s f k h steps step = subst (λ (xs : List Step). AreSteps g xs f h) (sym (reverse-append ss (s ∷ []))) (k, steps, step)

  pub record IsBehind (ss : List Step) (s : Step) (f h : NormalForm) : Type 0 where
    pub middle : NormalForm
    pub steps : AreSteps g (reverse ss) f middle
    pub step : IsStep g s middle h

  pub one_step_less : (ss : List Step) (s : Step) (f h : NormalForm) → AreSteps g (reverse (ss ++ s ∷ [])) f h → IsBehind ss s f h
  one_step_less ss s f h steps = cut (subst (λ (xs : List Step). AreSteps g xs f h) (reverse-append ss (s ∷ [])) steps)
    where
      cut : AreSteps g (s ∷ reverse ss) f h → IsBehind ss s f h
      cut (k, rest, step) = record { middle = k; steps = rest; step = step }

  pub no_steps : (ss : List Step) (f h : NormalForm) → ss ≡ [] → AreSteps g (reverse ss) f h → h ≡ f
  no_steps ss f h e steps = subst (λ (xs : List Step). AreSteps g (reverse xs) f h) e steps

  way_inside : (way : Way) (b : Bool) (f h : NormalForm) (k : ℕ) → IsWay g way b f h → IsWay g way b (shift_form k f) (shift_form k h)
  way_inside (ways.Action n) b f h k e = ap (shift_form k) e ∙ shift_step k b (actions_at g.actions n) f
  way_inside (ways.Regular ps) b f h k (t, term, e) = (t, term, ap (shift_form k) e ∙ shift_along g.names t k b f)

  way_same : (way : Way) (b : Bool) (f h : NormalForm) (k : ℕ) → shift_form k f ≡ f → IsWay g way b f h → shift_form k h ≡ h
  way_same (ways.Action n) b f h k same e = ap (shift_form k) e ∙ shift_step k b (actions_at g.actions n) f ∙ ap (step_form b (actions_at g.actions n)) same ∙ sym e
  way_same (ways.Regular ps) b f h k same (t, term, e) = ap (shift_form k) e ∙ shift_along g.names t k b f ∙ ap (along g.names b t) same ∙ sym e

  step_inside : (repeated : Bool) (way : Way) (b : Bool) (f h : NormalForm) → IsStepBy g repeated way b f h → IsStepBy g repeated way b (shift_form 0 f) (shift_form 0 h)
  step_inside false way b f h step = way_inside way b f h 0 step
  step_inside true way b f h (again, is, e) = (again, is, ap (shift_form 0) e ∙ shift_star 0 b again f (way_same way b (variable 0) again 1 (shift_inner 0) is))

  pub steps_inside : (ss : List Step) (f h : NormalForm) → AreSteps g ss f h → AreSteps g ss (shift_form 0 f) (shift_form 0 h)
  steps_inside [] f h e = ap (shift_form 0) e
  steps_inside (s ∷ ss) f h (k, steps, step) = (shift_form 0 k, steps_inside ss f k steps, step_inside s.is_repeated s.way s.is_every k h step)

  -- ---- tasks

  pub plain_task : (task : Task) (f : NormalForm) → task.steps.items ≡ [] → IsGoal g task.goal f → IsTask g task f
  plain_task task f e goal = record { goal = f; is = goal; steps = steps_end task.steps.items f e }

  pub task_behind : (old new : Task) (s : Step) (f h : NormalForm) → new.steps.items ≡ old.steps.items ++ s ∷ [] → new.goal ≡ old.goal → IsTask g old f → IsStep g s f h → IsTask g new h
  task_behind old new s f h steps goal task step = record {
    goal = task.goal;
    is = subst (λ (x : Goal). IsGoal g x task.goal) (sym goal) task.is;
    steps = subst (λ (ss : List Step). AreSteps g (reverse ss) task.goal h) (sym steps) (one_more_step old.steps.items s task.goal f h task.steps step);
  }

  pub record IsTaskBehind (rest : Task) (s : Step) (h : NormalForm) : Type 0 where
    pub form : NormalForm
    pub task : IsTask g rest form
    pub step : IsStep g s form h

  pub task_less : (task rest : Task) (s : Step) (h : NormalForm) → task.steps.items ≡ rest.steps.items ++ s ∷ [] → rest.goal ≡ task.goal → IsTask g task h → IsTaskBehind rest s h
  task_less task rest s h steps goal is = cut (one_step_less rest.steps.items s is.goal h (subst (λ (ss : List Step). AreSteps g (reverse ss) is.goal h) steps is.steps))
    where
      cut : IsBehind rest.steps.items s is.goal h → IsTaskBehind rest s h
      cut b = record {
        form = b.middle;
        task = record { goal = is.goal; is = subst (λ (x : Goal). IsGoal g x is.goal) (sym goal) is.is; steps = b.steps };
        step = b.step;
      }

  pub task_alone : (task : Task) (h : NormalForm) → task.steps.items ≡ [] → IsTask g task h → IsGoal g task.goal h
  task_alone task h e is = subst (IsGoal g task.goal) (sym (no_steps task.steps.items is.goal h e is.steps)) is.is

  pub task_inside : (old new : Task) (h : NormalForm) → new.steps.items ≡ old.steps.items → ((f : NormalForm) → IsGoal g old.goal f → IsGoal g new.goal (shift_form 0 f)) → IsTask g old h → IsTask g new (shift_form 0 h)
  task_inside old new h steps goal is = record {
    goal = shift_form 0 is.goal;
    is = goal is.goal is.is;
    steps = subst (λ (ss : List Step). AreSteps g (reverse ss) (shift_form 0 is.goal) (shift_form 0 h)) (sym steps) (steps_inside (reverse old.steps.items) is.goal h is.steps);
  }

  -- ---- goals inside one more fixpoint

  pub inevitable_inside : (b : Bool) (f h : NormalForm) → f ≡ inevitable b h → shift_form 0 f ≡ inevitable b (shift_form 0 h)
  inevitable_inside b f h e = ap (shift_form 0) e ∙ shift_inevitable 0 b h

  -- ---- regular formulas

  pub sequence_first : (b : Bool) (t : Tree) (it : Parts) (step : Step) (f : NormalForm) → ArePartsOf g.names g.actions t it → it.piece.mark.now ≡ marks.Sequence →
      ((u : Tree) → IsTree g u it.second.now → IsStep g step f (along g.names b u f)) → IsSeries g b t step it.first.now f
  sequence_first b t it step f parts e h = go (seen g t it parts)
    where
      go : Seen g t it → IsSeries g b t step it.first.now f
      go x = record {
        tree = x.s;
        term = x.first;
        middle = along g.names b x.u f;
        step_is = h x.u x.second;
        form = ap (λ (y : Tree). along g.names b y f) (x.is ∙ ap (λ (n : Mark). node n x.s x.u) e);
      }

  pub repeated_first : (b : Bool) (t : Tree) (it : Parts) (step : Step) (f : NormalForm) → ArePartsOf g.names g.actions t it → it.piece.mark.now ≡ marks.RepeatedOnce →
      ((u : Tree) → IsTree g u it.second.now → IsStep g step f (star b (along g.names b u (variable 0)) f)) → IsSeries g b t step it.second.now f
  repeated_first b t it step f parts e h = go (seen g t it parts)
    where
      go : Seen g t it → IsSeries g b t step it.second.now f
      go x = record {
        tree = x.u;
        term = x.second;
        middle = star b (along g.names b x.u (variable 0)) f;
        step_is = h x.u x.second;
        form = ap (λ (y : Tree). along g.names b y f) (x.is ∙ ap (λ (n : Mark). node n x.s x.u) e);
      }

  pub empty_tree : (t : Tree) (ps : List Piece) → IsTree g t ps → ps ≡ [] → t ≡ nothing
  empty_tree nothing ps h e = refl
  empty_tree (node m s u) ps (us, vs, p, whole, first, second, piece) e = absurd (some us vs (sym whole ∙ e))
    where
      some : (xs ys : List Piece) → xs ++ (ys ++ p ∷ []) ≡ [] → ⊥
      some [] [] h = absurd cc
      some [] (y ∷ ys) h = absurd cc
      some (x ∷ xs) ys h = absurd cc

  not_series : (m : Mark) (s u : Tree) → (m ≡ marks.Sequence → ⊥) → (m ≡ marks.RepeatedOnce → ⊥) → is_series (node m s u) ≡ false
  not_series marks.Sequence s u h k = absurd (h refl)
  not_series marks.RepeatedOnce s u h k = absurd (k refl)
  not_series m s u h k = refl

  pub other_series : (t : Tree) (it : Parts) → ArePartsOf g.names g.actions t it → (it.piece.mark.now ≡ marks.Sequence → ⊥) → (it.piece.mark.now ≡ marks.RepeatedOnce → ⊥) → is_series t ≡ false
  other_series t it parts h k = go (seen g t it parts)
    where
      go : Seen g t it → is_series t ≡ false
      go x = ap is_series x.is ∙ not_series it.piece.mark.now x.s x.u h k

  pub empty_series : (t : Tree) (ps : List Piece) → IsTree g t ps → ps ≡ [] → is_series t ≡ false
  empty_series t ps h e = ap is_series (empty_tree t ps h e)

  pub choice_opens : (b : Bool) (t : Tree) (it : Parts) (o : Opening) (f : NormalForm) → ArePartsOf g.names g.actions t it → it.piece.mark.now ≡ marks.Choice →
      ((s u : Tree) → IsTree g s it.first.now → IsTree g u it.second.now → IsOpening g o (joined_form b (along g.names b s f) (along g.names b u f))) → IsOpening g o (along g.names b t f)
  choice_opens b t it o f parts e h = go (seen g t it parts)
    where
      go : Seen g t it → IsOpening g o (along g.names b t f)
      go x = subst (IsOpening g o) (sym (ap (λ (y : Tree). along g.names b y f) (x.is ∙ ap (λ (n : Mark). node n x.s x.u) e))) (h x.s x.u x.first x.second)

  pub repeated_opens : (b : Bool) (t : Tree) (it : Parts) (task : Task) (f : NormalForm) → ArePartsOf g.names g.actions t it → it.piece.mark.now ≡ marks.Repeated → IsTask g task f →
      IsOpening g (openings.Star b (ways.Regular it.second) task) (along g.names b t f)
  repeated_opens b t it task f parts e h = go (seen g t it parts)
    where
      go : Seen g t it → IsOpening g (openings.Star b (ways.Regular it.second) task) (along g.names b t f)
      go x = (f, along g.names b x.u (variable 0), h, (x.u, x.second, refl), ap (λ (y : Tree). along g.names b y f) (x.is ∙ ap (λ (n : Mark). node n x.s x.u) e))

  one_action : (b : Bool) (m : Mark) (s u : Tree) (f : NormalForm) → is_series (node m s u) ≡ false → (m ≡ marks.Choice → ⊥) → (m ≡ marks.Repeated → ⊥) → along g.names b (node m s u) f ≡ step_form b (actions_in g.names (node m s u)) f
  one_action b marks.Sequence s u f e h k = absurd cc
  one_action b marks.RepeatedOnce s u f e h k = absurd cc
  one_action b marks.Choice s u f e h k = absurd (h refl)
  one_action b marks.Repeated s u f e h k = absurd (k refl)
  one_action b m s u f e h k = refl

  pub action_opens : (b : Bool) (t : Tree) (it : Parts) (task : Task) (f : NormalForm) → ArePartsOf g.names g.actions t it → is_series t ≡ false → (it.piece.mark.now ≡ marks.Choice → ⊥) → (it.piece.mark.now ≡ marks.Repeated → ⊥) → IsTask g task f →
      IsOpening g (openings.Step b it.piece.set task) (along g.names b t f)
  action_opens b t it task f parts e h k is = go (seen g t it parts)
    where
      go : Seen g t it → IsOpening g (openings.Step b it.piece.set task) (along g.names b t f)
      go x = (
        f,
        is,
        ap (λ (y : Tree). along g.names b y f) x.is ∙ one_action b it.piece.mark.now x.s x.u f (sym (ap is_series x.is) ∙ e) h k
            ∙ ap (λ (a : ActionFormula). step_form b a f) (ap (actions_in g.names) (sym x.is) ∙ sym x.set),
      )

  pub nothing_opens : (b : Bool) (t : Tree) (ps : List Piece) (task : Task) (f : NormalForm) → IsTree g t ps → ps ≡ [] → IsTask g task f → IsOpening g (openings.Step b 1 task) (along g.names b t f)
  nothing_opens b t ps task f h e is = (f, is, ap (λ (y : Tree). along g.names b y f) (empty_tree t ps h e) ∙ ap (λ (a : ActionFormula). step_form b a f) (sym g.constants.none))

  -- ---- negations

  pub one_negation : (t : Tree) (it : Parts) → ArePartsOf g.names g.actions t it → it.piece.mark.now ≡ marks.Not → IsNegation g t it.second.now
  one_negation t it parts e = go (seen g t it parts)
    where
      go : Seen g t it → IsNegation g t it.second.now
      go x = record {
        tree = x.u;
        term = x.second;
        form = λ earlier sign around. ap (tree_form g.names earlier sign around) (x.is ∙ ap (λ (n : Mark). node n x.s x.u) e);
      }

  not_negated : (m : Mark) (s u : Tree) → (m ≡ marks.Not → ⊥) → is_negation (node m s u) ≡ false
  not_negated marks.Not s u h = absurd (h refl)
  not_negated m s u h = refl

  pub other_negation : (t : Tree) (it : Parts) → ArePartsOf g.names g.actions t it → (it.piece.mark.now ≡ marks.Not → ⊥) → is_negation t ≡ false
  other_negation t it parts h = go (seen g t it parts)
    where
      go : Seen g t it → is_negation t ≡ false
      go x = ap is_negation x.is ∙ not_negated it.piece.mark.now x.s x.u h

  pub empty_negation : (t : Tree) (ps : List Piece) → IsTree g t ps → ps ≡ [] → is_negation t ≡ false
  empty_negation t ps h e = ap is_negation (empty_tree t ps h e)

  pub one_less : (t : Tree) (sign now : Bool) (ps qs : List Piece) → IsSame g t sign ps now → ((u : Tree) → IsTree g u ps → IsNegation g u qs) → IsSame g t sign qs (not now)
  one_less t sign now ps qs same h = go (h same.tree same.term)
    where
      go : IsNegation g same.tree qs → IsSame g t sign qs (not now)
      go n = record {
        tree = n.tree;
        term = n.term;
        form = λ earlier around. same.form earlier around ∙ n.form earlier now around;
      }

  pub same_already : (t : Tree) (sign : Bool) (ps : List Piece) → IsTree g t ps → IsSame g t sign ps sign
  same_already t sign ps h = record { tree = t; term = h; form = λ earlier around. refl }

  -- ---- along regular formulas

  pub along_already : (b : Bool) (t : Tree) (ps : List Piece) (task : Task) (f : NormalForm) → IsTree g t ps → IsTask g task f → IsAlong g b ps task (along g.names b t f)
  along_already b t ps task f h is = record { tree = t; term = h; form = f; task_is = is; is = refl }

  pub along_further : (b : Bool) (ps qs : List Piece) (old new : Task) (s : Step) (h : NormalForm) → IsAlong g b ps old h → ((t : Tree) (f : NormalForm) → IsTree g t ps → IsSeries g b t s qs f) →
      ((f k : NormalForm) → IsTask g old f → IsStep g s f k → IsTask g new k) → IsAlong g b qs new h
  along_further b ps qs old new s h a series behind = go (series a.tree a.form a.term)
    where
      go : IsSeries g b a.tree s qs a.form → IsAlong g b qs new h
      go x = record {
        tree = x.tree;
        term = x.term;
        form = x.middle;
        task_is = behind a.form x.middle a.task_is x.step_is;
        is = a.is ∙ x.form;
      }

  pub along_last : (b : Bool) (ps : List Piece) (task : Task) (o : Opening) (h : NormalForm) → IsAlong g b ps task h → ((t : Tree) (f : NormalForm) → IsTree g t ps → IsTask g task f → IsOpening g o (along g.names b t f)) → IsOpening g o h
  along_last b ps task o h a opens = subst (IsOpening g o) (sym a.is) (opens a.tree a.form a.term a.task_is)

  opened_mark : (m : Mark) (s u : Tree) → is_negation (node m s u) ≡ false → ((x : List ℕ) → m ≡ marks.Named x → ⊥) → is_opened m ≡ true
  opened_mark marks.Not s u e h = absurd cc
  opened_mark (marks.Named x) s u e h = absurd (h x refl)
  opened_mark m s u e h = refl

  pub opened_parts : (t : Tree) (it : Parts) → ArePartsOf g.names g.actions t it → is_negation t ≡ false → ((x : List ℕ) → it.piece.mark.now ≡ marks.Named x → ⊥) → is_opened it.piece.mark.now ≡ true
  opened_parts t it parts e h = go (seen g t it parts)
    where
      go : Seen g t it → is_opened it.piece.mark.now ≡ true
      go x = opened_mark it.piece.mark.now x.s x.u (sym (ap is_negation x.is) ∙ e) h

  pub named_tree : (t : Tree) (it : Parts) (x : List ℕ) → ArePartsOf g.names g.actions t it → it.piece.mark.now ≡ marks.Named x → IsNamed t x
  named_tree nothing it x parts e = absurd parts
  named_tree (node m s u) it x parts e = sym parts.mark ∙ e

  -- ---- formulas without their negations

  pub form_bare : (ps qs : List Piece) (sign other : Bool) (n : ℕ) (bs : List Binder) (f : NormalForm) (place : IsAt g ps sign n bs f) (b : IsBare g place.tree sign qs other) → f ≡ form_at g n other (around_of bs) b.same.tree
  form_bare ps qs sign other n bs f place b = place.form ∙ b.same.form (before g.names g.entries n) (around_of bs)

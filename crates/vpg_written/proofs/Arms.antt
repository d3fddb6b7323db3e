-- How the form of a tree begins, by its mark.
use Rattle.std.proofs.Common.{◌≡◌, ℕ, Bool, not, List, ◌∷◌, Some, refl, sym, subst, ◌∙◌, ap}
use Rattle.vpg_requirement.specs.Actions as numbered
use Rattle.vpg_requirement.specs.Actions.{ActionFormula}
use Rattle.vpg_requirement.specs.NormalForms.{NormalForm, fixpoint, variable}
use Rattle.vpg_parts.specs.Sets.{actions_at}
use Rattle.vpg_formula.specs.declared.mark.Mark.{Mark}
use Rattle.vpg_formula.specs.declared.mark.Mark.TheVariants as marks
use Rattle.vpg_written.specs.Shapes.{constant_form, joined_form, step_form, kind_for, any_step, coming, inevitable}
use Rattle.vpg_written.specs.Trees.{Tree, nothing, node, actions_in, along, Around}
use Rattle.vpg_written.specs.Terms.{ArePartsOf, set_at_end}
use Rattle.vpg_written.specs.Tasks.{Basis, IsTree, form_at, IsPlace, IsTask, IsWay, IsOpening}
use Rattle.vpg_written.specs.declared.piece.Piece.{Piece}
use Rattle.vpg_written.specs.declared.piece.Parts.{Parts}
use Rattle.vpg_written.specs.declared.task.Place.{Place}
use Rattle.vpg_written.specs.declared.task.Way.TheVariants as ways
use Rattle.vpg_written.specs.declared.task.Task.{Task}
use Rattle.vpg_written.specs.declared.task.Opening.{Opening}
use Rattle.vpg_written.specs.declared.task.Opening.TheVariants as openings
use Rattle.vpg_written.proofs.Parsing.{set_of_term}

-- the set of a term is that of its tree
pub term_set : (g : Basis) (t : Tree) (ps : List Piece) → IsTree g t ps → actions_at g.actions (set_at_end ps) ≡ actions_in g.names t
term_set g t ps h = set_of_term g.names g.actions g.constants.none t ps h

-- the tree of parts, by what the mark is
pub record Seen (g : Basis) (t : Tree) (it : Parts) : Type 0 where
  pub s : Tree
  pub u : Tree
  pub is : t ≡ node it.piece.mark.now s u
  pub set : actions_at g.actions it.piece.set ≡ actions_in g.names t
  pub first : IsTree g s it.first.now
  pub second : IsTree g u it.second.now

pub seen : (g : Basis) (t : Tree) (it : Parts) → ArePartsOf g.names g.actions t it → Seen g t it
seen g nothing it h = absurd h
seen g (node m s u) it h = record {
  s = s;
  u = u;
  is = ap (λ (n : Mark). node n s u) (sym h.mark);
  set = h.set;
  first = h.first;
  second = h.second;
}

-- to show something of the form of a tree, show it of that of its mark
shown : (g : Basis) (t : Tree) (it : Parts) (m : Mark) (P : Tree → Type 0) → ArePartsOf g.names g.actions t it → it.piece.mark.now ≡ m →
    ((s u : Tree) → IsTree g s it.first.now → IsTree g u it.second.now → actions_at g.actions it.piece.set ≡ actions_in g.names (node m s u) → P (node m s u)) → P t
shown g t it m P h e show = go (seen g t it h)
  where
    go : Seen g t it → P t
    go x = back (show x.s x.u x.first x.second (x.set ∙ ap (actions_in g.names) same))
      where
        same : t ≡ node m x.s x.u
        same = x.is ∙ ap (λ (n : Mark). node n x.s x.u) e

        back : P (node m x.s x.u) → P t
        back p = subst P (sym same) p

module _ (g : Basis) (n : ℕ) (sign : Bool) (around : Around) (t : Tree) (it : Parts) (parts : ArePartsOf g.names g.actions t it) where
  abbrev pub IsSecond : Task → (Tree → NormalForm) → Type 0
  IsSecond task f = (u : Tree) → IsTree g u it.second.now → IsTask g task (f u)

  every_again : (b : Bool) → IsWay g (ways.Action 0) b (variable 0) (any_step b)
  every_again b = ap (λ (x : ActionFormula). step_form b x (variable 0)) (sym g.constants.every)

  pub true_opens : it.piece.mark.now ≡ marks.True → IsOpening g (openings.Constant (not sign)) (form_at g n sign around t)
  true_opens e = shown g t it marks.True (λ u. IsOpening g (openings.Constant (not sign)) (form_at g n sign around u)) parts e (λ s u a b c. refl)

  pub deadlock_opens : (task : Task) → IsTask g task (step_form sign (actions_at g.actions 0) (constant_form (not sign))) → it.piece.mark.now ≡ marks.DeadlockFree → IsOpening g (openings.Star (not sign) (ways.Action 0) task) (form_at g n sign around t)
  deadlock_opens task h e = shown g t it marks.DeadlockFree (λ u. IsOpening g (openings.Star (not sign) (ways.Action 0) task) (form_at g n sign around u)) parts e
      (λ s u a b c. (step_form sign numbered.every_action (constant_form (not sign)), any_step (not sign), subst (λ (x : ActionFormula). IsTask g task (step_form sign x (constant_form (not sign)))) g.constants.every h, every_again (not sign), refl))

  pub can_opens : (task : Task) (x : ℕ) → IsTask g task (constant_form (not sign)) → x ≡ set_at_end it.second.now → it.piece.mark.now ≡ marks.Can → IsOpening g (openings.Step sign x task) (form_at g n sign around t)
  can_opens task x h set e = shown g t it marks.Can (λ u. IsOpening g (openings.Step sign x task) (form_at g n sign around u)) parts e
      (λ s u a b c. (constant_form (not sign), h, ap (λ (y : ActionFormula). step_form sign y (constant_form (not sign))) (sym (ap (actions_at g.actions) set ∙ term_set g u it.second.now b))))

  pub will_opens : it.piece.mark.now ≡ marks.Will → IsOpening g (openings.Will sign it.piece.set) (form_at g n sign around t)
  will_opens e = shown g t it marks.Will (λ u. IsOpening g (openings.Will sign it.piece.set) (form_at g n sign around u)) parts e
      (λ s u a b c. ap (λ (y : ActionFormula). fixpoint (kind_for sign) 0 (coming sign y)) (sym c))

  pub some_path_opens : (o : Opening) (task : Task) → ((s : Tree) (f : NormalForm) → IsTree g s it.first.now → IsTask g task f → IsOpening g o (along g.names sign s f)) → IsSecond task (form_at g n sign around) → it.piece.mark.now ≡ marks.SomePath →
      IsOpening g o (form_at g n sign around t)
  some_path_opens o task h k e = shown g t it marks.SomePath (λ u. IsOpening g o (form_at g n sign around u)) parts e (λ s u a b c. h s (form_at g n sign around u) a (k u b))

  pub every_path_opens : (o : Opening) (task : Task) → ((s : Tree) (f : NormalForm) → IsTree g s it.first.now → IsTask g task f → IsOpening g o (along g.names (not sign) s f)) → IsSecond task (form_at g n sign around) → it.piece.mark.now ≡ marks.EveryPath →
      IsOpening g o (form_at g n sign around t)
  every_path_opens o task h k e = shown g t it marks.EveryPath (λ u. IsOpening g o (form_at g n sign around u)) parts e (λ s u a b c. h s (form_at g n sign around u) a (k u b))

  pub always_opens : (task : Task) → IsSecond task (form_at g n sign around) → it.piece.mark.now ≡ marks.Always → IsOpening g (openings.Star (not sign) (ways.Action 0) task) (form_at g n sign around t)
  always_opens task k e = shown g t it marks.Always (λ u. IsOpening g (openings.Star (not sign) (ways.Action 0) task) (form_at g n sign around u)) parts e
      (λ s u a b c. (form_at g n sign around u, any_step (not sign), k u b, every_again (not sign), refl))

  pub never_opens : (task : Task) → IsSecond task (form_at g n (not sign) around) → it.piece.mark.now ≡ marks.Never → IsOpening g (openings.Star (not sign) (ways.Action 0) task) (form_at g n sign around t)
  never_opens task k e = shown g t it marks.Never (λ u. IsOpening g (openings.Star (not sign) (ways.Action 0) task) (form_at g n sign around u)) parts e
      (λ s u a b c. (form_at g n (not sign) around u, any_step (not sign), k u b, every_again (not sign), refl))

  pub possibly_opens : (task : Task) → IsSecond task (form_at g n sign around) → it.piece.mark.now ≡ marks.Possibly → IsOpening g (openings.Star sign (ways.Action 0) task) (form_at g n sign around t)
  possibly_opens task k e = shown g t it marks.Possibly (λ u. IsOpening g (openings.Star sign (ways.Action 0) task) (form_at g n sign around u)) parts e
      (λ s u a b c. (form_at g n sign around u, any_step sign, k u b, every_again sign, refl))

  pub again_opens : (task : Task) → IsSecond task (λ u. inevitable sign (form_at g n sign around u)) → it.piece.mark.now ≡ marks.AgainAndAgain → IsOpening g (openings.Star (not sign) (ways.Action 0) task) (form_at g n sign around t)
  again_opens task k e = shown g t it marks.AgainAndAgain (λ u. IsOpening g (openings.Star (not sign) (ways.Action 0) task) (form_at g n sign around u)) parts e
      (λ s u a b c. (inevitable sign (form_at g n sign around u), any_step (not sign), k u b, every_again (not sign), refl))

  pub inevitably_opens : (p : Place) → ((u : Tree) → IsTree g u it.second.now → IsPlace g p (form_at g n sign around u)) → p.is_negated ≡ sign → it.piece.mark.now ≡ marks.Inevitably → IsOpening g (openings.Inevitably p) (form_at g n sign around t)
  inevitably_opens p k same e = shown g t it marks.Inevitably (λ u. IsOpening g (openings.Inevitably p) (form_at g n sign around u)) parts e
      (λ s u a b c. (form_at g n sign around u, k u b, ap (λ (d : Bool). inevitable d (form_at g n sign around u)) (sym same)))

  pub after_opens : (task : Task) (x : ℕ) → x ≡ set_at_end it.first.now → ((u : Tree) → IsTree g u it.second.now → IsTask g task (step_form (not sign) (actions_at g.actions x) (form_at g n sign around u))) → it.piece.mark.now ≡ marks.After →
      IsOpening g (openings.Star (not sign) (ways.Action 0) task) (form_at g n sign around t)
  after_opens task x set k e = shown g t it marks.After (λ u. IsOpening g (openings.Star (not sign) (ways.Action 0) task) (form_at g n sign around u)) parts e
      (λ s u a b c. (
        step_form (not sign) (actions_in g.names s) (form_at g n sign around u),
        any_step (not sign),
        subst (λ (y : ActionFormula). IsTask g task (step_form (not sign) y (form_at g n sign around u))) (ap (actions_at g.actions) set ∙ term_set g s it.first.now a) (k u b),
        every_again (not sign),
        refl,
      ))

  pub and_opens : (o : Opening) → ((s u : Tree) → IsTree g s it.first.now → IsTree g u it.second.now → IsOpening g o (joined_form (not sign) (form_at g n sign around s) (form_at g n sign around u))) → it.piece.mark.now ≡ marks.And →
      IsOpening g o (form_at g n sign around t)
  and_opens o h e = shown g t it marks.And (λ u. IsOpening g o (form_at g n sign around u)) parts e (λ s u a b c. h s u a b)

  pub or_opens : (o : Opening) → ((s u : Tree) → IsTree g s it.first.now → IsTree g u it.second.now → IsOpening g o (joined_form sign (form_at g n sign around s) (form_at g n sign around u))) → it.piece.mark.now ≡ marks.Or →
      IsOpening g o (form_at g n sign around t)
  or_opens o h e = shown g t it marks.Or (λ u. IsOpening g o (form_at g n sign around u)) parts e (λ s u a b c. h s u a b)

  pub implies_opens : (o : Opening) → ((s u : Tree) → IsTree g s it.first.now → IsTree g u it.second.now → IsOpening g o (joined_form sign (form_at g n (not sign) around s) (form_at g n sign around u))) → it.piece.mark.now ≡ marks.Implies →
      IsOpening g o (form_at g n sign around t)
  implies_opens o h e = shown g t it marks.Implies (λ u. IsOpening g o (form_at g n sign around u)) parts e (λ s u a b c. h s u a b)

  pub least_opens : (p : Place) (x : List ℕ) → ((u : Tree) → IsTree g u it.second.now → IsPlace g p (form_at g n sign (Some x ∷ around) u)) → it.piece.mark.now ≡ marks.Least x → IsOpening g (openings.Binding sign p) (form_at g n sign around t)
  least_opens p x k e = shown g t it (marks.Least x) (λ u. IsOpening g (openings.Binding sign p) (form_at g n sign around u)) parts e (λ s u a b c. (form_at g n sign (Some x ∷ around) u, k u b, refl))

  pub greatest_opens : (p : Place) (x : List ℕ) → ((u : Tree) → IsTree g u it.second.now → IsPlace g p (form_at g n sign (Some x ∷ around) u)) → it.piece.mark.now ≡ marks.Greatest x → IsOpening g (openings.Binding (not sign) p) (form_at g n sign around t)
  greatest_opens p x k e = shown g t it (marks.Greatest x) (λ u. IsOpening g (openings.Binding (not sign) p) (form_at g n sign around u)) parts e (λ s u a b c. (form_at g n sign (Some x ∷ around) u, k u b, refl))

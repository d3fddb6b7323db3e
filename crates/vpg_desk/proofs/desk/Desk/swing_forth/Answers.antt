use Rattle.std.proofs.Common.{length, ◌<◌, ◌≡◌, ◌∙◌, ◌∷◌, IfSome, IfErr, List, None, Result, Ok, Err, ap, sym, subst}
use Rattle.std.specs.Arc.{arc_value}
use Rattle.std.specs.List.{AllByRecursion}
use Rattle.vpg_measure.specs.Games.{ArePageGames}
use Rattle.vpg_trail.specs.Page.{choices_of}
use Rattle.vpg_desk.specs.Book.{Redo, Redone, Refused, refuses_redo}
use Rattle.vpg_desk.specs.Cuts.{cuts_of, notes_of, pages_of, serials_from_top}
use Rattle.vpg_desk.specs.DeskFields.{desk_of}
use Rattle.vpg_faults.specs.Refusals.{redo_refusal}
use Rattle.vpg_desk.specs.Setting.{HasConflict}
use Rattle.vpg_desk.specs.State.{DeskState, IsStep, Replies, setting_between}
use Rattle.vpg_desk.specs.Trail.{Cut as Saved, FitOver, spliced}
use Rattle.vpg_desk.specs.declared.cuts.Cut.{Cut}
use Rattle.vpg_faults.specs.declared.fault.RedoFault.TheVariants.{Memory}
use Rattle.vpg_desk.proofs.Unchanged.{still_desk}
use Rattle.vpg_desk.proofs.Shared.{held_at, features_at, limit_at}
use Rattle.vpg_desk.proofs.Nearest.{some_future}
use Rattle.vpg_desk.proofs.Swung.{redo_refused, redo_accepted, nearest_below, future_consistent, future_well_formed, redone_step, redone_desk}
use Rattle.vpg_desk.proofs.desk.Desk.swing_forth.Goals as goal
use Rattle.vpg_desk.proofs.desk.Desk.swing_forth.Goals.{After-swing}

pub returns-in-Some-clause-refused : goal.returns-in-Some-clause-refused
returns-in-Some-clause-refused c =
    subst (λ (s : DeskState). IfSome (redo_refusal c.in-Some.fault) (λ refusal. Replies s (Redo c.args.serial) (Refused refusal))) c.self.view_is
    (redo_refused c.self.inside c.self.invariant c.args.serial c.in-Some.fault (ap (λ (l : List Cut). refuses_redo c.args.serial (serials_from_top l)) (sym c.deref.ensures.value) ∙ c.in-Some.ensures))

pub games_over-requires-clause-consistent : goal.games_over-requires-clause-consistent
games_over-requires-clause-consistent c =
    coe 0 1 (k. AllByRecursion (λ x. ¬ (HasConflict (setting_between (sym c.deref-2.ensures k) (sym c.deref-3.ensures k)) (choices_of x.page))) (pages_of c.self.inside.trail.entries (sym c.deref-4.ensures.value k))) (future_consistent c.self.inside c.self.invariant)

pub swing-requires-clause-well_formed : goal.swing-requires-clause-well_formed
swing-requires-clause-well_formed c = future_well_formed c.self.inside c.self.invariant

accepted : (c : After-swing) → refuses_redo c.args.serial (serials_from_top c.self.inside.future.items) ≡ None
accepted c = ap (λ (l : List Cut). refuses_redo c.args.serial (serials_from_top l)) (sym c.deref.ensures.value) ∙ c.in_default.ensures

known : (c : After-swing) (cut : Saved) (further : List Saved) → cuts_of c.self.inside.future.items ≡ cut ∷ further → ArePageGames (arc_value c.self.inside.game) (arc_value c.self.inside.diagram) (choices_of (spliced c.self.inside.trail.entries cut.place cut.suffix)) (arc_value c.in-Ok.games)
known c cut further e =
    coe 0 1 (k. ArePageGames (c.deref-2.ensures k) (c.deref-3.ensures k) (choices_of (spliced c.self.inside.trail.entries cut.place cut.suffix)) (arc_value c.in-Ok.games))
    (c.in-Ok.ensures cut further (ap cuts_of c.deref-4.ensures.value ∙ e))

pub invariant_of-self-2 : goal.invariant_of-self-2
invariant_of-self-2 c =
    let at = (goal.at.invariant_of-self-2 c).After-swing in
    redone_desk c.self.inside c.self.invariant c.args.serial c.in-Ok.games c.in_ok-is_noted.is_noted c.swing.new.to c.swing.new.from c.swing.new.trail c.swing.ensures.vertices (c.swing.ensures.to_below c.self.invariant.past_below) c.swing.ensures.from_below (accepted at) c.in_ok-is_noted.ensures.swung (known at) c.in_ok-is_noted.ensures.note c.in_ok-is_noted.ensures.left

pub returns-clause-accepted : goal.returns-clause-accepted
returns-clause-accepted c session =
    let at = (goal.at.returns-clause-accepted c).After-swing in
    subst (λ (s : DeskState). IsStep s session (Redo c.args.serial) (Redone c.args.serial) (desk_of (record c.self.inside { games = c.in-Ok.games; trail = c.swing.new.trail; past = c.swing.new.to; future = c.swing.new.from; is_noted = c.in_ok-is_noted.is_noted }))) c.self.view_is
    (redone_step c.self.inside c.self.invariant c.args.serial c.in-Ok.games c.in_ok-is_noted.is_noted c.swing.new.to c.swing.new.from c.swing.new.trail c.swing.ensures.vertices (c.swing.ensures.to_below c.self.invariant.past_below) c.swing.ensures.from_below (accepted at) c.in_ok-is_noted.ensures.swung (known at) session)

pub returns-in-Some-clause-last : goal.returns-in-Some-clause-last
returns-in-Some-clause-last c m =
    subst (λ (s : DeskState). Replies s (Redo c.args.serial) (Redone c.args.serial)) c.self.view_is
    (redo_accepted c.self.inside c.self.invariant c.args.serial (ap (λ (l : List Cut). refuses_redo c.args.serial (serials_from_top l)) (sym c.deref.ensures.value) ∙ c.in-Some.ensures ∙ ap redo_refusal m))

pub returns-in_default-games_over-clause-last : goal.returns-in_default-games_over-clause-last
returns-in_default-games_over-clause-last c _ =
    subst (λ (s : DeskState). Replies s (Redo c.args.serial) (Redone c.args.serial)) c.self.view_is
    (redo_accepted c.self.inside c.self.invariant c.args.serial (ap (λ (l : List Cut). refuses_redo c.args.serial (serials_from_top l)) (sym c.deref.ensures.value) ∙ c.in_default.ensures))

-- where it isn't refused, any fault may come
unrefused : {T E X : Type 0} (fault : E) (r : Result T E) → X → IfErr r (λ f. f ≡ fault → X)
unrefused fault (Ok t) x = tt
unrefused fault (Err f) x = λ _. x

pub returns-in_err-is_noted-clause-last : goal.returns-in_err-is_noted-clause-last
returns-in_err-is_noted-clause-last c =
    unrefused Memory c.from_residual.result
    (subst (λ (s : DeskState). Replies s (Redo c.args.serial) (Redone c.args.serial)) c.self.view_is (redo_accepted c.self.inside c.self.invariant c.args.serial (accepted (goal.at.returns-in_err-is_noted-clause-last c).After-swing)))

pub returns-in-Some-clause-nearer : goal.returns-in-Some-clause-nearer
returns-in-Some-clause-nearer c n e =
    nearest_below c.self.inside c.self.invariant c.args.serial n (ap (λ (l : List Cut). refuses_redo c.args.serial (serials_from_top l)) (sym c.deref.ensures.value) ∙ c.in-Some.ensures ∙ ap redo_refusal e)

pub games_over-requires-clause-fits : goal.games_over-requires-clause-fits
games_over-requires-clause-fits c = subst (λ (l : List Cut). FitOver c.self.inside.trail.entries (cuts_of l)) (sym c.deref-4.ensures.value) c.self.invariant.future_fits

pub swing-requires-clause-fits : goal.swing-requires-clause-fits
swing-requires-clause-fits c = c.self.invariant.future_fits

pub swing-requires-clause-below : goal.swing-requires-clause-below
swing-requires-clause-below c = c.self.invariant.future_below

pub games_over-requires-clause-held : goal.games_over-requires-clause-held
games_over-requires-clause-held c =
    held_at c.self.inside c.self.invariant c.deref-2.result.now c.deref-3.result.now c.deref-5.result.now c.deref-2.ensures c.deref-3.ensures c.deref-5.ensures

pub invariant_of-self : goal.invariant_of-self
invariant_of-self c =
    still_desk c.self.inside c.self.invariant c.swing.new.trail c.swing.new.to c.swing.new.from c.in_err-is_noted.ensures.err_trail (ap cuts_of c.in_err-is_noted.ensures.err_to) c.in_err-is_noted.ensures.err_from
    (ap notes_of c.in_err-is_noted.ensures.err_to) c.in_err-is_noted.ensures.err_notes
    (c.swing.ensures.to_below c.self.invariant.past_below) c.swing.ensures.from_below

pub games_over-requires-clause-some : goal.games_over-requires-clause-some
games_over-requires-clause-some c = subst (λ (l : List Cut). 0 < length l) (c.deref.ensures.value ∙ sym c.deref-4.ensures.value) (some_future c.args.serial c.deref.result.now c.in_default.ensures)

pub swing-requires-clause-some : goal.swing-requires-clause-some
swing-requires-clause-some c = subst (λ (l : List Cut). 0 < length l) c.deref.ensures.value (some_future c.args.serial c.deref.result.now c.in_default.ensures)

pub games_over-requires-clause-features : goal.games_over-requires-clause-features
games_over-requires-clause-features c = features_at c.self.inside c.self.invariant c.deref-2.result.now c.deref-3.result.now c.deref-2.ensures c.deref-3.ensures

pub games_over-requires-clause-not_at_limit : goal.games_over-requires-clause-not_at_limit
games_over-requires-clause-not_at_limit c = limit_at c.self.inside c.self.invariant c.deref-2.result.now c.deref-2.ensures

use Rattle.std.proofs.Common.{length, ◌<◌, ◌≡◌, ◌∙◌, ◌∷◌, IfSome, IfErr, List, None, Result, Ok, Err, ap, sym, subst}
use Rattle.std.specs.Arc.{arc_value}
use Rattle.std.specs.List.{AllByRecursion}
use Rattle.vpg_measure.specs.Games.{ArePageGames}
use Rattle.vpg_trail.specs.Page.{choices_of}
use Rattle.vpg_desk.specs.Book.{Undo, Undone, Refused, refuses_undo}
use Rattle.vpg_desk.specs.Cuts.{cuts_of, notes_of, pages_of, serials_from_top}
use Rattle.vpg_desk.specs.DeskFields.{desk_of}
use Rattle.vpg_faults.specs.Refusals.{undo_refusal}
use Rattle.vpg_desk.specs.Setting.{HasConflict}
use Rattle.vpg_desk.specs.State.{DeskState, IsStep, Replies, setting_between}
use Rattle.vpg_desk.specs.Trail.{Cut as Saved, FitOver, spliced}
use Rattle.vpg_desk.specs.declared.cuts.Cut.{Cut}
use Rattle.vpg_faults.specs.declared.fault.UndoFault.TheVariants.{Memory}
use Rattle.vpg_desk.proofs.Unchanged.{still_desk}
use Rattle.vpg_desk.proofs.Shared.{held_at, features_at, limit_at}
use Rattle.vpg_desk.proofs.Nearest.{some_past}
use Rattle.vpg_desk.proofs.Swung.{undo_refused, undo_accepted, newest_above, past_consistent, past_well_formed, undone_step, undone_desk}
use Rattle.vpg_desk.proofs.desk.Desk.swing_back.Goals as goal
use Rattle.vpg_desk.proofs.desk.Desk.swing_back.Goals.{After-swing}

pub returns-in-Some-clause-refused : goal.returns-in-Some-clause-refused
returns-in-Some-clause-refused c =
    subst (λ (s : DeskState). IfSome (undo_refusal c.in-Some.fault) (λ refusal. Replies s (Undo c.args.serial) (Refused refusal))) c.self.view_is
    (undo_refused c.self.inside c.self.invariant c.args.serial c.in-Some.fault (ap (λ (l : List Cut). refuses_undo c.args.serial (serials_from_top l)) (sym c.deref.ensures.value) ∙ c.in-Some.ensures))

pub games_over-requires-clause-consistent : goal.games_over-requires-clause-consistent
games_over-requires-clause-consistent c =
    coe 0 1 (k. AllByRecursion (λ x. ¬ (HasConflict (setting_between (sym c.deref-2.ensures k) (sym c.deref-3.ensures k)) (choices_of x.page))) (pages_of c.self.inside.trail.entries (sym c.deref-4.ensures.value k))) (past_consistent c.self.inside c.self.invariant)

pub swing-requires-clause-well_formed : goal.swing-requires-clause-well_formed
swing-requires-clause-well_formed c = past_well_formed c.self.inside c.self.invariant

accepted : (c : After-swing) → refuses_undo c.args.serial (serials_from_top c.self.inside.past.items) ≡ None
accepted c = ap (λ (l : List Cut). refuses_undo c.args.serial (serials_from_top l)) (sym c.deref.ensures.value) ∙ c.in_default.ensures

known : (c : After-swing) (cut : Saved) (further : List Saved) → cuts_of c.self.inside.past.items ≡ cut ∷ further → ArePageGames (arc_value c.self.inside.game) (arc_value c.self.inside.diagram) (choices_of (spliced c.self.inside.trail.entries cut.place cut.suffix)) (arc_value c.in-Ok.games)
known c cut further e =
    coe 0 1 (k. ArePageGames (c.deref-2.ensures k) (c.deref-3.ensures k) (choices_of (spliced c.self.inside.trail.entries cut.place cut.suffix)) (arc_value c.in-Ok.games))
    (c.in-Ok.ensures cut further (ap cuts_of c.deref-4.ensures.value ∙ e))

pub invariant_of-self-2 : goal.invariant_of-self-2
invariant_of-self-2 c =
    let at = (goal.at.invariant_of-self-2 c).After-swing in
    undone_desk c.self.inside c.self.invariant c.args.serial c.in-Ok.games c.in_ok-is_noted.is_noted c.swing.new.from c.swing.new.to c.swing.new.trail c.swing.ensures.vertices c.swing.ensures.from_below (c.swing.ensures.to_below c.self.invariant.future_below) (accepted at) c.in_ok-is_noted.ensures.swung (known at) c.in_ok-is_noted.ensures.note c.in_ok-is_noted.ensures.left

pub returns-clause-accepted : goal.returns-clause-accepted
returns-clause-accepted c session =
    let at = (goal.at.returns-clause-accepted c).After-swing in
    subst (λ (s : DeskState). IsStep s session (Undo c.args.serial) (Undone c.args.serial) (desk_of (record c.self.inside { games = c.in-Ok.games; trail = c.swing.new.trail; past = c.swing.new.from; future = c.swing.new.to; is_noted = c.in_ok-is_noted.is_noted }))) c.self.view_is
    (undone_step c.self.inside c.self.invariant c.args.serial c.in-Ok.games c.in_ok-is_noted.is_noted c.swing.new.from c.swing.new.to c.swing.new.trail c.swing.ensures.vertices c.swing.ensures.from_below (c.swing.ensures.to_below c.self.invariant.future_below) (accepted at) c.in_ok-is_noted.ensures.swung (known at) session)

pub returns-in-Some-clause-last : goal.returns-in-Some-clause-last
returns-in-Some-clause-last c m =
    subst (λ (s : DeskState). Replies s (Undo c.args.serial) (Undone c.args.serial)) c.self.view_is
    (undo_accepted c.self.inside c.self.invariant c.args.serial (ap (λ (l : List Cut). refuses_undo c.args.serial (serials_from_top l)) (sym c.deref.ensures.value) ∙ c.in-Some.ensures ∙ ap undo_refusal m))

pub returns-in_default-games_over-clause-last : goal.returns-in_default-games_over-clause-last
returns-in_default-games_over-clause-last c _ =
    subst (λ (s : DeskState). Replies s (Undo c.args.serial) (Undone c.args.serial)) c.self.view_is
    (undo_accepted c.self.inside c.self.invariant c.args.serial (ap (λ (l : List Cut). refuses_undo c.args.serial (serials_from_top l)) (sym c.deref.ensures.value) ∙ c.in_default.ensures))

-- where it isn't refused, any fault may come
unrefused : {T E X : Type 0} (fault : E) (r : Result T E) → X → IfErr r (λ f. f ≡ fault → X)
unrefused fault (Ok t) x = tt
unrefused fault (Err f) x = λ _. x

pub returns-in_err-is_noted-clause-last : goal.returns-in_err-is_noted-clause-last
returns-in_err-is_noted-clause-last c =
    unrefused Memory c.from_residual.result
    (subst (λ (s : DeskState). Replies s (Undo c.args.serial) (Undone c.args.serial)) c.self.view_is (undo_accepted c.self.inside c.self.invariant c.args.serial (accepted (goal.at.returns-in_err-is_noted-clause-last c).After-swing)))

pub returns-in-Some-clause-newer : goal.returns-in-Some-clause-newer
returns-in-Some-clause-newer c n e =
    newest_above c.self.inside c.self.invariant c.args.serial n (ap (λ (l : List Cut). refuses_undo c.args.serial (serials_from_top l)) (sym c.deref.ensures.value) ∙ c.in-Some.ensures ∙ ap undo_refusal e)

pub games_over-requires-clause-fits : goal.games_over-requires-clause-fits
games_over-requires-clause-fits c = subst (λ (l : List Cut). FitOver c.self.inside.trail.entries (cuts_of l)) (sym c.deref-4.ensures.value) c.self.invariant.past_fits

pub swing-requires-clause-fits : goal.swing-requires-clause-fits
swing-requires-clause-fits c = c.self.invariant.past_fits

pub swing-requires-clause-below : goal.swing-requires-clause-below
swing-requires-clause-below c = c.self.invariant.past_below

pub games_over-requires-clause-held : goal.games_over-requires-clause-held
games_over-requires-clause-held c =
    held_at c.self.inside c.self.invariant c.deref-2.result.now c.deref-3.result.now c.deref-5.result.now c.deref-2.ensures c.deref-3.ensures c.deref-5.ensures

pub invariant_of-self : goal.invariant_of-self
invariant_of-self c =
    still_desk c.self.inside c.self.invariant c.swing.new.trail c.swing.new.from c.swing.new.to c.in_err-is_noted.ensures.err_trail c.in_err-is_noted.ensures.err_from (ap cuts_of c.in_err-is_noted.ensures.err_to)
    c.in_err-is_noted.ensures.err_notes (ap notes_of c.in_err-is_noted.ensures.err_to)
    c.swing.ensures.from_below (c.swing.ensures.to_below c.self.invariant.future_below)

pub games_over-requires-clause-some : goal.games_over-requires-clause-some
games_over-requires-clause-some c = subst (λ (l : List Cut). 0 < length l) (c.deref.ensures.value ∙ sym c.deref-4.ensures.value) (some_past c.args.serial c.deref.result.now c.in_default.ensures)

pub swing-requires-clause-some : goal.swing-requires-clause-some
swing-requires-clause-some c = subst (λ (l : List Cut). 0 < length l) c.deref.ensures.value (some_past c.args.serial c.deref.result.now c.in_default.ensures)

pub games_over-requires-clause-features : goal.games_over-requires-clause-features
games_over-requires-clause-features c = features_at c.self.inside c.self.invariant c.deref-2.result.now c.deref-3.result.now c.deref-2.ensures c.deref-3.ensures

pub games_over-requires-clause-not_at_limit : goal.games_over-requires-clause-not_at_limit
games_over-requires-clause-not_at_limit c = limit_at c.self.inside c.self.invariant c.deref-2.result.now c.deref-2.ensures

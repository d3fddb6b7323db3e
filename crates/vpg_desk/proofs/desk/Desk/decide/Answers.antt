use Rattle.std.proofs.lemmas.Grind.{common_steps}
use Rattle.std.proofs.Common.{◌≡◌, ◌∙◌, ◌+◌, ◌<◌, ◌≤◌, ◌++◌, ◌∷◌, [], ℕ, None, Result, Ok, Err, IfErr, IfSome, IsTrue, refl, sym, ap, subst, arith, map, List, length}
use Rattle.std.proofs.lemmas.Result.{err_from_is_err_and}
use Rattle.std.specs.Arc.{arc_value}
use Rattle.std.specs.List.{AllByRecursion}
use Rattle.vpg_diagram.specs.DiagramText.{NamedDiagram}
use Rattle.vpg_diagram.specs.FeatureDiagram.{feature_count}
use Rattle.vpg_game.specs.Game.{graph_of}
use Rattle.vpg_guards.specs.Known.{kleene}
use Rattle.vpg_measure.specs.Games.{AreGamesOf, ArePageGames}
use Rattle.vpg_measure.specs.TwoGames.{IsProgressOf}
use Rattle.vpg_trail.specs.Page.{Which, Decided, decisions_of, choices_of, decision_on, table_of}
use Rattle.vpg_trail.specs.Shown.{entry_of}
use Rattle.vpg_desk.specs.Book.{Decide, Changed, Refused, IsSettledPage}
use Rattle.vpg_faults.specs.declared.refusal.Refusal.TheVariants.{UnknownFeature, AlreadyDecided, TooManyChanges}
use Rattle.vpg_desk.specs.Desk.{family_of}
use Rattle.vpg_desk.specs.DeskFields.{desk_of, setting_in}
use Rattle.vpg_desk.specs.Faults.{ClosesWith}
use Rattle.vpg_faults.specs.Refusals.{decide_refusal}
use Rattle.vpg_desk.specs.State.{DeskState, Replies, IsStep}
use Rattle.vpg_faults.specs.declared.fault.DecideFault.TheVariants.{Memory}
use Rattle.vpg_desk.specs.Cuts.{cuts_of, notes_of, cut_book, SuffixesBelow}
use Rattle.vpg_desk.specs.Trail.{book_of}
use Rattle.vpg_desk.specs.declared.cuts.Cut.{Cut}
use Rattle.vpg_desk.proofs.Unchanged.{still_desk, on_err}
use Rattle.vpg_desk.proofs.Shared.{held_at, features_at, limit_at}
use Rattle.vpg_desk.proofs.Decided.{decide_unknown, decide_already, decide_too_many, decide_accepted, closes_refuses, decisions_inside, limits, decided_step, decided_desk}
use Rattle.vpg_desk.proofs.StillSettled.{settled_with}
use Rattle.vpg_desk.proofs.desk.Desk.decide.Goals as goal
use Rattle.vpg_desk.proofs.desk.Desk.decide.Goals.{After-features, After-games_with, After-clear}

count : (c : After-features) → c.features.result ≡ feature_count (arc_value c.self.inside.diagram).lines
count c = c.features.ensures.count ∙ ap (λ (x : NamedDiagram). feature_count x.lines) c.deref.ensures

pub returns-then-feature-features-clause-refused : goal.returns-then-feature-features-clause-refused
returns-then-feature-features-clause-refused c =
    subst (λ (s : DeskState). Replies s (Decide c.args.feature c.args.value) (Refused UnknownFeature)) c.self.view_is
    (decide_unknown c.self.inside c.self.invariant c.args.feature c.args.value (subst (λ (n : ℕ). n ≤ c.args.feature) (count (goal.at.returns-then-feature-features-clause-refused c).After-features) c.if-feature-features.true))

pub returns-in-Some-clause-refused : goal.returns-in-Some-clause-refused
returns-in-Some-clause-refused c =
    subst (λ (s : DeskState). Replies s (Decide c.args.feature c.args.value) (Refused (AlreadyDecided c.in-Some.decision.serial))) c.self.view_is
    (decide_already c.self.inside c.self.invariant c.args.feature c.args.value (subst (λ (n : ℕ). c.args.feature < n) (count (goal.at.returns-in-Some-clause-refused c).After-features) c.if-feature-features.false)
    c.in-Some.decision (sym (c.in-Some.ensures ∙ ap (decision_on c.args.feature) c.entries.ensures.entries)))

pub overflow_add-serial : goal.overflow_add-serial
overflow_add-serial c = omega (arith, (limits c.self.inside c.self.invariant).1)

pub games_with-requires-clause-inside : goal.games_with-requires-clause-inside
games_with-requires-clause-inside c =
    subst (λ (x : NamedDiagram). AllByRecursion (λ y. y.feature < feature_count x.lines) (decisions_of (map entry_of c.entries-entries.result.now) ++ record { serial = c.self.inside.changes + 1; session = c.args.session; feature = c.args.feature; value = c.args.value } ∷ [])) (sym c.deref-3.ensures)
    (decisions_inside c.self.inside c.self.invariant (record { serial = c.self.inside.changes + 1; session = c.args.session; feature = c.args.feature; value = c.args.value })
    (subst (λ (n : ℕ). c.args.feature < n) (count (goal.at.games_with-requires-clause-inside c).After-features) c.if-feature-features.false) (map entry_of c.entries-entries.result.now) c.entries-entries.ensures.entries)

pub returns-in_err-games-clause-refused : goal.returns-in_err-games-clause-refused
returns-in_err-games-clause-refused c = let p = err_from_is_err_and c.from_residual.result c.from_residual.ensures.1 in
    rw (p.1, p.2)
    (subst (λ (s : DeskState). IfSome (decide_refusal c.in_err-games.field-0.0) (λ refusal. Replies s (Decide c.args.feature c.args.value) (Refused refusal))) c.self.view_is
    (closes_refuses c.self.inside c.self.invariant c.args.feature c.args.value (subst (λ (n : ℕ). c.args.feature < n) (count (goal.at.returns-in_err-games-clause-refused c).After-features) c.if-feature-features.false)
    (sym (c.in_default.ensures ∙ ap (decision_on c.args.feature) c.entries.ensures.entries)) (record { serial = c.self.inside.changes + 1; session = c.args.session; feature = c.args.feature; value = c.args.value }) refl refl c.in_err-games.field-0.0
    (coe 0 1 (k. ClosesWith (c.deref-3.ensures k).lines (choices_of (c.entries-entries.ensures.entries k ++ Decided (record { serial = c.self.inside.changes + 1; session = c.args.session; feature = c.args.feature; value = c.args.value }) ∷ [])) c.args.feature c.in_err-games.field-0.0) c.in_err-games.ensures.fault)))

pub returns-then-self-eq-MOST_CHANGES-clause-refused : goal.returns-then-self-eq-MOST_CHANGES-clause-refused
returns-then-self-eq-MOST_CHANGES-clause-refused c =
    subst (λ (s : DeskState). Replies s (Decide c.args.feature c.args.value) (Refused TooManyChanges)) c.self.view_is
    (decide_too_many c.self.inside c.self.invariant c.args.feature c.args.value (subst (λ (n : ℕ). c.args.feature < n) (count (goal.at.returns-then-self-eq-MOST_CHANGES-clause-refused c).After-features) c.if-feature-features.false)
    (sym (c.in_default.ensures ∙ ap (decision_on c.args.feature) c.entries.ensures.entries)) (record { serial = c.self.inside.changes + 1; session = c.args.session; feature = c.args.feature; value = c.args.value }) refl refl (arc_value c.in_ok-games.games).known
    (coe 0 1 (k. ArePageGames (c.deref-2.ensures k) (c.deref-3.ensures k) (choices_of (c.entries-entries.ensures.entries k ++ Decided (record { serial = c.self.inside.changes + 1; session = c.args.session; feature = c.args.feature; value = c.args.value }) ∷ [])) (arc_value c.in_ok-games.games)) c.in_ok-games.ensures.games).known
    c.if-self-eq-MOST_CHANGES.true)

pub overflow_add-self : goal.overflow_add-self
overflow_add-self c = omega (arith, (limits c.self.inside c.self.invariant).0, (limits c.self.inside c.self.invariant).1)

games_are : (c : After-clear) → ArePageGames (arc_value c.self.inside.game) (arc_value c.self.inside.diagram) (choices_of (c.self.inside.trail.entries ++ Decided (record { serial = c.self.inside.changes + 1; session = c.args.session; feature = c.args.feature; value = c.args.value }) ∷ [])) (arc_value c.in_ok-games.games)
games_are c = coe 0 1 (k. ArePageGames (c.deref-2.ensures k) (c.deref-3.ensures k) (choices_of (c.entries-entries.ensures.entries k ++ Decided (record { serial = c.self.inside.changes + 1; session = c.args.session; feature = c.args.feature; value = c.args.value }) ∷ [])) (arc_value c.in_ok-games.games)) c.in_ok-games.ensures.games

pub stays_settled-is_noted-requires : goal.stays_settled-is_noted-requires
stays_settled-is_noted-requires c = subst (λ (s : DeskState). AreGamesOf s.game s.diagram c.deref-5.result.now) c.self.view_is (
  choices_of (c.self.inside.trail.entries ++ Decided (record { serial = c.self.inside.changes + 1; session = c.args.session; feature = c.args.feature; value = c.args.value }) ∷ []),
  coe 0 1 (k. ArePageGames (c.deref-2.ensures k) (c.deref-3.ensures k) (choices_of (c.entries-entries.ensures.entries k ++ Decided (record { serial = c.self.inside.changes + 1; session = c.args.session; feature = c.args.feature; value = c.args.value }) ∷ [])) (sym c.deref-5.ensures k)) c.in_ok-games.ensures.games,
)

-- the note of the page with the decision is true
settled : (c : After-clear) → IsTrue c.stays_settled-is_noted.result → IsSettledPage (family_of (setting_in c.self.inside)) (c.self.inside.trail.entries ++ Decided (record { serial = c.self.inside.changes + 1; session = c.args.session; feature = c.args.feature; value = c.args.value }) ∷ [])
settled c t = settled_with c.self.inside c.self.invariant (arc_value c.in_ok-games.games) (record { serial = c.self.inside.changes + 1; session = c.args.session; feature = c.args.feature; value = c.args.value }) (games_are c)
    (coe 0 1 (k. (which : Which) → IsProgressOf (kleene (c.deref-5.ensures k).known) which (graph_of (arc_value c.self.inside.game)) (table_of which c.self.inside.trail.entries (length (graph_of (arc_value c.self.inside.game)))))
    (subst (λ (s : DeskState). (which : Which) → IsProgressOf (kleene c.deref-5.result.now.known) which (graph_of s.game) (table_of which s.book.present (length (graph_of s.game)))) (sym c.self.view_is) (c.stays_settled-is_noted.ensures t)))

accepted : (c : After-clear) → Replies (desk_of c.self.inside) (Decide c.args.feature c.args.value) (Changed (c.self.inside.changes + 1))
accepted c =
    decide_accepted c.self.inside c.self.invariant c.args.feature c.args.value
    (subst (λ (n : ℕ). c.args.feature < n) (c.features.ensures.count ∙ ap (λ (x : NamedDiagram). feature_count x.lines) c.deref.ensures) c.if-feature-features.false)
    (sym (c.in_default.ensures ∙ ap (decision_on c.args.feature) c.entries.ensures.entries)) (record { serial = c.self.inside.changes + 1; session = c.args.session; feature = c.args.feature; value = c.args.value }) refl refl (arc_value c.in_ok-games.games).known (games_are c).known c.if-self-eq-MOST_CHANGES.false

pub invariant_of-self-2 : goal.invariant_of-self-2
invariant_of-self-2 c =
    let at = (goal.at.invariant_of-self-2 c).After-clear in
    decided_desk c.self.inside c.self.invariant c.args.session c.args.feature c.args.value c.in_ok-games.games c.push_decision.new.past c.push_decision.new.trail c.clear.new.self
    c.in_ok-push_decision.ensures.past c.in_ok-push_decision.ensures.notes c.in_ok-push_decision.ensures.below c.in_ok-push_decision.ensures.trail c.clear.ensures.items (accepted at) c.stays_settled-is_noted.result (settled at) (games_are at)

pub returns-clause-accepted : goal.returns-clause-accepted
returns-clause-accepted c =
    let at = (goal.at.returns-clause-accepted c).After-clear in
    subst (λ (n : ℕ). IsStep c.args.self.now c.args.session (Decide c.args.feature c.args.value) (Changed n) (desk_of (record { game = c.self.inside.game; diagram = c.self.inside.diagram; games = c.in_ok-games.games; trail = c.push_decision.new.trail; past = c.push_decision.new.past; future = c.clear.new.self; changes = c.self.inside.changes + 1; tokens = c.self.inside.tokens + 1; is_noted = c.stays_settled-is_noted.result }))) (sym c.of.ensures)
    (subst (λ (s : DeskState). IsStep s c.args.session (Decide c.args.feature c.args.value) (Changed (c.self.inside.changes + 1)) (desk_of (record { game = c.self.inside.game; diagram = c.self.inside.diagram; games = c.in_ok-games.games; trail = c.push_decision.new.trail; past = c.push_decision.new.past; future = c.clear.new.self; changes = c.self.inside.changes + 1; tokens = c.self.inside.tokens + 1; is_noted = c.stays_settled-is_noted.result }))) c.self.view_is
    (decided_step c.self.inside c.self.invariant c.args.session c.args.feature c.args.value c.in_ok-games.games c.push_decision.new.past c.push_decision.new.trail c.clear.new.self
    c.in_ok-push_decision.ensures.past c.in_ok-push_decision.ensures.notes c.in_ok-push_decision.ensures.below c.in_ok-push_decision.ensures.trail c.clear.ensures.items (accepted at) c.stays_settled-is_noted.result (settled at) (games_are at)))

-- want of memory comes only of a known feature that isn't decided
unrefused : {T E X : Type 0} (fault : E) (r : Result T E) → X → IfErr r (λ f. f ≡ fault → X)
unrefused fault (Ok t) x = tt
unrefused fault (Err f) x = λ _. x

fresh : (c : After-games_with) → (c.args.feature < feature_count c.args.self.now.diagram.lines) × (decision_on c.args.feature c.args.self.now.book.present ≡ None)
fresh c =
    subst (λ (s : DeskState). (c.args.feature < feature_count s.diagram.lines) × (decision_on c.args.feature s.book.present ≡ None)) c.self.view_is (
      subst (λ (n : ℕ). c.args.feature < n) (c.features.ensures.count ∙ ap (λ (x : NamedDiagram). feature_count x.lines) c.deref.ensures) c.if-feature-features.false,
      sym (c.in_default.ensures ∙ ap (decision_on c.args.feature) c.entries.ensures.entries),
    )

pub returns-in_err-games-clause-last : goal.returns-in_err-games-clause-last
returns-in_err-games-clause-last c = unrefused Memory c.from_residual.result (fresh (goal.at.returns-in_err-games-clause-last c).After-games_with)

pub returns-in_err-push_decision-clause-last : goal.returns-in_err-push_decision-clause-last
returns-in_err-push_decision-clause-last c = unrefused Memory c.from_residual-in_err-push_decision.result (fresh (goal.at.returns-in_err-push_decision-clause-last c).After-games_with)

pub games_with-requires-clause-held : goal.games_with-requires-clause-held
games_with-requires-clause-held c =
    held_at c.self.inside c.self.invariant c.deref-2.result.now c.deref-3.result.now c.deref-4.result.now c.deref-2.ensures c.deref-3.ensures c.deref-4.ensures

pub invariant_of-self : goal.invariant_of-self
invariant_of-self c =
    let same = c.in_err-push_decision.ensures.err_past in
    still_desk c.self.inside c.self.invariant c.push_decision.new.trail c.push_decision.new.past c.self.inside.future c.in_err-push_decision.ensures.err_trail (ap cuts_of same) refl (ap notes_of same) refl
    (subst (λ (l : List Cut). SuffixesBelow c.self.inside.trail.vertices l) (sym same) c.self.invariant.past_below) c.self.invariant.future_below

pub games_with-requires-clause-features : goal.games_with-requires-clause-features
games_with-requires-clause-features c = features_at c.self.inside c.self.invariant c.deref-2.result.now c.deref-3.result.now c.deref-2.ensures c.deref-3.ensures

pub games_with-requires-clause-not_at_limit : goal.games_with-requires-clause-not_at_limit
games_with-requires-clause-not_at_limit c = limit_at c.self.inside c.self.invariant c.deref-2.result.now c.deref-2.ensures

pub returns-in_err-push_decision-clause-err : goal.returns-in_err-push_decision-clause-err
returns-in_err-push_decision-clause-err c =
    on_err c.from_residual-in_err-push_decision.result
    ((λ k. record { game = arc_value c.self.inside.game; diagram = arc_value c.self.inside.diagram; book = book_of (cut_book (c.in_err-push_decision.ensures.err_past k) (c.in_err-push_decision.ensures.err_trail k).entries c.self.inside.future.items c.self.inside.changes c.self.inside.tokens) })
    ∙ c.self.view_is)

-- what is known on the page refused nothing

pub refused_as_known-requires-clause-feature : goal.refused_as_known-requires-clause-feature
refused_as_known-requires-clause-feature c =
    subst (λ (s : DeskState). c.args.feature < feature_count s.diagram.lines) c.self.view_is
    (subst (λ (n : ℕ). c.args.feature < n) (count (goal.at.refused_as_known-requires-clause-feature c).After-features) c.if-feature-features.false)

pub refused_as_known-requires-clause-fresh : goal.refused_as_known-requires-clause-fresh
refused_as_known-requires-clause-fresh c =
    subst (λ (s : DeskState). decision_on c.args.feature s.book.present ≡ None) c.self.view_is (sym (c.in_default.ensures ∙ ap (decision_on c.args.feature) c.entries.ensures.entries))

pub returns-then-self-eq-MOST_CHANGES-clause-known : goal.returns-then-self-eq-MOST_CHANGES-clause-known
returns-then-self-eq-MOST_CHANGES-clause-known c = grind (arith, common_steps)

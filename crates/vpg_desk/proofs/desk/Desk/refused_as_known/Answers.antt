use Rattle.std.proofs.Common.{◌≡◌, ◌∙◌, ◌<◌, ℕ, Bool, true, not, List, None, IsTrue, sym, ap, subst, slice_index_or}
use Rattle.std.proofs.lemmas.Bool.{false≢true}
use Rattle.std.specs.Arc.{arc_value}
use Rattle.vpg_diagram.specs.FeatureDiagram.{feature_count}
use Rattle.vpg_guards.specs.declared.tri.Tri.{Tri}
use Rattle.vpg_guards.specs.declared.tri.Tri.TheVariants.{Unknown}
use Rattle.vpg_measure.specs.Games.{GamesView}
use Rattle.vpg_partial.specs.KnownTable.{is_known_as, literals_in}
use Rattle.vpg_trail.specs.Page.{decision_on}
use Rattle.vpg_desk.specs.Book.{Decide, Refused}
use Rattle.vpg_faults.specs.declared.refusal.Refusal.TheVariants.{Conflict, TooManyChanges}
use Rattle.vpg_desk.specs.Faults.{KnownRefusesNone}
use Rattle.vpg_desk.specs.State.{DeskState, Replies}
use Rattle.vpg_desk.proofs.Decided.{decide_known_other, decide_known_same, decide_not_known}
use Rattle.vpg_desk.proofs.desk.Desk.refused_as_known.Goals as goal
use Rattle.vpg_desk.proofs.desk.Desk.refused_as_known.Goals.{else-is_known-2-via-then-is_known-2+else-self-eq-MOST_CHANGES, else-is_known-2-via-else-is_known-2}

-- what was read of the feature is what the table shows
module _ (games : GamesView) (f : ℕ) (x : Tri) (table : List Tri) (read : GamesView) (x_is : x ≡ slice_index_or table f Unknown) (table_is : table ≡ read.known) (read_is : read ≡ games) where
  at : x ≡ slice_index_or games.known f Unknown
  at = x_is ∙ ap (λ (t : List Tri). slice_index_or t f Unknown) (table_is ∙ ap (λ (g : GamesView). g.known) read_is)

  shown : (b v : Bool) → b ≡ is_known_as x v → b ≡ true → IsTrue (literals_in games.known (record { feature = f; value = v }))
  shown b v e t = subst (λ (y : Tri). is_known_as y v ≡ true) at (sym e ∙ t)

  told : (b v : Bool) → b ≡ is_known_as x v → IsTrue (literals_in games.known (record { feature = f; value = v })) → b ≡ true
  told b v e t = e ∙ ap (λ (y : Tri). is_known_as y v) at ∙ t

pub returns-then-is_known-clause-refused : goal.returns-then-is_known-clause-refused
returns-then-is_known-clause-refused c =
    subst (λ (s : DeskState). Replies s (Decide c.args.feature c.args.value) (Refused (Conflict c.args.feature))) c.self.view_is
    (decide_known_other c.self.inside c.self.invariant c.args.feature c.args.value
    (subst (λ (s : DeskState). c.args.feature < feature_count s.diagram.lines) (sym c.self.view_is) c.requires.feature)
    (subst (λ (s : DeskState). decision_on c.args.feature s.book.present ≡ None) (sym c.self.view_is) c.requires.fresh)
    (shown (arc_value c.self.inside.games) c.args.feature c.value-known.result c.known.result.now c.deref.result.now c.value-known.ensures c.known.ensures c.deref.ensures
    c.is_known.result (not c.args.value) c.is_known.ensures c.if-is_known.true))

pub returns-then-self-eq-MOST_CHANGES-clause-refused : goal.returns-then-self-eq-MOST_CHANGES-clause-refused
returns-then-self-eq-MOST_CHANGES-clause-refused c =
    subst (λ (s : DeskState). Replies s (Decide c.args.feature c.args.value) (Refused TooManyChanges)) c.self.view_is
    (decide_known_same c.self.inside c.self.invariant c.args.feature c.args.value
    (subst (λ (s : DeskState). c.args.feature < feature_count s.diagram.lines) (sym c.self.view_is) c.requires.feature)
    (subst (λ (s : DeskState). decision_on c.args.feature s.book.present ≡ None) (sym c.self.view_is) c.requires.fresh)
    (shown (arc_value c.self.inside.games) c.args.feature c.value-known.result c.known.result.now c.deref.result.now c.value-known.ensures c.known.ensures c.deref.ensures
    c.is_known-2.result c.args.value c.is_known-2.ensures c.if-is_known-2.true)
    c.if-self-eq-MOST_CHANGES.true)

pub returns-clause-none : goal.returns-clause-none
returns-clause-none c =
    subst (λ (s : DeskState). KnownRefusesNone s c.args.feature c.args.value) c.self.view_is
    (decide_not_known c.self.inside c.self.invariant c.args.feature c.args.value
    (subst (λ (s : DeskState). c.args.feature < feature_count s.diagram.lines) (sym c.self.view_is) c.requires.feature)
    (subst (λ (s : DeskState). decision_on c.args.feature s.book.present ≡ None) (sym c.self.view_is) c.requires.fresh)
    (λ k. absurd (false≢true (sym c.if-is_known.false ∙ seen c.is_known.result (not c.args.value) c.is_known.ensures k)))
    (elim c.else-is_known-2.branch [
      | else-is_known-2-via-then-is_known-2+else-self-eq-MOST_CHANGES w ↦ (λ k e. w.if-self-eq-MOST_CHANGES.false e)
      | else-is_known-2-via-else-is_known-2 w ↦ (λ k e. absurd (false≢true (sym w.if-is_known-2.false ∙ seen c.is_known-2.result c.args.value c.is_known-2.ensures k)))
    ]))
  where
    seen : (b v : Bool) → b ≡ is_known_as c.value-known.result v → IsTrue (literals_in (arc_value c.self.inside.games).known (record { feature = c.args.feature; value = v })) → b ≡ true
    seen = told (arc_value c.self.inside.games) c.args.feature c.value-known.result c.known.result.now c.deref.result.now c.value-known.ensures c.known.ensures c.deref.ensures

use Rattle.std.proofs.Common.{◌≡◌, ◌↔◌, Bool, false, length, IfOk, IsTrue, Result, Ok, Err, sym, ◌∙◌, subst}
use Rattle.std.proofs.lemmas.Bool.{false≢true}
use Rattle.std.specs.Result.{result_unwrap_or}
use Rattle.vpg_game.specs.Game.{graph_of}
use Rattle.vpg_guards.specs.Known.{kleene}
use Rattle.std.specs.Arc.{arc_value}
use Rattle.vpg_measure.specs.Games.{AreGamesOf}
use Rattle.vpg_measure.specs.Still.{AreGamesOver, AreBothProgress}
use Rattle.vpg_measure.specs.TwoGames.{IsProgressOf}
use Rattle.vpg_trail.specs.Page.{Which, choices_of, table_of}
use Rattle.vpg_desk.specs.State.{DeskState}
use Rattle.vpg_desk.proofs.StillSettled.{games_over, both_of, present_of}
use Rattle.vpg_desk.proofs.desk.Desk.stays_settled.Goals as goal

pub stay_settled-requires-clause-before : goal.stay_settled-requires-clause-before
stay_settled-requires-clause-before c =
    coe 1 0 (k. AreGamesOver (c.deref.ensures k) (c.deref-2.ensures k)) (games_over c.self.inside c.self.invariant (arc_value c.self.inside.games) (choices_of c.self.inside.trail.entries, c.self.invariant.games))

pub stay_settled-requires-clause-now : goal.stay_settled-requires-clause-now
stay_settled-requires-clause-now c =
    coe 1 0 (k. AreGamesOver (c.deref.ensures k) c.args.games.now)
    (games_over c.self.inside c.self.invariant c.args.games.now (subst (λ (s : DeskState). AreGamesOf s.game s.diagram c.args.games.now) (sym c.self.view_is) c.requires))

pub stay_settled-requires-clause-settled : goal.stay_settled-requires-clause-settled
stay_settled-requires-clause-settled c =
    coe 1 0 (k. AreBothProgress (kleene (c.deref-2.ensures k).known) (graph_of (c.deref.ensures k)) c.hopeful-hopeful.result.now c.dual-dual.result.now)
    (both_of c.self.inside c.self.invariant c.hopeful-hopeful.result.now c.dual-dual.result.now c.hopeful-hopeful.ensures c.dual-dual.ensures c.if-not-self.false)

-- true comes of an `Ok` alone
asked : {E P : Type 0} (r : Result Bool E) (b : Bool) → b ≡ result_unwrap_or r false → IfOk r (λ s. IsTrue s ↔ P) → IsTrue b → P
asked (Ok s) b is e t = e.0 (sym is ∙ t)
asked (Err f) b is e t = absurd (false≢true (sym is ∙ t))

pub returns : goal.returns
returns c t =
    let d = c.self.inside in
    subst (λ (s : DeskState). (which : Which) → IsProgressOf (kleene c.args.games.now.known) which (graph_of s.game) (table_of which s.book.present (length (graph_of s.game)))) c.self.view_is
    (present_of d c.self.invariant c.args.games.now c.hopeful-hopeful.result.now c.dual-dual.result.now c.hopeful-hopeful.ensures c.dual-dual.ensures
    (subst (λ game. AreBothProgress (kleene c.args.games.now.known) (graph_of game) c.hopeful-hopeful.result.now c.dual-dual.result.now) c.deref.ensures
    (asked c.stay_settled.result c.unwrap_or.result c.unwrap_or.ensures c.stay_settled.ensures t)))

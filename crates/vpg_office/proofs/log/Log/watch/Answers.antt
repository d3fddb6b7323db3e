use Rattle.std.proofs.lemmas.Grind.{common_steps}
use Rattle.std.proofs.Common.{◌≡◌, List, sym, subst, arith}
use Rattle.std.proofs.lemmas.Result.{IfOk-weaker}
use Rattle.vpg_desk.specs.History.{Event}
use Rattle.vpg_office.specs.Fronts.{IsHistory, family_between}
use Rattle.vpg_office.proofs.Sheets.{shown_history}
use Rattle.vpg_office.proofs.log.Log.watch.Goals as goal

pub returns-clause-history : goal.returns-clause-history
returns-clause-history g c =
    let F = family_between g.L.Terms.game g.L.Terms.diagram in
    IfOk-weaker c.watch.result (λ (w : List Event). w ≡ c.self.inside.press.front) (IsHistory F) (λ w is. subst (IsHistory F) (sym is) (shown_history c.self.invariant)) c.watch.ensures.seen

pub returns-clause-same : goal.returns-clause-same
returns-clause-same g c = grind (arith, common_steps)

pub invariant_of-self : goal.invariant_of-self
invariant_of-self g c = grind (arith, common_steps)

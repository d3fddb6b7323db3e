use Rattle.std.proofs.Common.{◌≡◌, List, sym, ◌∙◌, subst}
use Rattle.std.proofs.lemmas.Result.{IfOk-weaker}
use mathlib.Core.List.{IsPrefix}
use Rattle.vpg_desk.specs.History.{Event}
use Rattle.vpg_office.specs.Fronts.{IsHistory, family_between}
use Rattle.vpg_office.proofs.office.Shared+Row+L+Log+L.watch_from.Goals as goal

pub returns-clause-begins : goal.returns-clause-begins
returns-clause-begins g c =
    IfOk-weaker c.watch_whole-watch.result (λ (w : List Event). w ≡ c.deref_mut.result.now) (IsPrefix c.args.front.now)
    (λ w is. coe 0 1 (k. IsPrefix c.args.front.now ((sym (is ∙ c.deref_mut.ensures.value)) k)) c.log_with-log.ensures.front) c.watch_whole-watch.ensures.whole

pub returns-clause-history : goal.returns-clause-history
returns-clause-history g c =
    let F = family_between g.L.Terms.game g.L.Terms.diagram in
    IfOk-weaker c.watch_whole-watch.result (λ (w : List Event). w ≡ c.deref_mut.result.now) (IsHistory F)
    (λ w is. subst (IsHistory F) (sym (is ∙ c.deref_mut.ensures.value ∙ sym c.deref.ensures)) c.whole-whole.ensures.history) c.watch_whole-watch.ensures.whole

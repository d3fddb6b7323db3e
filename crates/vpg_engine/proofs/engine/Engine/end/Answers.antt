use Rattle.std.proofs.Common.{◌≡◌, ◌+◌, length, subst}
use Rattle.std.specs.Prelude.{IfErr, IfOk}
use Rattle.vpg_office.specs.Fronts.{family_between}
use Rattle.vpg_office.specs.Kept.{IsElsewhere}
use Rattle.vpg_engine.specs.Client.{HasUnknownCall}
use Rattle.vpg_engine.specs.Engine.{EngineState}
use Rattle.vpg_engine.proofs.Serials.{further_counted}
use Rattle.vpg_engine.proofs.engine.Engine.end.Goals as goal

pub returns-clause-ended : goal.returns-clause-ended
returns-clause-ended g c =
    let e = c.self.inside in
    subst (λ (s : EngineState). IfOk c.end.result (λ n. n + length s.held.undos + length s.held.redos ≡ s.client.desk.book.tokens)) c.self.view_is
    (further_counted c.end.result e.undos.items e.redos.items e.client.desk.book.tokens c.end.ensures.ended)

pub returns-clause-others : goal.returns-clause-others
returns-clause-others g c =
    subst (λ (s : EngineState). IfErr c.end.result (λ back. HasUnknownCall (IsElsewhere g.L.Terms.shelves (family_between g.L.Terms.game g.L.Terms.diagram)) s.client back.office)) c.self.view_is
    c.end.ensures.others

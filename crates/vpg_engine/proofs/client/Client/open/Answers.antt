use Rattle.std.proofs.Common.{List, ap₂}
use Rattle.vpg_desk.specs.History.{Event}
use Rattle.vpg_office.specs.Token.{Caller}
use Rattle.vpg_engine.specs.Client.{client_after}
use Rattle.vpg_engine.proofs.client.Client.open.Goals as goal

pub returns-in-Ok-clause-opened : goal.returns-in-Ok-clause-opened
returns-in-Ok-clause-opened g c = ap₂ (λ (sessions : List Caller) (front : List Event). client_after g.L.Terms.game g.L.Terms.diagram sessions front) c.new.ensures.items c.empty.ensures

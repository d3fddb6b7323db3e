use Rattle.std.proofs.Common.{sym, ◌∙◌}
use Rattle.vpg_engine.proofs.client.Client.order.Goals as goal

pub returns-in-Ok-clause-ours : goal.returns-in-Ok-clause-ours
returns-in-Ok-clause-ours g c =
    let is = c.in-Ok.ensures.gives.1.1.1.0 in
    (is.0 ∙ sym c.call.ensures.of.0, is.1 ∙ sym c.call.ensures.of.1)

pub returns-in-Ok-clause-of : goal.returns-in-Ok-clause-of
returns-in-Ok-clause-of g c = c.in-Ok.ensures.gives.1.1.1.0

pub returns-in-Ok-clause-order : goal.returns-in-Ok-clause-order
returns-in-Ok-clause-order g c = c.in-Ok.ensures.gives.1.1.1.1

use Rattle.std.proofs.Common.{◌∙◌}
use Rattle.vpg_office.proofs.token.Token.spending.Goals as goal

pub returns : goal.returns
returns g c = c.asked.ensures ∙ (λ k. g.T.Kind.asks (c.self.view_is k).serial)

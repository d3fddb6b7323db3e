use Rattle.std.proofs.Common.{ap, ◌∙◌}
use Rattle.vpg_office.proofs.session.Session.undo.Goals as goal

pub returns-in-Err-clause-back : goal.returns-in-Err-clause-back
returns-in-Err-clause-back g c = c.from.ensures ∙ ap (λ t. t.token) c.in-Err.ensures.back

use Rattle.std.proofs.Common.{ap, ◌∙◌}
use Rattle.vpg_office.proofs.Committing.{commit_told}
use Rattle.vpg_office.proofs.session.Session.hand_in.Goals as goal

pub returns-in-Err-clause-fault : goal.returns-in-Err-clause-fault
returns-in-Err-clause-fault g c =
    commit_told g.L.Terms.game g.L.Terms.diagram g.L.Terms.limit c.args.harvest c.args.self.now.number c.args.front.now c.call.new.front c.in-Err.field-0.fault c.in-Err.ensures.fault c.in-Err.ensures.named

pub returns-in-Err-clause-back : goal.returns-in-Err-clause-back
returns-in-Err-clause-back g c = c.from.ensures ∙ ap (λ t. t.harvest) c.in-Err.ensures.back

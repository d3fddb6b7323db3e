use Rattle.std.proofs.Common.{◌≡◌, subst}
use Rattle.vpg_engine.proofs.Logged.{one_kind}
use Rattle.vpg_engine.proofs.fault.Back.taken.Goals as goal

pub returns-in-Call-clause-back : goal.returns-in-Call-clause-back
returns-in-Call-clause-back g c = λ call is.
    let same : c.in-Call.call ≡ call = cc (c.in-Call.is, is) in
    subst (λ x. g.T.From.from_gives x c.from.result) same c.from.ensures

pub returns-in-Call-clause-none : goal.returns-in-Call-clause-none
returns-in-Call-clause-none g c = λ given is. absurd (one_kind c.args.self given c.in-Call.call is c.in-Call.is)

pub returns-in-Given-clause-back : goal.returns-in-Given-clause-back
returns-in-Given-clause-back g c = λ call is. absurd (one_kind c.args.self c.in-Given._given call c.in-Given.is is)

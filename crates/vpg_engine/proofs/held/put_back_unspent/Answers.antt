use Rattle.std.proofs.Common.{◌≡◌, subst}
use Rattle.vpg_engine.proofs.Logged.{one_kind}
use Rattle.vpg_engine.proofs.held.put_back_unspent.Goals as goal

pub returns-in-Call : goal.returns-in-Call
returns-in-Call g c = λ call is.
    let same : c.in-Call.call ≡ call = cc (c.in-Call.is, is) in
    (c.from.result, (subst (λ x. g.T.From.from_gives x c.from.result) same c.from.ensures, c.put_back.ensures))

pub returns-in-Given : goal.returns-in-Given
returns-in-Given g c = λ call is. absurd (one_kind c.args.back c.in-Given._given call c.in-Given.is is)

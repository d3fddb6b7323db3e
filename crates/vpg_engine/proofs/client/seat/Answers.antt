use Rattle.std.proofs.Common.{◌≡◌, ◌+◌, ◌-◌, List, subst, arith}
use Rattle.vpg_office.specs.Token.{Caller}
use Rattle.vpg_engine.specs.Client.{IsNumbered}
use Rattle.vpg_engine.proofs.Seats.{unnumbered}
use Rattle.vpg_engine.proofs.client.seat.Goals as goal

pub returns-clause-absent : goal.returns-clause-absent
returns-clause-absent g c =
    let place = c.args.label - 1 in
    let at : place + 1 ≡ c.args.label = omega (arith, c.if-label-eq0.false) in
    unnumbered c.join.new.sessions.items place c.args.label at (c.in-Ok.ensures.enough c.if-not-seated.false)
    (subst (λ (ss : List Caller). ¬ IsNumbered ss place c.args.label) c.deref.ensures.value (c.has_number.ensures.no c.if-has_number.false))

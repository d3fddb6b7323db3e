use Rattle.std.proofs.Common.{◌∙◌, arith}
use Rattle.vpg_engine.proofs.Seats.{joined_longer, joined_own, joined_placed, joined_beyond}
use Rattle.vpg_engine.proofs.client.join.Goals as goal

pub loop-next-preserved : goal.loop-next-preserved
loop-next-preserved g c =
    let before = c.loop-next.sessions.items in
    let after = c.join_one.new.sessions.items in
    let n = c.in_ok-number.number in
    let is = c.in_ok-number.ensures.joined in
    let long = c.loop-next.invariant.at in
    record {
      at = joined_longer before after n is ∙ omega (arith, long);
      own = joined_own before after n is ∙ c.loop-next.invariant.own;
      seated = joined_placed before after n is c.loop-next.next long c.if-number-next.false ∙ c.loop-next.invariant.seated;
    }

pub returns-then-number-next-clause-own : goal.returns-then-number-next-clause-own
returns-then-number-next-clause-own g c =
    joined_own c.loop-next.sessions.items c.join_one.new.sessions.items c.in_ok-number.number c.in_ok-number.ensures.joined ∙ c.loop-next.invariant.own

pub returns-then-number-next-clause-beyond : goal.returns-then-number-next-clause-beyond
returns-then-number-next-clause-beyond g c = λ _.
    joined_beyond c.loop-next.sessions.items c.join_one.new.sessions.items c.in_ok-number.number c.in_ok-number.ensures.joined c.loop-next.next c.args.label c.loop-next.invariant.at c.if-number-next.true c.loop-next-test.true

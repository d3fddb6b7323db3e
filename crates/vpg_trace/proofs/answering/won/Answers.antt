use Rattle.vpg_trace.proofs.Told.{on_ok, tells_short, tells_walk}
use Rattle.vpg_trace.proofs.answering.won.Goals as goal

pub returns-in-Winning : goal.returns-in-Winning
returns-in-Winning c =
    let are = rw c.in-Winning.is at c.in_ok-moves.ensures.found in
    on_ok c.put_won.result _ _
    (tells_walk c.args.order.now c.args.behaviour.now c.args.vertex c.args.beside.now c.args.out.now.items
    c.put_won.new.out.items c.args.limits c.args.mover c.deref.result.now c.in-Winning.moves.items c.deref.ensures.value are) c.put_won.ensures

pub unreachable-requires : goal.unreachable-requires
unreachable-requires c = c.in_ok-moves.ensures.verdict c.requires.verdict c.in-Nothing.is

pub returns-in-Unsettled : goal.returns-in-Unsettled
returns-in-Unsettled c =
    on_ok c.put_unsettled.result _ _
    (tells_short c.args.order.now c.args.behaviour.now c.args.vertex c.args.beside.now c.args.out.now.items
    c.put_unsettled.new.out.items c.args.limits c.args.mover (λ settles. c.in_ok-moves.ensures.settled settles c.in-Unsettled.is)) c.put_unsettled.ensures

use Rattle.std.proofs.Common.{◌≡◌, length, ap, ◌∙◌, arith}
use Rattle.vpg_game.specs.Game.{NamedGame, graph_of}
use Rattle.vpg_open.proofs.Tops.{verdicts_win}
use Rattle.vpg_open.proofs.looking.verdicts.Goals as goal

pub returns-clause-wins : goal.returns-clause-wins
returns-clause-wins c =
    let count : c.vertices-count.result ≡ length (graph_of c.args.order.now.game) =
    c.vertices-count.ensures.graph
    ∙ ap (λ (g : NamedGame). length (graph_of g)) (c.deref.ensures ∙ c.game.ensures.game) in
    verdicts_win c.args.order.now c.game.ensures.order c.loop-v.winners.items
    (omega (arith, c.loop-v.invariant.count, c.loop-v-test.false, c.loop-v.auto.v-end, count))
    (λ v lt. c.loop-v.invariant.verdicts v (omega (arith, lt, c.loop-v-test.false, count)))

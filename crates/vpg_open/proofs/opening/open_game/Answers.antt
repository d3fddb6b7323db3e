use Rattle.std.proofs.Common.{◌∙◌}
use Rattle.std.proofs.lemmas.Result.{IfOk-weaker}
use Rattle.vpg_open.proofs.Tops.{open_vertices_stay, other_vertices_end, winners_stay}
use Rattle.vpg_open.proofs.opening.open_game.Goals as goal

pub returns-clause-open : goal.returns-clause-open
returns-clause-open c =
    IfOk-weaker c.settled.result _ _
    (λ made e. open_vertices_stay c.args.order.now c.deref.result.now c.in_ok-winners.winners.items
    c.deref-2.result.now made (c.deref.ensures ∙ c.game.ensures.game) c.deref-2.ensures.value
    c.in_ok-winners.ensures.length e c.in_ok-winners.ensures.verdicts) c.settled.ensures.made

pub returns-clause-others : goal.returns-clause-others
returns-clause-others c =
    IfOk-weaker c.settled.result _ _
    (λ made e. other_vertices_end c.args.order.now c.deref.result.now c.in_ok-winners.winners.items
    c.deref-2.result.now made (c.deref.ensures ∙ c.game.ensures.game) c.deref-2.ensures.value
    c.in_ok-winners.ensures.length e c.in_ok-winners.ensures.verdicts) c.settled.ensures.made

pub returns-clause-wins : goal.returns-clause-wins
returns-clause-wins c =
    IfOk-weaker c.settled.result _ _
    (λ made stay. winners_stay c.args.order.now c.deref.result.now c.in_ok-winners.winners.items
    c.deref-2.result.now made (c.deref.ensures ∙ c.game.ensures.game) c.deref-2.ensures.value
    c.in_ok-winners.ensures.length stay c.in_ok-winners.ensures.wins) c.settled.ensures.wins

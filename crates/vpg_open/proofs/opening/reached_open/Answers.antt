use Rattle.std.proofs.Common.{◌∙◌}
use Rattle.std.proofs.lemmas.Result.{IfOk-weaker}
use Rattle.vpg_open.proofs.Tops.{part_stays}
use Rattle.vpg_open.proofs.opening.reached_open.Goals as goal

pub returns-clause-wins : goal.returns-clause-wins
returns-clause-wins c =
    IfOk-weaker c.reached_settled.result _ _
    (λ found wins. part_stays c.args.order.now c.deref.result.now c.in_ok-winners.winners.items c.deref-2.result.now
    c.args.vertex found c.game.ensures.order.game (c.deref.ensures ∙ c.game.ensures.game) c.deref-2.ensures.value
    c.in_ok-winners.ensures.length c.requires wins c.in_ok-winners.ensures.wins) c.reached_settled.ensures.wins

use Rattle.vpg_zielonka.proofs.Giving.{part_nothing, wins_nothing}
use Rattle.vpg_zielonka.proofs.winners.Winners.nothing.Goals as goal

pub returns-clause-nothing : goal.returns-clause-nothing
returns-clause-nothing c p player v =
    let won = part_nothing c.args.sets.now c.none.result c.args.vertices c.in_ok-same_for_all.field-0.items
    c.in_ok-same_for_all.ensures.sets c.in_ok-same_for_all.ensures.each c.none.ensures.each p v in
    let lost = part_nothing c.args.sets.now c.none-2.result c.args.vertices c.in_ok-same_for_all-2.field-0.items
    c.in_ok-same_for_all-2.ensures.sets c.in_ok-same_for_all-2.ensures.each c.none-2.ensures.each p v in
    wins_nothing c.args.sets.now
    (record { won = c.in_ok-same_for_all.field-0; lost = c.in_ok-same_for_all-2.field-0 }) p v won lost player

use Rattle.vpg_zielonka.proofs.Giving.{part_same}
use Rattle.vpg_zielonka.proofs.parts.same_for_all.Goals as goal

pub returns-clause-each : goal.returns-clause-each
returns-clause-each c = part_same c.args.sets.now c.args.set c.args.vertices c.in_ok-vec.field-0.items
    (c.in_ok-vec.ensures.items_if_clones_equal (λ y e. e))

use Rattle.vpg_game.specs.Game.{graph_of}
use Rattle.vpg_zielonka.proofs.Rounding.{below_tops_are}
use Rattle.vpg_zielonka.proofs.solving.below_tops.Goals as goal

pub returns-clause-left : goal.returns-clause-left
returns-clause-left c = below_tops_are c.args.sets.now c.attracted.new.sets c.without.new.sets
    c.in_ok-drawn.ensures.grown (graph_of c.args.game.now) c.args.player c.args.priority c.args.part.now
    c.in_ok-seeds.seeds.items c.deref.result.now c.in_ok-drawn.drawn.items c.deref-2.result.now
    c.in_ok-without.field-0.items c.deref.ensures.value c.deref-2.ensures.value c.requires.part
    c.in_ok-seeds.ensures.tops c.in_ok-drawn.ensures.attractor c.in_ok-without.ensures.rest

use Rattle.std.proofs.Common.{arith}
use Rattle.vpg_game.specs.Game.{graph_of}
use Rattle.vpg_zielonka.specs.Winners.{lists_of}
use Rattle.vpg_zielonka.proofs.Blocks.{first_all}
use Rattle.vpg_zielonka.proofs.Columns.{items_count}
use Rattle.vpg_zielonka.proofs.each.winners_of.Goals as goal

pub returns-clause-winners : goal.returns-clause-winners
returns-clause-winners c = first_all (graph_of c.args.game.now) c.args.vertex (lists_of c.args.products.now)
    c.loop-alloc.found.items
    (omega (arith, c.loop-alloc-test.false, c.len.ensures, c.loop-alloc.found.ok, items_count c.args.products.now))
    c.loop-alloc.invariant.0

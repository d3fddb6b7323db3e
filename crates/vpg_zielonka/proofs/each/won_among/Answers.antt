use Rattle.vpg_game.specs.Game.{graph_of}
use Rattle.vpg_zielonka.proofs.Blocks.{block_players}
use Rattle.vpg_zielonka.proofs.each.won_among.Goals as goal

pub returns-clause-winners : goal.returns-clause-winners
returns-clause-winners c = block_players (graph_of c.args.game.now) c.args.vertex c.in_ok-listed.listed
    c.args.products.now c.args.game.now.features c.all-all.result c.bits.result c.in_ok-shares.shares
    c.solve_from.new.sets c.in_ok-listed.ensures.products c.requires.distinct c.requires.products c.all-all.ensures
    c.in_ok-shares.ensures.grown.kind c.in_ok-shares.ensures.divided c.bits.ensures

use Rattle.std.proofs.Common.{◌+◌, ◌-◌, List, length, refl, ap, arith, length-append}
use Rattle.vpg_sides.specs.declared.player.Player.{Player}
use Rattle.vpg_game.specs.Game.{graph_of}
use Rattle.vpg_zielonka.specs.Winners.{players}
use Rattle.vpg_zielonka.proofs.Blocks.{players_count, distinct_between, block_more}
use Rattle.vpg_zielonka.proofs.each.push_next.Goals as goal

pub won_among-requires-clause-distinct : goal.won_among-requires-clause-distinct
won_among-requires-clause-distinct c = distinct_between c.args.products.now c.len-start.result
    (c.len-start.result + c.min-count.result - c.len-start.result) c.requires.distinct

pub returns-clause-more : goal.returns-clause-more
returns-clause-more c = omega (
  arith,
  c.requires.left,
  c.len-start.ensures,
  c.min-count.ensures,
  ap (λ (qs : List Player). length qs) c.in_ok-push_players.ensures,
  length-append c.args.found.now.items (players c.in_ok-won.won c.min-count.result),
  players_count c.in_ok-won.won c.min-count.result,
)

pub returns-clause-found : goal.returns-clause-found
returns-clause-found c = block_more (graph_of c.args.game.now) c.args.vertex c.args.products.now
    c.args.found.now.items c.push_players.new.found.items c.len-start.result
    (c.len-start.result + c.min-count.result) c.min-count.result c.in_ok-won.won
    (omega (arith, c.len-start.ensures, c.args.found.now.ok.0)) refl
    (omega (arith, c.requires.left, c.len-start.ensures, c.min-count.ensures)) c.requires.found
    c.in_ok-won.ensures.winners c.in_ok-push_players.ensures

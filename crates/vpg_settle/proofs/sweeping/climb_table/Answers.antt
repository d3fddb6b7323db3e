use Rattle.std.proofs.Common.{◌≡◌, ◌∙◌, length, ap, arith}
use Rattle.vpg_game.specs.Game.{NamedGame}
use Rattle.vpg_measure.specs.Orders.{OrderView}
use Rattle.vpg_board.specs.Places.{vertices}
use Rattle.vpg_board.proofs.Lone.{rises_none, rises_trans, less_still}
use Rattle.vpg_settle.proofs.sweeping.climb_table.Goals as goal

pub vertices-init : goal.vertices-init
vertices-init c = record { rises = rises_none c.args.harvest.now c.order.ensures.harvest }

pub climb_at-left-requires-clause-harvest : goal.climb_at-left-requires-clause-harvest
climb_at-left-requires-clause-harvest c = c.vertices.invariant.rises.to

pub climb_at-left-requires-clause-vertex : goal.climb_at-left-requires-clause-vertex
climb_at-left-requires-clause-vertex c =
    let count : c.vertices-count.result ≡ vertices c.args.harvest.now.order =
    c.vertices-count.ensures.count ∙ ap (λ (g : NamedGame). length g.vertices) (c.deref.ensures ∙ c.game.ensures.game ∙ ap (λ (o : OrderView). o.game) c.order.ensures.order) in
    less_still c.args.harvest.now c.vertices.harvest c.vertices.v c.vertices.invariant.rises (omega arith)

pub vertices-preserved : goal.vertices-preserved
vertices-preserved c = record {
  rises = rises_trans c.args.harvest.now c.vertices.harvest c.climb_at-left.new.harvest c.vertices.invariant.rises c.climb_at-left.ensures;
}

pub returns : goal.returns
returns c = c.vertices.invariant.rises

use Rattle.vpg_board.proofs.Lone as lone
use Rattle.std.proofs.Common.{◌∙◌, length, ap, sym}
use Rattle.vpg_game.specs.Game.{NamedGame}
use Rattle.vpg_board.proofs.alone.sweep_alone.Goals as goal

pub returns-clause-order : goal.returns-clause-order
returns-clause-order g c = lone.same_order c.args.order c.game-game.ensures.order c.alone-harvest.result c.raise_table.new.harvest c.raise_table-2.new.harvest c.alone-harvest.ensures.order c.alone-harvest.ensures.settled
    c.raise_table.ensures.rises c.raise_table-2.ensures.rises c.raise_table.ensures.lifted c.raise_table-2.ensures.lifted

pub returns-clause-lifted : goal.returns-clause-lifted
returns-clause-lifted g c = lone.lifted c.args.order c.game-game.ensures.order c.alone-harvest.result c.raise_table.new.harvest c.raise_table-2.new.harvest c.alone-harvest.ensures.order c.alone-harvest.ensures.settled
    c.raise_table.ensures.rises c.raise_table-2.ensures.rises c.raise_table.ensures.lifted c.raise_table-2.ensures.lifted

pub returns-clause-above : goal.returns-clause-above
returns-clause-above g c = lone.above c.args.order c.game-game.ensures.order c.alone-harvest.result c.raise_table.new.harvest c.raise_table-2.new.harvest c.alone-harvest.ensures.order c.alone-harvest.ensures.settled
    c.raise_table.ensures.rises c.raise_table-2.ensures.rises c.raise_table.ensures.lifted c.raise_table-2.ensures.lifted

pub returns-clause-harvest : goal.returns-clause-harvest
returns-clause-harvest g c = c.raise_table-2.ensures.rises.to

pub returns-clause-moved : goal.returns-clause-moved
returns-clause-moved g c = lone.moved c.args.order c.game-game.ensures.order c.alone-harvest.result c.raise_table.new.harvest c.raise_table-2.new.harvest c.alone-harvest.ensures.order c.alone-harvest.ensures.settled
    c.raise_table.ensures.rises c.raise_table-2.ensures.rises c.raise_table.ensures.lifted c.raise_table-2.ensures.lifted

pub raise_table-requires-clause-game : goal.raise_table-requires-clause-game
raise_table-requires-clause-game g c = c.requires.game ∙ sym (ap (λ (g : NamedGame). length g.vertices) c.alone-harvest.ensures.order.game)

pub raise_table-requires-2-clause-game : goal.raise_table-requires-2-clause-game
raise_table-requires-2-clause-game g c =
    c.requires.game ∙ sym (ap (λ (g : NamedGame). length g.vertices) (c.raise_table.ensures.rises.order.game ∙ c.alone-harvest.ensures.order.game))

pub raise_table-requires-clause-predecessors : goal.raise_table-requires-clause-predecessors
raise_table-requires-clause-predecessors g c = c.requires.predecessors

pub raise_table-requires-2-clause-predecessors : goal.raise_table-requires-2-clause-predecessors
raise_table-requires-2-clause-predecessors g c = c.requires.predecessors

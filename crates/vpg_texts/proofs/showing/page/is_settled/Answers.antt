use Rattle.vpg_sides.specs.declared.which.Which.TheVariants.{Hopeful, Dual}
use Rattle.vpg_texts.proofs.Settled.{first_fails, second_tells, table_of_games}
use Rattle.vpg_texts.proofs.showing.page.is_settled.Goals as goal

pub is_settled_table-requires : goal.is_settled_table-requires
is_settled_table-requires c =
    table_of_games c.args.game.now c.args.diagram.now c.requires.games.0 c.args.games.now c.requires.games.1 Hopeful c.args.hopeful.now c.requires.hopeful c.requires.hopeful_within

pub is_settled_table-requires-2 : goal.is_settled_table-requires-2
is_settled_table-requires-2 c =
    table_of_games c.args.game.now c.args.diagram.now c.requires.games.0 c.args.games.now c.requires.games.1 Dual c.args.dual.now c.requires.dual c.requires.dual_within

pub returns-then-not-is_settled_table : goal.returns-then-not-is_settled_table
returns-then-not-is_settled_table c =
    first_fails c.args.game.now c.args.diagram.now c.requires.games.0 c.args.games.now c.requires.games.1 c.args.hopeful.now c.args.dual.now
    c.requires.hopeful c.requires.dual c.requires.hopeful_within c.requires.dual_within c.is_settled_table.result c.if-not-is_settled_table.true c.is_settled_table.ensures

pub returns : goal.returns
returns c =
    second_tells c.args.game.now c.args.diagram.now c.requires.games.0 c.args.games.now c.requires.games.1 c.args.hopeful.now c.args.dual.now
    c.requires.hopeful c.requires.dual c.requires.hopeful_within c.requires.dual_within c.is_settled_table.result c.is_settled_table-2.result c.if-not-is_settled_table.false
    c.is_settled_table.ensures c.is_settled_table-2.ensures

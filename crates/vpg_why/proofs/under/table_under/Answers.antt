use Rattle.std.proofs.Common.{sym}
use Rattle.vpg_measure.specs.Games.{games_arena, games_levels}
use Rattle.vpg_why.proofs.Starts.{moved, moved_below}
use Rattle.vpg_why.proofs.under.table_under.Goals as goal

pub raise_for-requires : goal.raise_for-requires
raise_for-requires c =
    moved c.shape-shape.result.now (games_levels c.args.which c.args.games.now) c.arena-arena.result.now (games_arena c.args.which c.args.games.now) c.in_ok-table.table c.shape-shape.ensures c.arena-arena.ensures c.in_ok-table.ensures.table

pub returns-clause-table : goal.returns-clause-table
returns-clause-table c =
    moved (games_levels c.args.which c.args.games.now) c.shape-shape.result.now (games_arena c.args.which c.args.games.now) c.arena-arena.result.now c.raise_for.new.table (sym c.shape-shape.ensures) (sym c.arena-arena.ensures) c.raise_for.ensures.table

pub returns-clause-below : goal.returns-clause-below
returns-clause-below c =
    moved_below (games_levels c.args.which c.args.games.now) c.shape-shape.result.now (games_arena c.args.which c.args.games.now) c.arena-arena.result.now c.raise_for.new.table (sym c.shape-shape.ensures) (sym c.arena-arena.ensures)
    (λ other t p. c.raise_for.ensures.below other t p
    (moved_below c.shape-shape.result.now (games_levels c.args.which c.args.games.now) c.arena-arena.result.now (games_arena c.args.which c.args.games.now) c.in_ok-table.table c.shape-shape.ensures c.arena-arena.ensures
    c.in_ok-table.ensures.below other t p))

-- A table of numbers as a table of measures, and a list of choices as a strategy.
use Rattle.std.specs.Prelude.{ℕ, List, Option, None, slice_index, slice_index_or}
use Rattle.vpg_measure.specs.Numbers.{measure_of}
use Rattle.vpg_game.specs.declared.levels.Level.{Level}
use Rattle.vpg_hope.specs.Strategies.{Strategy}
use Rattle.vpg_measure.specs.Tables.{Table}

-- the measures of a table of numbers
abbrev pub measures_of : List Level → List ℕ → Table
measures_of levels table v = measure_of levels (slice_index table v)

-- the strategy of a list of choices
abbrev pub strategy_of : List (Option ℕ) → Strategy
strategy_of choices v = slice_index_or choices v None

-- The laws of tables of numbers, as statements.
use Rattle.std.specs.Prelude.{Bool, ◌≡◌, ℕ, ◌<◌, ◌↔◌, max, List, length, Option, replicate, slice_index, slice_set}
use Rattle.vpg_game.specs.declared.levels.Level.{Level}
use Rattle.vpg_game.specs.Levels.{levels_of, top_of}
use Rattle.vpg_hope.specs.Arena.{Vertex as Node, IsClosed, vertex_at}
use Rattle.vpg_measure.specs.Lifts.{IsTableOf, IsProgressTable, AreChoices, lift_of}
use Rattle.vpg_measure.specs.Least.{IsBelowProgressTables, IsValueBelow, IsLeastTable}
use Rattle.vpg_sides.specs.declared.player.Player.{Player}
use Rattle.vpg_hope.specs.Games.{priorities}
use Rattle.vpg_hope.specs.Strategies.{Strategy, Wins}
use Rattle.vpg_measure.specs.Measures.{IsShape}
use Rattle.vpg_measure.specs.Tables.{IsProgressMeasure, IsLeastProgress}
use Rattle.vpg_guards.specs.declared.tri.Tri.{Tri}
use Rattle.vpg_game.specs.Guarded.{GuardedGame, guarded_priorities, IsClosedGuarded, dual}
use Rattle.vpg_hope.specs.Comparison.{dual_game}
use Rattle.vpg_hope.specs.Hope.{product_game, hopeful_game, AgreesWithTruth, Extends, IsFullOf}
use Rattle.vpg_measure.specs.Views.{measures_of, strategy_of}

-- the levels of the priorities are their shape
abbrev pub LevelsAreShape : Type 0
LevelsAreShape = (vertex_priorities : List ℕ) → IsShape vertex_priorities ((levels_of vertex_priorities))

-- a table of numbers is a progress table exactly if its measures are
abbrev pub ProgressOfNumbers : Type 0
ProgressOfNumbers = (levels : List Level) (arena : List Node) (table : List ℕ) → IsTableOf levels arena table →
    IsProgressTable levels arena table ↔ IsProgressMeasure levels arena (measures_of levels table)

-- the choices made at a settled table win from every vertex below the Top
abbrev pub ChoicesWin : Type 0
ChoicesWin =
    (levels : List Level) (arena : List Node) (table : List ℕ) (choices : List (Option ℕ)) → IsClosed arena →
    IsTableOf levels arena table → IsProgressTable levels arena table →
    AreChoices levels arena table choices → (v : ℕ) → v < length arena → slice_index table v < top_of levels →
    Wins arena Player.Even (strategy_of choices) v

-- the Top in a table below every progress table refutes every winning strategy
abbrev pub TopNumberRefutes : Type 0
TopNumberRefutes =
    (arena : List Node) (table : List ℕ) → IsClosed arena → IsTableOf (levels_of (priorities arena)) arena table →
    IsBelowProgressTables (levels_of (priorities arena)) arena table → (v : ℕ) → v < length arena →
    slice_index table v ≡ top_of (levels_of (priorities arena)) →
    (strategy : Strategy) → Wins arena Player.Even strategy v → ⊥

-- two settled tables below every progress table are equal
abbrev pub SettledIsUnique : Type 0
SettledIsUnique =
    (levels : List Level) (arena : List Node) (s t : List ℕ) → IsTableOf levels arena s → IsTableOf levels arena t →
    IsProgressTable levels arena s → IsProgressTable levels arena t →
    IsBelowProgressTables levels arena s → IsBelowProgressTables levels arena t → s ≡ t

-- a table is below every progress table exactly if each of its values is
abbrev pub BelowIsByValue : Type 0
BelowIsByValue = (levels : List Level) (arena : List Node) (table : List ℕ) → IsTableOf levels arena table →
    IsBelowProgressTables levels arena table ↔
    ((v : ℕ) → v < length arena → IsValueBelow levels arena v (slice_index table v))

-- the table of zeros is below every progress table
abbrev pub ZerosAreBelow : Type 0
ZerosAreBelow =
    (levels : List Level) (arena : List Node) → IsTableOf levels arena (replicate (length arena) 0) ×
    IsBelowProgressTables levels arena (replicate (length arena) 0)

-- if a table is below every progress table, each of its lifts is
abbrev pub LiftIsBelow : Type 0
LiftIsBelow =
    (levels : List Level) (arena : List Node) (seen : List ℕ) (v : ℕ) → IsTableOf levels arena seen →
    IsBelowProgressTables levels arena seen → v < length arena →
    IsValueBelow levels arena v (lift_of levels seen (vertex_at arena v))

-- so a table stays below every progress table if a value is raised to the lift of this table, or of an older one
abbrev pub RaiseIsBelow : Type 0
RaiseIsBelow =
    (levels : List Level) (arena : List Node) (table seen : List ℕ) (v : ℕ) → IsTableOf levels arena table →
    IsBelowProgressTables levels arena table →
    IsTableOf levels arena seen → IsBelowProgressTables levels arena seen → v < length arena →
    IsBelowProgressTables levels arena
    (slice_set table v (max (slice_index table v) (lift_of levels seen (vertex_at arena v))))

-- the order of numbers is that of measures, so the least table of numbers is the least table of measures; there is one
abbrev pub LeastOfNumbers : Type 0
LeastOfNumbers =
    (levels : List Level) (arena : List Node) (table : List ℕ) → IsClosed arena → IsTableOf levels arena table →
    IsLeastTable levels arena table ↔ IsLeastProgress levels arena (measures_of levels table)

-- A closed arena has a least table of numbers.
abbrev pub LeastTableExists : Type 0
LeastTableExists =
    (levels : List Level) (arena : List Node) → IsClosed arena → (table : List ℕ) × IsLeastTable levels arena table

-- the least table is at the Top exactly where no strategy of Even wins
abbrev pub LeastNumberDecides : Type 0
LeastNumberDecides =
    (arena : List Node) (table : List ℕ) → IsClosed arena → IsLeastTable (levels_of (priorities arena)) arena table →
    (v : ℕ) → v < length arena →
    (slice_index table v ≡ top_of (levels_of (priorities arena))) ↔
    ((strategy : Strategy) → Wins arena Player.Even strategy v → ⊥)

-- a winning strategy gives a progress table that is below the Top there
abbrev pub WinGivesNumbers : Type 0
WinGivesNumbers =
    (arena : List Node) (strategy : Strategy) (v : ℕ) → IsClosed arena → v < length arena →
    Wins arena Player.Even strategy v →
    (table : List ℕ) × IsTableOf (levels_of (priorities arena)) arena table ×
    IsProgressTable (levels_of (priorities arena)) arena table ×
    (slice_index table v < top_of (levels_of (priorities arena)))

-- the Top in a table of the dual, below every progress table, refutes every winning strategy of Odd
abbrev pub DualTopRefutes : Type 0
DualTopRefutes =
    (arena dual_arena : List Node) (table : List ℕ) → dual_arena ≡ dual_game arena → IsClosed arena →
    IsClosed dual_arena →
    IsTableOf (levels_of (priorities dual_arena)) dual_arena table →
    IsBelowProgressTables (levels_of (priorities dual_arena)) dual_arena table →
    (v : ℕ) → v < length arena → slice_index table v ≡ top_of (levels_of (priorities dual_arena)) →
    (strategy : Strategy) → Wins arena Player.Odd strategy v → ⊥

-- Guards: the arena is that of the hopeful game, or of the hopeful game of the dual

-- a progress table when more is known is one when less is known
abbrev pub SettledInEarlier : Type 0 → Type 0
SettledInEarlier Guard =
    (earlier later : Guard → Tri) (game : GuardedGame Guard) → Extends later earlier game →
    (levels : List Level) (before after : List Node) (table : List ℕ) →
    before ≡ hopeful_game earlier game → after ≡ hopeful_game later game → IsTableOf levels after table →
    IsProgressTable levels after table → IsProgressTable levels before table

-- a hopeless vertex has no winning strategy for Even in any product that agrees with what is known
abbrev pub HopelessNumber : Type 0 → Type 0
HopelessNumber Guard =
    (value : Guard → Tri) (game : GuardedGame Guard) (arena : List Node) (table : List ℕ) →
    arena ≡ hopeful_game value game → IsClosed arena →
    IsTableOf (levels_of (guarded_priorities game)) arena table →
    IsBelowProgressTables (levels_of (guarded_priorities game)) arena table →
    (v : ℕ) → v < length arena → slice_index table v ≡ top_of (levels_of (guarded_priorities game)) →
    (truth : Guard → Bool) → AgreesWithTruth value truth game → (strategy : Strategy) →
    Wins (product_game truth game) Player.Even strategy v → ⊥

-- a sure vertex has no winning strategy for Odd in any product that agrees with what is known
abbrev pub SureNumber : Type 0 → Type 0
SureNumber Guard =
    (value : Guard → Tri) (game : GuardedGame Guard) (arena : List Node) (table : List ℕ) →
    arena ≡ hopeful_game value (dual game) → IsClosed arena → IsClosedGuarded game →
    IsTableOf (levels_of (guarded_priorities (dual game))) arena table →
    IsBelowProgressTables (levels_of (guarded_priorities (dual game))) arena table →
    (v : ℕ) → v < length arena → slice_index table v ≡ top_of (levels_of (guarded_priorities (dual game))) →
    (truth : Guard → Bool) → AgreesWithTruth value truth game → (strategy : Strategy) →
    Wins (product_game truth game) Player.Odd strategy v → ⊥

-- if everything is known, the choices win in the product from every possible vertex
abbrev pub PossibleNumber : Type 0 → Type 0
PossibleNumber Guard =
    (value : Guard → Tri) (truth : Guard → Bool) (game : GuardedGame Guard) → IsFullOf value truth game →
    (levels : List Level) (arena : List Node) (table : List ℕ) (choices : List (Option ℕ)) →
    arena ≡ hopeful_game value game → IsClosed arena → IsTableOf levels arena table →
    IsProgressTable levels arena table → AreChoices levels arena table choices →
    (v : ℕ) → v < length arena → slice_index table v < top_of levels →
    Wins (product_game truth game) Player.Even (strategy_of choices) v

-- if everything is known, the choices of the dual win in the product for Odd from every unsure vertex
abbrev pub UnsureNumber : Type 0 → Type 0
UnsureNumber Guard =
    (value : Guard → Tri) (truth : Guard → Bool) (game : GuardedGame Guard) → IsFullOf value truth game →
    (levels : List Level) (arena : List Node) (table : List ℕ) (choices : List (Option ℕ)) →
    arena ≡ hopeful_game value (dual game) → IsClosed arena → IsClosedGuarded game → IsTableOf levels arena table →
    IsProgressTable levels arena table → AreChoices levels arena table choices →
    (v : ℕ) → v < length arena → slice_index table v < top_of levels →
    Wins (product_game truth game) Player.Odd (strategy_of choices) v

-- if everything is known, no vertex is both possible and unsure
abbrev pub NotBothNumbers : Type 0 → Type 0
NotBothNumbers Guard =
    (value : Guard → Tri) (truth : Guard → Bool) (game : GuardedGame Guard) → IsFullOf value truth game →
    IsClosedGuarded game →
    (levels dual_levels : List Level) (arena dual_arena : List Node) (table dual_table : List ℕ) →
    arena ≡ hopeful_game value game → dual_arena ≡ hopeful_game value (dual game) →
    IsTableOf levels arena table → IsProgressTable levels arena table → IsTableOf dual_levels dual_arena dual_table →
    IsProgressTable dual_levels dual_arena dual_table →
    (v : ℕ) → v < length game → slice_index table v < top_of levels → slice_index dual_table v < top_of dual_levels → ⊥

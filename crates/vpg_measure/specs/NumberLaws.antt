-- The laws of measures and numbers.
use Rattle.std.specs.Prelude.{ℕ, ◌≡◌, ◌/◌, ◌<◌, ◌≤◌, ◌↔◌, List, length, All, Contains, Some, slice_index}
use Rattle.vpg_game.specs.declared.levels.Level.{Level}
use Rattle.vpg_game.specs.Levels.{top_of, weight_of, levels_of, product_below, prog_of}
use Rattle.vpg_measure.specs.Measures.{Measure, Components, IsMeasure, AtMost, LexBelow, above, Fits}
use Rattle.vpg_measure.specs.Numbers.{value_of, number_of, measure_of}
use Rattle.vpg_measure.specs.Tables.{IsProg}
use Rattle.vpg_hope.specs.Arena.{Vertex, vertex_at}
use Rattle.vpg_measure.specs.Lifts.{IsTableOf, IsProgressTable, IsBelowTable, NumberFitsAt, NumberFitsEdge, lift_of, round_of, after_rounds, choice_of}
use Rattle.vpg_sides.specs.declared.player.Player.TheVariants.{Even}

-- a measure has a number up to the top, and is the measure of that number
abbrev pub MeasuresHaveNumbers : Type 0
MeasuresHaveNumbers =
    (ls : List Level) (m : Measure) → IsMeasure ls m → (number_of ls m ≤ top_of ls) ×
    (measure_of ls (number_of ls m) ≡ m)

-- a number up to the top has a measure, and is the number of that measure
abbrev pub NumbersAreMeasures : Type 0
NumbersAreMeasures =
    (ls : List Level) (n : ℕ) → n ≤ top_of ls → IsMeasure ls (measure_of ls n) × (number_of ls (measure_of ls n) ≡ n)

-- Measures compare as their numbers do.
abbrev pub OrderIsNumeric : Type 0
OrderIsNumeric =
    (ls : List Level) (m n : Measure) → IsMeasure ls m → IsMeasure ls n → AtMost m n ↔ (number_of ls m ≤ number_of ls n)

-- on the priorities p and above, the numbers compare as their quotients by the weight of p
abbrev pub TruncatedOrderIsQuotient : Type 0
TruncatedOrderIsQuotient =
    (ls : List Level) (p : ℕ) (xs ys : List ℕ) → IsMeasure ls (Components xs) → IsMeasure ls (Components ys) →
    LexBelow (above ls p xs) (above ls p ys) ↔ (value_of ls xs / weight_of p ls < value_of ls ys / weight_of p ls)

-- the numbers with a measure that fits the edge are those from `prog_of` on
abbrev pub ProgIsLeastFit : Type 0
ProgIsLeastFit =
    (ls : List Level) (p r n : ℕ) → r ≤ top_of ls → n ≤ top_of ls → Fits ls p (measure_of ls n) (measure_of ls r) ↔
    (prog_of ls p r ≤ n)

-- in a game with these priorities, the weight of p is the product of the radices of all odd priorities below p
abbrev pub WeightsAreProducts : Type 0
WeightsAreProducts = (priorities : List ℕ) (p : ℕ) → weight_of p (levels_of priorities) ≡ product_below p priorities

-- the numbers that fit at a vertex are those from its lift on
abbrev pub LiftIsLeast : Type 0
LiftIsLeast =
    (ls : List Level) (table : List ℕ) (x : Vertex) (n : ℕ) → All (λ r. r ≤ top_of ls) table → n ≤ top_of ls →
    NumberFitsAt ls table x n ↔ (lift_of ls table x ≤ n)

-- a lift grows with the table
abbrev pub LiftGrows : Type 0
LiftGrows =
    (ls : List Level) (arena : List Vertex) (table other : List ℕ) (x : Vertex) → IsTableOf ls arena table →
    IsTableOf ls arena other →
    IsBelowTable table other → lift_of ls table x ≤ lift_of ls other x

-- no value falls in a round
abbrev pub RoundsRise : Type 0
RoundsRise =
    (ls : List Level) (arena : List Vertex) (table : List ℕ) → IsTableOf ls arena table →
    IsBelowTable table (round_of ls arena table)

-- a greater table has greater rounds
abbrev pub RoundsGrow : Type 0
RoundsGrow =
    (ls : List Level) (arena : List Vertex) (table other : List ℕ) (k : ℕ) → IsTableOf ls arena table →
    IsTableOf ls arena other →
    IsBelowTable table other → IsBelowTable (after_rounds ls arena k table) (after_rounds ls arena k other)

-- a round stays below each progress table that the table is below
abbrev pub RoundsStayBelow : Type 0
RoundsStayBelow =
    (ls : List Level) (arena : List Vertex) (table other : List ℕ) → IsTableOf ls arena table →
    IsTableOf ls arena other →
    IsProgressTable ls arena other → IsBelowTable table other → IsBelowTable (round_of ls arena table) other

-- a round raises nothing exactly at a progress table
abbrev pub RoundsStop : Type 0
RoundsStop =
    (ls : List Level) (arena : List Vertex) (table : List ℕ) → IsTableOf ls arena table →
    (round_of ls arena table ≡ table) ↔ IsProgressTable ls arena table

-- `prog_of` gives the least measure that fits
abbrev pub ProgIsLeastMeasure : Type 0
ProgIsLeastMeasure =
    (ls : List Level) (p : ℕ) (n : Measure) → IsMeasure ls n →
    IsProg ls p n (measure_of ls (prog_of ls p (number_of ls n)))

-- below a progress table, a lift stays below it
abbrev pub LiftStaysBelow : Type 0
LiftStaysBelow =
    (ls : List Level) (arena : List Vertex) (table other : List ℕ) (v : ℕ) → IsTableOf ls arena table →
    IsTableOf ls arena other →
    IsProgressTable ls arena other → IsBelowTable table other → v < length arena →
    lift_of ls table (vertex_at arena v) ≤ slice_index other v

-- at a progress table, Even's vertices below top have a choice, and the value fits the chosen edge
abbrev pub ChoiceFits : Type 0
ChoiceFits =
    (ls : List Level) (arena : List Vertex) (table : List ℕ) (v : ℕ) → IsTableOf ls arena table →
    IsProgressTable ls arena table → v < length arena →
    let x = vertex_at arena v in
    let n = slice_index table v in
    x.owner ≡ Even → n < top_of ls →
    (w : ℕ) × (choice_of ls table x n ≡ Some w) × Contains x.successors w ×
    NumberFitsEdge ls x.priority n (slice_index table w)

-- Tables of numbers below every progress table, and the least one.
use Rattle.std.proofs.Common.{◌≡◌, ℕ, ◌<◌, ◌≤◌, ◌⊎◌, ◌↔◌, inl, inr, max, List, length, replicate, set, slice_index, refl, sym, ap, ◌∙◌, subst, arith}
use Rattle.std.proofs.lemmas.Bool.{cases_lt, cases_eq}
use Rattle.std.proofs.lemmas.List.{length-map, length-replicate, get_or-replicate, length-set, get_or-set_same, get_or-set_other}
use Rattle.std.proofs.lemmas.List.Elements.{All-replicate}
use Rattle.vpg_game.specs.declared.levels.Level.{Level}
use Rattle.vpg_game.specs.Levels.{levels_of, top_of}
use Rattle.vpg_hope.specs.Arena.{Vertex as Node, IsClosed as IsClosedArena, vertex_at}
use Rattle.vpg_measure.specs.Numbers.{number_of, measure_of}
use Rattle.vpg_measure.specs.Lifts.{IsTableOf, IsProgressTable, lift_of}
use Rattle.vpg_measure.proofs.Numbers.{numbers_are_measures, order_is_numeric}
use Rattle.vpg_measure.proofs.Rounds.{lift_stays_below}
use Rattle.vpg_sides.specs.declared.player.Player.{Player}
use Rattle.vpg_hope.specs.Games.{priorities}
use Rattle.vpg_hope.specs.Strategies.{Strategy, Wins}
use Rattle.vpg_measure.specs.Measures.{IsMeasure, AtMost, Top}
use Rattle.vpg_measure.specs.Tables.{Table, IsProgressMeasure, IsLeastProgress}
use Rattle.vpg_hope.specs.Comparison.{dual_game}
use Rattle.vpg_hope.proofs.Edges.{AreEdgesInside, edges_inside}
use Rattle.vpg_measure.proofs.Least.{least_exists, win_gives_progress}
use Rattle.vpg_hope.proofs.Dual.{wins_to_dual}
use Rattle.vpg_measure.specs.Views.{measures_of}
use Rattle.vpg_measure.specs.Least.{IsBelowProgressTables}
use Rattle.vpg_measure.specs.Least.{IsValueBelow, IsLeastTable}
use Rattle.vpg_measure.specs.TableLaws.{BelowIsByValue, ZerosAreBelow, LiftIsBelow, RaiseIsBelow, LeastOfNumbers, LeastTableExists, LeastNumberDecides, WinGivesNumbers, DualTopRefutes}
use Rattle.vpg_measure.proofs.NumberTables.{value_within, progress_to, progress_from}
use Rattle.vpg_measure.proofs.LevelsShape.{levels_shape}
use Rattle.vpg_measure.proofs.NumberVerdicts.{arena_closed, numbers, numbers_table, numbers_settled, same_values, top_number_refutes}

pub below_is_by_value : BelowIsByValue
below_is_by_value levels arena table is_table = (to, from)
  where
    to : IsBelowProgressTables levels arena table → (v : ℕ) → v < length arena → IsValueBelow levels arena v (slice_index table v)
    to below v l other t s = (below other t s).1 v (subst (λ n. v < n) (sym is_table.len) l)

    from : ((v : ℕ) → v < length arena → IsValueBelow levels arena v (slice_index table v)) → IsBelowProgressTables levels arena table
    from below other t s = (is_table.len ∙ sym t.len, λ v l. below v (subst (λ n. v < n) is_table.len l) other t s)

pub zeros_are_below : ZerosAreBelow
zeros_are_below levels arena = (is_table, (below_is_by_value levels arena (replicate (length arena) 0) is_table).1 (λ v l other t s. under v l (slice_index other v)))
  where
    is_table : IsTableOf levels arena (replicate (length arena) 0)
    is_table = record { len = length-replicate (length arena) 0; within = All-replicate (λ n. n ≤ top_of levels) (length arena) 0 (omega arith) }

    under : (v : ℕ) → v < length arena → (n : ℕ) → slice_index (replicate (length arena) 0) v ≤ n
    under v l n = omega (arith, get_or-replicate {A = ℕ} (length arena) v 0 0 l)

pub lift_is_below : LiftIsBelow
lift_is_below levels arena seen v is_table below inside other t s = lift_stays_below levels arena seen other v is_table t s (below other t s) inside

pub raise_is_below : RaiseIsBelow
raise_is_below levels arena table seen v is_table below seen_table seen_below inside other t s =
    (length-set table v raised ∙ is_table.len ∙ sym t.len, λ w l. at w (subst (λ n. w < n) (length-set table v raised) l) (cases_eq w v))
  where
    raised : ℕ
    raised = max (slice_index table v) (lift_of levels seen (vertex_at arena v))

    there : v < length table
    there = subst (λ n. v < n) (sym is_table.len) inside

    under : max (slice_index table v) (lift_of levels seen (vertex_at arena v)) ≤ slice_index other v
    under = omega (arith, (below other t s).1 v there, lift_is_below levels arena seen v seen_table seen_below inside other t s)

    at : (w : ℕ) → w < length table → (w ≡ v) ⊎ (w ≡ v → ⊥) → slice_index (set table v (max (slice_index table v) (lift_of levels seen (vertex_at arena v)))) w ≤ slice_index other w
    at w l (inl e) = subst (λ u. slice_index (set table v (max (slice_index table v) (lift_of levels seen (vertex_at arena v)))) u ≤ slice_index other u) (sym e)
        (subst (λ n. n ≤ slice_index other v) (sym (get_or-set_same table v (max (slice_index table v) (lift_of levels seen (vertex_at arena v))) 0 there)) under)
    at w l (inr n) = subst (λ m. m ≤ slice_index other w) (sym (get_or-set_other table v w (max (slice_index table v) (lift_of levels seen (vertex_at arena v))) 0 n)) ((below other t s).1 w l)

-- ---- the order of numbers is that of measures

module _ (levels : List Level) (m n : ℕ) (low : m ≤ top_of levels) (high : n ≤ top_of levels) where
  first : IsMeasure levels (measure_of levels m) × (number_of levels (measure_of levels m) ≡ m)
  first = numbers_are_measures levels m low

  second : IsMeasure levels (measure_of levels n) × (number_of levels (measure_of levels n) ≡ n)
  second = numbers_are_measures levels n high

  order : AtMost (measure_of levels m) (measure_of levels n) ↔ (number_of levels (measure_of levels m) ≤ number_of levels (measure_of levels n))
  order = order_is_numeric levels (measure_of levels m) (measure_of levels n) first.0 second.0

  pub at_most_of_number : m ≤ n → AtMost (measure_of levels m) (measure_of levels n)
  at_most_of_number h = order.1 (omega (arith, first.1, second.1))

  pub number_of_at_most : AtMost (measure_of levels m) (measure_of levels n) → m ≤ n
  number_of_at_most h = omega (arith, first.1, second.1, order.0 h)

-- ---- the least table

module _ (levels : List Level) (arena : List Node) (closed : IsClosedArena arena) where
  edges : AreEdgesInside arena
  edges = edges_inside arena (arena_closed arena closed)

  count : length arena ≡ length arena
  count = refl

  -- below all tables of measures, from below all of numbers
  to_measures : (table : List ℕ) → IsLeastTable levels arena table → IsLeastProgress levels arena (measures_of levels table)
  to_measures table least = record {
    progress = progress_to levels arena table least.is_table least.settled;
    below = λ v l t progress. below v (subst (λ n. v < n) count l) l t progress;
  }
    where
      below : (v : ℕ) → v < length arena → v < length arena → (t : Table) → IsProgressMeasure levels arena t → AtMost (measures_of levels table v) (t v)
      below v l k t progress = subst (λ m. AtMost (measures_of levels table v) m) (sym (same_values levels arena t edges progress v k))
          (at_most_of_number levels (slice_index table v) (slice_index (numbers levels arena t edges progress) v)
          (value_within levels arena table least.is_table v) (value_within levels arena (numbers levels arena t edges progress) (numbers_table levels arena t edges progress) v)
          ((least.below (numbers levels arena t edges progress) (numbers_table levels arena t edges progress) (numbers_settled levels arena t edges progress)).1 v (subst (λ n. v < n) (sym least.is_table.len) l)))

  from_measures : (table : List ℕ) → IsTableOf levels arena table → IsLeastProgress levels arena (measures_of levels table) → IsLeastTable levels arena table
  from_measures table is_table least = record {
    is_table = is_table;
    settled = progress_from levels arena table is_table least.progress;
    below = (below_is_by_value levels arena table is_table).1 (λ v l other t s. below v l other t s);
  }
    where
      below : (v : ℕ) → v < length arena → IsValueBelow levels arena v (slice_index table v)
      below v l other t s = number_of_at_most levels (slice_index table v) (slice_index other v) (value_within levels arena table is_table v) (value_within levels arena other t v)
          (least.below v (subst (λ n. v < n) (sym count) l) (measures_of levels other) (progress_to levels arena other t s))

  exists : (table : List ℕ) × IsLeastTable levels arena table
  exists = of (least_exists levels arena edges)
    where
      of : (least : Table) × IsLeastProgress levels arena least → (table : List ℕ) × IsLeastTable levels arena table
      of t = (
        numbers levels arena t.0 edges t.1.progress,
        from_measures (numbers levels arena t.0 edges t.1.progress) (numbers_table levels arena t.0 edges t.1.progress) record {
          progress = progress_to levels arena (numbers levels arena t.0 edges t.1.progress) (numbers_table levels arena t.0 edges t.1.progress) (numbers_settled levels arena t.0 edges t.1.progress);
          below = λ v l other progress. subst (λ m. AtMost m (other v)) (same_values levels arena t.0 edges t.1.progress v l) (t.1.below v l other progress);
        },
      )

pub least_of_numbers : LeastOfNumbers
least_of_numbers levels arena table closed is_table = (to_measures levels arena closed table, from_measures levels arena closed table is_table)

pub least_table_exists : LeastTableExists
least_table_exists levels arena closed = exists levels arena closed

-- ---- strategies

pub win_gives_numbers : WinGivesNumbers
win_gives_numbers arena strategy v closed inside wins = of (win_gives_progress levels arena strategy v inner (levels_shape (priorities arena)) inside wins)
  where
    levels : List Level
    levels = levels_of (priorities arena)

    inner : AreEdgesInside arena
    inner = edges_inside arena (arena_closed arena closed)

    of : (t : Table) × IsProgressMeasure levels arena t × (t v ≡ Top → ⊥) →
        (table : List ℕ) × IsTableOf levels arena table × IsProgressTable levels arena table × (slice_index table v < top_of levels)
    of t = (numbers levels arena t.0 inner t.1, numbers_table levels arena t.0 inner t.1, numbers_settled levels arena t.0 inner t.1, low (cases_lt (slice_index (numbers levels arena t.0 inner t.1) v) (top_of levels)))
      where
        low : (slice_index (numbers levels arena t.0 inner t.1) v < top_of levels) ⊎ (top_of levels ≤ slice_index (numbers levels arena t.0 inner t.1) v) → slice_index (numbers levels arena t.0 inner t.1) v < top_of levels
        low (inl l) = l
        low (inr l) = absurd (t.2 (Rattle.vpg_measure.proofs.NumberVerdicts.at_top levels arena t.0 inner t.1 v inside l))

pub least_number_decides : LeastNumberDecides
least_number_decides arena table closed least v inside = (λ e. top_number_refutes arena table closed least.is_table least.below v inside e, back)
  where
    levels : List Level
    levels = levels_of (priorities arena)

    back : ((strategy : Strategy) → Wins arena Player.Even strategy v → ⊥) → slice_index table v ≡ top_of (levels_of (priorities arena))
    back none = split (cases_lt (slice_index table v) (top_of levels))
      where
        split : (slice_index table v < top_of (levels_of (priorities arena))) ⊎ (top_of (levels_of (priorities arena)) ≤ slice_index table v) → slice_index table v ≡ top_of (levels_of (priorities arena))
        split (inl l) = absurd (none strategy.0 (strategy.1 v inside (Rattle.vpg_measure.proofs.NumberTables.number_not_top levels (slice_index table v) l)))
          where
            strategy : (s : Strategy) × ((u : ℕ) → u < length arena → (measures_of levels table u ≡ Top → ⊥) → Wins arena Player.Even s u)
            strategy = Rattle.vpg_measure.proofs.Verdicts.progress_wins levels arena (measures_of levels table) (edges_inside arena (arena_closed arena closed))
                (progress_to levels arena table least.is_table least.settled)
        split (inr l) = omega (arith, value_within levels arena table least.is_table v)

pub dual_top_refutes : DualTopRefutes
dual_top_refutes arena dual_arena table e closed dual_closed is_table below v inside high strategy wins =
    top_number_refutes dual_arena table dual_closed is_table below v there high strategy
    (subst (λ g. Wins g Player.Even strategy v) (sym e) (wins_to_dual arena Player.Odd strategy v (edges_inside arena (arena_closed arena closed)) inside wins))
  where
    counts : (nodes : List Node) → length nodes ≡ length nodes
    counts nodes = refl

    dual_count : length (dual_game arena) ≡ length arena
    dual_count = simp length-map

    there : v < length dual_arena
    there = subst (λ n. v < n) (sym (counts arena) ∙ sym dual_count ∙ sym (ap length e) ∙ counts dual_arena) inside

-- What tables of numbers say of strategies.
use Rattle.std.proofs.Common.{◌≡◌, ℕ, zero, suc, ◌<◌, ◌≤◌, ◌⊎◌, inl, inr, List, [], ◌∷◌, length, map, get_or, slice_index, slice_get, slice_index_or, refl, sym, ap, ◌∙◌, subst, Contains, Option, Some, None, arith}
use Rattle.std.specs.List.{range_with_len}
use Rattle.std.proofs.lemmas.Bool.{cases_lt}
use Rattle.std.proofs.lemmas.List.Elements.{All-from_get_or}
use Rattle.std.proofs.lemmas.List.FromFn.{length-map-range_with_len, get_or-map-range_with_len}
use Rattle.vpg_sides.specs.declared.player.Player.{Player}
use Rattle.vpg_game.specs.declared.levels.Level.{Level}
use Rattle.vpg_game.specs.Levels.{top_of, levels_of}
use Rattle.vpg_hope.specs.Arena.{Vertex as Node, vertex_at, IsClosed as IsClosedArena}
use Rattle.vpg_measure.specs.Numbers.{number_of, measure_of}
use Rattle.vpg_measure.specs.Lifts.{IsTableOf, NumberFitsEdge, IsProgressTable, choice_of, AreChoices}
use Rattle.vpg_measure.proofs.Numbers.{measures_have_numbers}
use Rattle.vpg_measure.proofs.Choices.{choice_fits}
use Rattle.vpg_hope.specs.Games.{Game, HasEdge, IsClosed, owner_of, priority_of, priorities}
use Rattle.vpg_hope.specs.Strategies.{Strategy, Wins}
use Rattle.vpg_measure.specs.Measures.{Shape, Measure, IsMeasure, Fits, Top}
use Rattle.vpg_measure.specs.Tables.{Table, IsProgressMeasure, IsLeastProgress, FitsAt, FitsFor}
use Rattle.vpg_hope.proofs.Edges.{AreEdgesInside, edges_inside}
use Rattle.vpg_measure.proofs.Winning.{FollowsFitting, fitting_wins}
use Rattle.vpg_measure.proofs.Signature.{top_refutes}
use Rattle.vpg_measure.proofs.Least.{least_exists}
use Rattle.vpg_measure.specs.Views.{measures_of, strategy_of}
use Rattle.vpg_measure.specs.Least.{IsBelowProgressTables}
use Rattle.vpg_measure.proofs.NumberTables.{number_not_top, measure_at_top, owner_there, priority_there, successors_there, value_within, progress_to, progress_from}
use Rattle.vpg_measure.proofs.LevelsShape.{levels_shape}

pub arena_closed : (arena : List Node) → IsClosedArena arena → IsClosed arena
arena_closed arena closed = closed

-- reading with a default what is there
slice_get-some : {X : Type 0} (xs : List (Option X)) (i : ℕ) (x : Option X) → slice_get xs i ≡ Some x → slice_index_or xs i None ≡ x
slice_get-some [] i x e = cc
slice_get-some (y ∷ xs) zero x e = cc
slice_get-some (y ∷ xs) (suc i) x e = slice_get-some xs i x e

even_back : (owner : Player) → owner ≡ Player.Even → owner ≡ Player.Even
even_back Player.Even e = refl
even_back Player.Odd e = cc

module _ (ls : List Level) (arena : List Node) (table : List ℕ) (choices : List (Option ℕ)) (is_table : IsTableOf ls arena table) (settled : IsProgressTable ls arena table) (are_choices : AreChoices ls arena table choices) where
  -- the choices go along edges over which the value fits
  follows : FollowsFitting ls arena (measures_of ls table) (strategy_of choices)
  follows v inside even low = of (choice_fits ls arena table v is_table settled there (even_back (vertex_at arena v).owner (sym (owner_there arena v there) ∙ even)) below)
    where
      there : v < length arena
      there = inside

      below : slice_index table v < top_of ls
      below = split (cases_lt (slice_index table v) (top_of ls))
        where
          split : (slice_index table v < top_of ls) ⊎ (top_of ls ≤ slice_index table v) → slice_index table v < top_of ls
          split (inl l) = l
          split (inr l) = absurd (low ((measure_at_top ls (slice_index table v) same)))
            where
              same : slice_index table v ≡ top_of ls
              same = omega (arith, value_within ls arena table is_table v)

      of : (w : ℕ) × (choice_of ls table (vertex_at arena v) (slice_index table v) ≡ Some w) × Contains (vertex_at arena v).successors w × NumberFitsEdge ls (vertex_at arena v).priority (slice_index table v) (slice_index table w) →
          (w : ℕ) × (strategy_of choices v ≡ Some w) × HasEdge arena v w × Fits ls (priority_of arena v) (measures_of ls table v) (measures_of ls table w)
      of w = (w.0, chosen, rw (successors_there arena v there) w.2, rw (priority_there arena v there) (w.3))
        where
          chosen : strategy_of choices v ≡ Some w.0
          chosen = slice_get-some choices v (choice_of ls table (vertex_at arena v) (slice_index table v)) (are_choices.1 v there) ∙ w.1

  pub choices_win : IsClosedArena arena → (v : ℕ) → v < length arena → slice_index table v < top_of ls → Wins arena Player.Even (strategy_of choices) v
  choices_win closed v inside below = fitting_wins ls arena (measures_of ls table) (strategy_of choices) (edges_inside arena (arena_closed arena closed))
      (progress_to ls arena table is_table settled) follows v inside (number_not_top ls (slice_index table v) below)

-- a progress table may be replaced by one with the same values
pub progress_same : (shape : Shape) (game : Game) (s t : Table) → AreEdgesInside game → ((v : ℕ) → v < length game → s v ≡ t v) → IsProgressMeasure shape game s → IsProgressMeasure shape game t
progress_same shape game s t closed same h = record {
  in_range = λ v l. subst (λ m. IsMeasure shape m) (same v l) (h.in_range v l);
  fits = λ v l. subst (λ m. FitsAt shape game t v m) (same v l) (of (owner_of game v) v (s v) (h.fits v l));
}
  where
    over : (v w : ℕ) (m : Measure) → HasEdge game v w → Fits shape (priority_of game v) m (s w) → Fits shape (priority_of game v) m (t w)
    over v w m e f = subst (λ n. Fits shape (priority_of game v) m n) (same w (closed v w e)) f

    of : (player : Player) (v : ℕ) (m : Measure) → FitsFor player shape game s v m → FitsFor player shape game t v m
    of Player.Even v m (inl e) = inl e
    of Player.Even v m (inr w) = inr (w.0, w.1, over v w.0 m w.1 w.2)
    of Player.Odd v m f = λ w e. over v w m e (f w e)

module _ (ls : List Level) (arena : List Node) (t : Table) (closed : AreEdgesInside arena) (progress : IsProgressMeasure ls arena t) where
  pub number_at : ℕ → ℕ
  number_at v = number_of ls (t v)

  pub numbers : List ℕ
  numbers = map number_at (range_with_len 0 (length arena))

  pub numbers_length : length numbers ≡ length arena
  unfolding numbers
  numbers_length = length-map-range_with_len number_at 0 (length arena)

  pub numbers_at : (v : ℕ) → v < length arena → slice_index numbers v ≡ number_of ls (t v)
  unfolding numbers number_at
  numbers_at v inside = get_or-map-range_with_len number_at 0 (length arena) v v 0 inside (omega arith)

  pub known : (v : ℕ) → v < length arena → (number_of ls (t v) ≤ top_of ls) × (measure_of ls (number_of ls (t v)) ≡ t v)
  known v inside = measures_have_numbers ls (t v) (progress.in_range v inside)

  pub numbers_table : IsTableOf ls arena numbers
  numbers_table = record { len = numbers_length; within = All-from_get_or (λ n. n ≤ top_of ls) numbers 0 (λ v l. bounded v (subst (λ n. v < n) numbers_length l)) }
    where
      bounded : (v : ℕ) → v < length arena → get_or numbers v 0 ≤ top_of ls
      bounded v inside = subst (λ n. n ≤ top_of ls) (sym (numbers_at v inside)) (known v inside).0

  pub same_values : (v : ℕ) → v < length arena → t v ≡ measures_of ls numbers v
  same_values v there = sym (ap (λ n. (measure_of ls n)) (numbers_at v inside) ∙ (known v inside).1)
    where
      inside : v < length arena
      inside = there

  pub numbers_settled : IsProgressTable ls arena numbers
  numbers_settled = progress_from ls arena numbers numbers_table (progress_same ls arena t (measures_of ls numbers) closed same_values progress)

  pub at_top : (v : ℕ) → v < length arena → top_of ls ≤ slice_index numbers v → t v ≡ Top
  at_top v inside l = same_values v inside ∙ (measure_at_top ls (slice_index numbers v) (exact (value_within ls arena numbers numbers_table v)))
    where
      exact : slice_index numbers v ≤ top_of ls → slice_index numbers v ≡ top_of ls
      exact h = omega arith

pub top_number_refutes : (arena : List Node) (table : List ℕ) → IsClosedArena arena → IsTableOf (levels_of (priorities arena)) arena table →
    IsBelowProgressTables (levels_of (priorities arena)) arena table → (v : ℕ) → v < length arena → slice_index table v ≡ top_of (levels_of (priorities arena)) →
    (strategy : Strategy) → Wins arena Player.Even strategy v → ⊥
top_number_refutes arena table closed is_table below v inside e strategy wins = of (least_exists levels arena edges)
  where
    levels : List Level
    levels = levels_of (priorities arena)

    edges : AreEdgesInside arena
    edges = edges_inside arena (arena_closed arena closed)

    of : (least : Table) × IsLeastProgress levels arena least → ⊥
    of t = top_refutes arena strategy v wins edges inside levels (levels_shape (priorities arena)) t.0 t.1.below
        (at_top levels arena t.0 edges t.1.progress v inside high)
      where
        under : slice_index table v ≤ slice_index (numbers levels arena t.0 edges t.1.progress) v
        under = (below (numbers levels arena t.0 edges t.1.progress) (numbers_table levels arena t.0 edges t.1.progress) (numbers_settled levels arena t.0 edges t.1.progress)).1 v (rw is_table.len inside)

        high : top_of levels ≤ slice_index (numbers levels arena t.0 edges t.1.progress) v
        high = subst (λ n. n ≤ slice_index (numbers levels arena t.0 edges t.1.progress) v) e under

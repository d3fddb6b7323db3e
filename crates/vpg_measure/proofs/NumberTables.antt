-- A table of numbers is a progress table where its measures are.
use Rattle.std.proofs.Common.{ext_get_or, subst, ◌≡◌, ◌≢◌, ℕ, ◌<◌, ◌≤◌, ◌⊎◌, inl, inr, List, length, get_or, slice_index, refl, ◌∙◌, lt-ltb, le-ltb, Contains, Any, arith}
use Rattle.std.proofs.lemmas.Bool.{cases_lt}
use Rattle.std.proofs.lemmas.List.{get_or_past}
use Rattle.std.proofs.lemmas.List.Elements.{All-contains, Contains-get_or}
use Rattle.vpg_sides.specs.declared.player.Player.{Player}
use Rattle.vpg_game.specs.declared.levels.Level.{Level}
use Rattle.vpg_game.specs.Levels.{top_of}
use Rattle.vpg_hope.specs.Arena.{Vertex as Node, vertex_at}
use Rattle.vpg_measure.specs.Numbers.{measure_of, digits_of}
use Rattle.vpg_measure.specs.Lifts.{IsTableOf, NumberFitsEdge, FitsEdges, IsProgressTable, IsBelowTable}
use Rattle.vpg_measure.proofs.Numbers.{numbers_are_measures}
use Rattle.vpg_hope.specs.Games.{owner_of, priority_of, successors_of}
use Rattle.vpg_measure.specs.Measures.{Measure, Fits, Top, Components}
use Rattle.vpg_measure.specs.Tables.{IsTable, IsProgressMeasure, FitsAt, FitsFor}
use Rattle.vpg_measure.specs.Views.{measures_of}

-- the measure of a number is Top exactly at the Top
pub measure_at_top : (ls : List Level) (n : ℕ) → n ≡ top_of ls → measure_of ls n ≡ Top
measure_at_top ls n e = rw (le-ltb n (top_of ls) below) refl
  where
    below : top_of ls ≤ n
    below = omega arith

pub measure_below_top : (ls : List Level) (n : ℕ) → n < top_of ls → measure_of ls n ≡ Components (digits_of ls n)
measure_below_top ls n l = rw (lt-ltb n (top_of ls) l) refl

pub top_from_measure : (ls : List Level) (n : ℕ) → n ≤ top_of ls → (measure_of ls n) ≡ Top → n ≡ top_of ls
top_from_measure ls n l e = of (cases_lt n (top_of ls))
  where
    of : (n < top_of ls) ⊎ (top_of ls ≤ n) → n ≡ top_of ls
    of (inl k) = clash (rw measure_below_top at e)
      where
        clash : (Components (digits_of ls n)) ≡ Top → n ≡ top_of ls
        clash f = cc
    of (inr k) = omega arith

pub number_not_top : (ls : List Level) (n : ℕ) → n < top_of ls → (measure_of ls n) ≢ Top
number_not_top ls n l e = of (top_from_measure ls n (weak l) e)
  where
    weak : n < top_of ls → n ≤ top_of ls
    weak l = omega arith

    of : n ≡ top_of ls → ⊥
    of e = omega arith

-- the vertices on both sides
module _ (arena : List Node) (v : ℕ) (inside : v < length arena) where
  pub owner_there : owner_of arena v ≡ (vertex_at arena v).owner
  owner_there = refl

  pub priority_there : priority_of arena v ≡ (vertex_at arena v).priority
  priority_there = refl

  pub successors_there : successors_of arena v ≡ (vertex_at arena v).successors
  successors_there = refl

module _ (ls : List Level) (arena : List Node) (table : List ℕ) (is_table : IsTableOf ls arena table) where
  pub value_within : (v : ℕ) → slice_index table v ≤ top_of ls
  value_within v = of (cases_lt v (length table))
    where
      of : (v < length table) ⊎ (length table ≤ v) → slice_index table v ≤ top_of ls
      of (inl l) = is_table.within v 0 l
      of (inr l) = rw (get_or_past table v 0 l) (omega arith)

  pub measures_in_range : IsTable ls arena (measures_of ls table)
  measures_in_range v inside = (numbers_are_measures ls (slice_index table v) (value_within v)).0

  -- what fits at a vertex on one side fits on the other
  fits_over : (v n : ℕ) → n ≤ top_of ls → (owner : Player) (p : ℕ) (ws : List ℕ) → (n ≡ top_of ls) ⊎ FitsEdges owner (λ w. NumberFitsEdge ls p n (slice_index table w)) ws →
      (owner ≡ Player.Even → ((measure_of ls n) ≡ Top) ⊎ ((w : ℕ) × Contains ws w × Fits ls p ((measure_of ls n)) (measures_of ls table w))) ×
      (owner ≡ Player.Odd → (w : ℕ) → Contains ws w → Fits ls p ((measure_of ls n)) (measures_of ls table w))
  fits_over v n l owner p ws h = (λ e. for_even owner e h, λ e. for_odd owner e h)
    where
      at_top : n ≡ top_of ls → (measure_of ls n) ≡ Top
      at_top e = (measure_at_top ls n e)

      for_even : (owner : Player) → owner ≡ Player.Even → (n ≡ top_of ls) ⊎ FitsEdges owner (λ w. NumberFitsEdge ls p n (slice_index table w)) ws →
          ((measure_of ls n) ≡ Top) ⊎ ((w : ℕ) × Contains ws w × Fits ls p ((measure_of ls n)) (measures_of ls table w))
      for_even owner e (inl t) = inl (at_top t)
      for_even Player.Even e (inr a) = inr (a.1, (a.0, a.2, a.3), a.4)
      for_even Player.Odd e (inr a) = cc

      top_fits : (m : Measure) → Fits ls p Top m
      top_fits Top = tt
      top_fits (Components b) = tt

      for_odd : (owner : Player) → owner ≡ Player.Odd → (n ≡ top_of ls) ⊎ FitsEdges owner (λ w. NumberFitsEdge ls p n (slice_index table w)) ws →
          (w : ℕ) → Contains ws w → Fits ls p ((measure_of ls n)) (measures_of ls table w)
      for_odd owner e (inl t) w c = rw (at_top t) (top_fits (measures_of ls table w))
      for_odd Player.Even e (inr a) w c = cc
      for_odd Player.Odd e (inr a) w c = All-contains (λ u. NumberFitsEdge ls p n (slice_index table u)) ws w a c

  fits_under : (n : ℕ) → n ≤ top_of ls → (owner : Player) (p : ℕ) (ws : List ℕ) →
      (owner ≡ Player.Even → ((measure_of ls n) ≡ Top) ⊎ ((w : ℕ) × Contains ws w × Fits ls p ((measure_of ls n)) (measures_of ls table w))) →
      (owner ≡ Player.Odd → (w : ℕ) → Contains ws w → Fits ls p ((measure_of ls n)) (measures_of ls table w)) →
      (n ≡ top_of ls) ⊎ FitsEdges owner (λ w. NumberFitsEdge ls p n (slice_index table w)) ws
  fits_under n l Player.Even p ws even odd = of (even refl)
    where
      of : ((measure_of ls n) ≡ Top) ⊎ ((w : ℕ) × Contains ws w × Fits ls p ((measure_of ls n)) (measures_of ls table w)) → (n ≡ top_of ls) ⊎ Any (λ w. NumberFitsEdge ls p n (slice_index table w)) ws
      of (inl t) = inl (top_from_measure ls n l t)
      of (inr w) = inr (w.1.0, w.0, w.1.1, w.1.2, w.2)
  fits_under n l Player.Odd p ws even odd = inr (λ k d i. odd refl (get_or ws k d) (Contains-get_or ws k d i))

  -- so the two notions of a progress table agree
  pub progress_to : IsProgressTable ls arena table → IsProgressMeasure ls arena (measures_of ls table)
  progress_to h = record { in_range = measures_in_range; fits = λ v inside. at v inside }
    where
      at : (v : ℕ) → v < length arena → FitsAt ls arena (measures_of ls table) v (measures_of ls table v)
      at v inside = rw (owner_there arena v inside) (of (vertex_at arena v).owner (fits_over v (slice_index table v) (value_within v) (vertex_at arena v).owner (vertex_at arena v).priority (vertex_at arena v).successors (h v inside)))
        where
          ws : List ℕ
          ws = (vertex_at arena v).successors

          p : ℕ
          p = (vertex_at arena v).priority

          m : Measure
          m = measures_of ls table v

          of : (owner : Player) →
              (owner ≡ Player.Even → (m ≡ Top) ⊎ ((w : ℕ) × Contains ws w × Fits ls p m (measures_of ls table w))) ×
              (owner ≡ Player.Odd → (w : ℕ) → Contains ws w → Fits ls p m (measures_of ls table w)) →
              FitsFor owner ls arena (measures_of ls table) v m
          of Player.Even k = rw (priority_there arena v inside, successors_there arena v inside) (k.0 refl)
          of Player.Odd k = rw (priority_there arena v inside, successors_there arena v inside) (k.1 refl)

  pub progress_from : IsProgressMeasure ls arena (measures_of ls table) → IsProgressTable ls arena table
  progress_from h v inside = fits_under (slice_index table v) (value_within v) (vertex_at arena v).owner (vertex_at arena v).priority (vertex_at arena v).successors
      (λ e. rw (← priority_there arena v inside, ← successors_there arena v inside) (even (owner_there arena v inside ∙ e)))
      (λ e. rw (← priority_there arena v inside, ← successors_there arena v inside) (odd (owner_there arena v inside ∙ e)))
    where
      there : v < length arena
      there = inside

      even : owner_of arena v ≡ Player.Even → FitsFor Player.Even ls arena (measures_of ls table) v (measures_of ls table v)
      even e = rw e at (h.fits v there)

      odd : owner_of arena v ≡ Player.Odd → FitsFor Player.Odd ls arena (measures_of ls table) v (measures_of ls table v)
      odd e = rw e at (h.fits v there)

-- two settled tables below every progress table are equal
pub settled_unique : (ls : List Level) (arena : List Node) (s t : List ℕ) → IsTableOf ls arena s → IsTableOf ls arena t → IsBelowTable s t → IsBelowTable t s → s ≡ t
settled_unique ls arena s t hs ht st ts = ext_get_or 0 s t st.0 (λ i l. same i (st.1 i l) (ts.1 i (subst (λ n. i < n) st.0 l)))
  where
    same : (i : ℕ) → slice_index s i ≤ slice_index t i → slice_index t i ≤ slice_index s i → get_or s i 0 ≡ get_or t i 0
    same i a b = omega arith

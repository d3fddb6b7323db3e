-- Rounds of lifts.
use Rattle.std.proofs.Common.{ℕ, zero, suc, ◌≡◌, ◌+◌, ◌-◌, ◌*◌, ◌<◌, ◌≤◌, max, List, [], ◌∷◌, length, set, refl, sym, ap, ◌∙◌, subst, inl, inr, All, arith}
use Rattle.std.specs.Prelude.{slice_index, sum, sum_by}
use Rattle.std.proofs.lemmas.Bool.{cases_lt, cases_eq}
use Rattle.std.proofs.lemmas.List.{length-set, set-get_or, get_or-set_same, get_or-set_other, ext_get_or}
use Rattle.std.proofs.lemmas.List.Elements.{All-set, All-head, All-tail}
use Rattle.std.proofs.lemmas.List.Sums.{sum_by-cons}
use Rattle.vpg_game.specs.declared.levels.Level.{Level}
use Rattle.vpg_game.specs.Levels.{top_of}
use Rattle.vpg_hope.specs.Arena.{Vertex, vertex_at}
use Rattle.vpg_measure.specs.Lifts.{IsTableOf, IsProgressTable, IsBelowTable, lift_of, raised, raised_before, round_of, after_rounds}
use Rattle.vpg_measure.specs.NumberLaws.{LiftStaysBelow, RoundsRise, RoundsStayBelow, RoundsStop}
use Rattle.vpg_measure.proofs.Progs.{lift_at_most, lift_is_least, lift_grows, slice_index-le, below_anywhere}

-- ---- one lift

pub raised-same : (ls : List Level) (arena : List Vertex) (table : List ℕ) (v : ℕ) →
    lift_of ls table (vertex_at arena v) ≤ slice_index table v → table ≡ raised ls arena table v
raised-same ls arena table v less =
    let most : max (slice_index table v) (lift_of ls table (vertex_at arena v)) ≡ slice_index table v = omega arith in
    sym (ap (set table v) most ∙ set-get_or table v 0)

pub table_set : (ls : List Level) (arena : List Vertex) (table : List ℕ) (v y : ℕ) → IsTableOf ls arena table → y ≤ top_of ls → IsTableOf ls arena (set table v y)
table_set ls arena table v y h le = record {
  len = length-set table v y ∙ h.len;
  within = All-set (λ n. n ≤ top_of ls) table v y le h.within;
}

-- ---- progress tables

pub progress_from : (ls : List Level) (arena : List Vertex) (table : List ℕ) → IsTableOf ls arena table →
    ((v : ℕ) → v < length arena → lift_of ls table (vertex_at arena v) ≤ slice_index table v) → IsProgressTable ls arena table
progress_from ls arena table t h =
    λ v less. (lift_is_least ls table (vertex_at arena v) (slice_index table v) t.within (slice_index-le (top_of ls) table t.within v)).1 (h v less)

pub progress_at : (ls : List Level) (arena : List Vertex) (table : List ℕ) → IsTableOf ls arena table → IsProgressTable ls arena table →
    (v : ℕ) → v < length arena → lift_of ls table (vertex_at arena v) ≤ slice_index table v
progress_at ls arena table t h v less =
    (lift_is_least ls table (vertex_at arena v) (slice_index table v) t.within (slice_index-le (top_of ls) table t.within v)).0 (h v less)

-- ---- a round rises, stays below progress tables, and stops at them

pub raised_table : (ls : List Level) (arena : List Vertex) (table : List ℕ) (v : ℕ) → IsTableOf ls arena table → IsTableOf ls arena (raised ls arena table v)
raised_table ls arena table v t =
    table_set ls arena table v _ t (omega (arith, slice_index-le (top_of ls) table t.within v, lift_at_most ls table (vertex_at arena v) t.within))

pub before_table : (ls : List Level) (arena : List Vertex) (v : ℕ) (table : List ℕ) → IsTableOf ls arena table → IsTableOf ls arena (raised_before ls arena v table)
before_table ls arena zero table t = t
before_table ls arena (suc v) table t = raised_table ls arena (raised_before ls arena v table) v (before_table ls arena v table t)

pub below_self : (table : List ℕ) → IsBelowTable table table
below_self table = (refl, λ v h. omega arith)

pub below_trans : (a b d : List ℕ) → IsBelowTable a b → IsBelowTable b d → IsBelowTable a d
below_trans a b d h k = (h.0 ∙ k.0, λ v less. omega (arith, h.1 v less, k.1 v (omega (arith, h.0))))

-- writing a greater value
set_above : (table : List ℕ) (v y : ℕ) → slice_index table v ≤ y → IsBelowTable table (set table v y)
set_above table v y le = (
  sym (length-set table v y),
  λ w less. elim (cases_eq w v) [
    | inl same ↦ (let within : v < length table = omega arith in
        rw same (rw (get_or-set_same table v y 0 within) le))
    | inr other ↦ rw (get_or-set_other table v w y 0 other) (omega arith)
  ],
)

-- writing a value that is at most the other's
set_below : (table other : List ℕ) (v y : ℕ) → IsBelowTable table other → y ≤ slice_index other v → IsBelowTable (set table v y) other
set_below table other v y h le = (
  length-set table v y ∙ h.0,
  λ w less. elim (cases_eq w v) [
    | inl same ↦ (let within : v < length table = omega (arith, length-set table v y) in
        rw same (rw (get_or-set_same table v y 0 within) le))
    | inr apart ↦ rw (get_or-set_other table v w y 0 apart) (h.1 w (omega (arith, length-set table v y)))
  ],
)

pub raised_above : (ls : List Level) (arena : List Vertex) (table : List ℕ) (v : ℕ) → IsBelowTable table (raised ls arena table v)
raised_above ls arena table v = set_above table v _ (omega arith)

pub raised_stays : (ls : List Level) (arena : List Vertex) (table other : List ℕ) (v : ℕ) → IsTableOf ls arena table → IsTableOf ls arena other →
    IsProgressTable ls arena other → v < length arena → IsBelowTable table other → IsBelowTable (raised ls arena table v) other
raised_stays ls arena table other v t o p less h =
    set_below table other v _ h
    (omega (arith, below_anywhere table other h v, lift_grows ls arena table other (vertex_at arena v) t o h, progress_at ls arena other o p v less))

before_above : (ls : List Level) (arena : List Vertex) (v : ℕ) (table : List ℕ) → IsBelowTable table (raised_before ls arena v table)
before_above ls arena zero table = below_self table
before_above ls arena (suc v) table =
    below_trans table (raised_before ls arena v table) _ (before_above ls arena v table) (raised_above ls arena (raised_before ls arena v table) v)

before_stays : (ls : List Level) (arena : List Vertex) (v : ℕ) (table other : List ℕ) → IsTableOf ls arena table → IsTableOf ls arena other →
    IsProgressTable ls arena other → v ≤ length arena → IsBelowTable table other → IsBelowTable (raised_before ls arena v table) other
before_stays ls arena zero table other t o p le h = h
before_stays ls arena (suc v) table other t o p le h =
    raised_stays ls arena (raised_before ls arena v table) other v (before_table ls arena v table t) o p (omega arith)
    (before_stays ls arena v table other t o p (omega arith) h)

pub rounds_rise : RoundsRise
rounds_rise ls arena table t = before_above ls arena (length arena) table

pub rounds_stay_below : RoundsStayBelow
rounds_stay_below ls arena table other t o p h = before_stays ls arena (length arena) table other t o p (omega arith) h

-- tables that are below one another are the same
below_both : (a b : List ℕ) → IsBelowTable a b → IsBelowTable b a → a ≡ b
below_both a b h k = ext_get_or 0 a b h.0 (λ v less. omega (arith, h.1 v less, k.1 v (omega (arith, h.0))))

-- the later vertices raise further
before_grows : (ls : List Level) (arena : List Vertex) (v k : ℕ) (table : List ℕ) → v ≤ k → IsBelowTable (raised_before ls arena v table) (raised_before ls arena k table)
before_grows ls arena v zero table le = (let e : v ≡ 0 = omega arith in rw e (below_self table))
before_grows ls arena v (suc k) table le = elim (cases_lt k v) [
  | inl more ↦ (let e : v ≡ suc k = omega arith in rw e (below_self (raised_before ls arena (suc k) table)))
  | inr less ↦ below_trans _ (raised_before ls arena k table) _ (before_grows ls arena v k table less) (raised_above ls arena (raised_before ls arena k table) k)
]

before_same : (ls : List Level) (arena : List Vertex) (table : List ℕ) → IsTableOf ls arena table → IsProgressTable ls arena table →
    (v : ℕ) → v ≤ length arena → raised_before ls arena v table ≡ table
before_same ls arena table t p zero le = refl
before_same ls arena table t p (suc v) le =
    ap (λ u. raised ls arena u v) (before_same ls arena table t p v (omega arith))
    ∙ sym (raised-same ls arena table v (progress_at ls arena table t p v (omega arith)))

stopped_at : (ls : List Level) (arena : List Vertex) (table : List ℕ) → IsTableOf ls arena table → round_of ls arena table ≡ table →
    (v : ℕ) → v < length arena → lift_of ls table (vertex_at arena v) ≤ slice_index table v
stopped_at ls arena table t stop v less =
    let here : raised_before ls arena v table ≡ table =
    below_both _ table (subst (λ u. IsBelowTable (raised_before ls arena v table) u) stop (before_grows ls arena v (length arena) table (omega arith)))
    (before_above ls arena v table) in
    let next : IsBelowTable (raised ls arena table v) table =
    subst (λ u. IsBelowTable (raised ls arena u v) table) here
    (subst (λ u. IsBelowTable (raised_before ls arena (suc v) table) u) stop (before_grows ls arena (suc v) (length arena) table less)) in
    let within : v < length table = omega (arith, t.len) in
    let written = get_or-set_same table v (max (slice_index table v) (lift_of ls table (vertex_at arena v))) 0 within in
    omega (arith, written, next.1 v (omega (arith, next.0)))

pub rounds_stop : RoundsStop
rounds_stop ls arena table t = (
  λ stop. progress_from ls arena table t (stopped_at ls arena table t stop),
  λ p. before_same ls arena table t p (length arena) (omega arith),
)

-- ---- several rounds

pub after_table : (ls : List Level) (arena : List Vertex) (k : ℕ) (table : List ℕ) → IsTableOf ls arena table → IsTableOf ls arena (after_rounds ls arena k table)
after_table ls arena zero table t = t
after_table ls arena (suc k) table t = before_table ls arena (length arena) (after_rounds ls arena k table) (after_table ls arena k table t)

pub after_above : (ls : List Level) (arena : List Vertex) (k : ℕ) (table : List ℕ) → IsBelowTable table (after_rounds ls arena k table)
after_above ls arena zero table = below_self table
after_above ls arena (suc k) table =
    below_trans table _ _ (after_above ls arena k table) (before_above ls arena (length arena) (after_rounds ls arena k table))

pub after_stays : (ls : List Level) (arena : List Vertex) (k : ℕ) (table other : List ℕ) → IsTableOf ls arena table → IsTableOf ls arena other →
    IsProgressTable ls arena other → IsBelowTable table other → IsBelowTable (after_rounds ls arena k table) other
after_stays ls arena zero table other t o p h = h
after_stays ls arena (suc k) table other t o p h =
    rounds_stay_below ls arena (after_rounds ls arena k table) other (after_table ls arena k table t) o p (after_stays ls arena k table other t o p h)

-- what is still missing to the top, and what there is
gap_sum : (top : ℕ) (table : List ℕ) → All (λ n. n ≤ top) table → sum_by (λ n. top - n) table + sum table ≡ length table * top
gap_sum top [] h = omega arith
gap_sum top (n ∷ table) h =
    let here = All-head (λ n. n ≤ top) n table h in
    let rest = gap_sum top table (All-tail (λ n. n ≤ top) n table h) in
    omega (arith, here, rest, sum_by-cons (λ n. top - n) n table, sum_by-cons (λ n. n) n table)

pub gap_bound : (top rounds : ℕ) (old new : List ℕ) → All (λ n. n ≤ top) old → All (λ n. n ≤ top) new → length old ≡ length new →
    sum old + rounds ≤ sum new → rounds ≤ sum_by (λ n. top - n) old
gap_bound top rounds old new h k len gain =
    omega (arith, gap_sum top old h, gap_sum top new k, ap (λ n. n * top) len)

pub lift_stays_below : LiftStaysBelow
lift_stays_below ls arena table other v t o p h less =
    omega (arith, lift_grows ls arena table other (vertex_at arena v) t o h, progress_at ls arena other o p v less)

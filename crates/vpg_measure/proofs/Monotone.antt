-- A greater table has greater rounds, and rounds that raise nothing change nothing.
use Rattle.std.proofs.Common.{ℕ, zero, suc, ◌≡◌, ◌<◌, ◌≤◌, List, length, set, refl, sym, ap, ◌∙◌, inl, inr, arith}
use Rattle.std.proofs.lemmas.Bool.{cases_lt, cases_eq}
use Rattle.std.proofs.lemmas.List.{length-set, get_or-set_same, get_or-set_other}
use Rattle.vpg_game.specs.declared.levels.Level.{Level}
use Rattle.vpg_hope.specs.Arena.{Vertex, vertex_at}
use Rattle.vpg_measure.specs.Lifts.{IsTableOf, IsBelowTable, raised, raised_before, round_of, after_rounds}
use Rattle.vpg_measure.specs.NumberLaws.{RoundsGrow}
use Rattle.vpg_measure.proofs.Progs.{lift_grows, below_anywhere}
use Rattle.vpg_measure.proofs.Rounds.{before_table, after_table}

set_grows : (table other : List ℕ) (v y z : ℕ) → IsBelowTable table other → y ≤ z → IsBelowTable (set table v y) (set other v z)
set_grows table other v y z h le = (
  length-set table v y ∙ h.0 ∙ sym (length-set other v z),
  λ w less. elim (cases_eq w v) [
    | inl same ↦ (let within : v < length table = omega (arith, length-set table v y) in
        let there : v < length other = omega (arith, h.0) in
        rw same (rw (get_or-set_same table v y 0 within, get_or-set_same other v z 0 there) le))
    | inr apart ↦ rw (get_or-set_other table v w y 0 apart, get_or-set_other other v w z 0 apart) (h.1 w (omega (arith, length-set table v y)))
  ],
)

raised_grows : (ls : List Level) (arena : List Vertex) (table other : List ℕ) (v : ℕ) → IsTableOf ls arena table → IsTableOf ls arena other →
    IsBelowTable table other → IsBelowTable (raised ls arena table v) (raised ls arena other v)
raised_grows ls arena table other v t o h =
    set_grows table other v _ _ h (omega (arith, below_anywhere table other h v, lift_grows ls arena table other (vertex_at arena v) t o h))

before_grows_too : (ls : List Level) (arena : List Vertex) (v : ℕ) (table other : List ℕ) → IsTableOf ls arena table → IsTableOf ls arena other →
    IsBelowTable table other → IsBelowTable (raised_before ls arena v table) (raised_before ls arena v other)
before_grows_too ls arena zero table other t o h = h
before_grows_too ls arena (suc v) table other t o h =
    raised_grows ls arena (raised_before ls arena v table) (raised_before ls arena v other) v (before_table ls arena v table t) (before_table ls arena v other o)
    (before_grows_too ls arena v table other t o h)

pub after_grows : (ls : List Level) (arena : List Vertex) (k : ℕ) (table other : List ℕ) → IsTableOf ls arena table → IsTableOf ls arena other →
    IsBelowTable table other → IsBelowTable (after_rounds ls arena k table) (after_rounds ls arena k other)
after_grows ls arena zero table other t o h = h
after_grows ls arena (suc k) table other t o h =
    before_grows_too ls arena (length arena) (after_rounds ls arena k table) (after_rounds ls arena k other) (after_table ls arena k table t) (after_table ls arena k other o)
    (after_grows ls arena k table other t o h)

pub rounds_grow : RoundsGrow
rounds_grow ls arena table other k t o h = after_grows ls arena k table other t o h

pub after_same : (ls : List Level) (arena : List Vertex) (table : List ℕ) (k n : ℕ) → k ≤ n →
    round_of ls arena (after_rounds ls arena k table) ≡ after_rounds ls arena k table → after_rounds ls arena n table ≡ after_rounds ls arena k table
after_same ls arena table k zero le stop = (let e : k ≡ 0 = omega arith in rw e refl)
after_same ls arena table k (suc n) le stop = elim (cases_lt n k) [
  | inl more ↦ (let e : k ≡ suc n = omega arith in rw e refl)
  | inr less ↦ ap (round_of ls arena) (after_same ls arena table k n less stop) ∙ stop
]

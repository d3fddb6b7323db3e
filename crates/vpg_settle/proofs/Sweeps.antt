-- Rounds end in a progress table, or each raised something.
use Rattle.std.proofs.Common.{◌≡◌, ℕ, zero, suc, ◌+◌, ◌<◌, ◌≤◌, List, [], ◌∷◌, refl, sym, ap, ap₂, inl, inr, arith, subst}
use Rattle.std.proofs.Math.Nat.{eq-or-lt_of_le}
use Rattle.std.proofs.lemmas.List.Sums.{sum_by-cons}
use Rattle.std.specs.Prelude.{sum, ◌⊎◌}
use Rattle.vpg_game.specs.declared.levels.Level.{Level}
use Rattle.vpg_hope.specs.Games.{Vertex}
use Rattle.vpg_measure.specs.Lifts.{IsTableOf, IsProgressTable, IsBelowTable, round_of, after_rounds}
use Rattle.vpg_measure.proofs.Rounds.{rounds_stop, rounds_rise, after_table}

-- a table at most another has a smaller sum, or is the same
rises_or_same : (a b : List ℕ) → IsBelowTable a b → (sum a < sum b) ⊎ (a ≡ b)
rises_or_same [] [] below = inr refl
rises_or_same [] (y ∷ b) below = absurd (omega (arith, below.0))
rises_or_same (x ∷ a) [] below = absurd (omega (arith, below.0))
rises_or_same (x ∷ a) (y ∷ b) below =
    go (eq-or-lt_of_le first) (rises_or_same a b (omega (arith, below.0), λ v l. below.1 (suc v) (omega (arith, l))))
  where
    first : x ≤ y
    first = below.1 0 (omega arith)

    go : (x ≡ y) ⊎ (x < y) → (sum a < sum b) ⊎ (a ≡ b) → (sum (x ∷ a) < sum (y ∷ b)) ⊎ (x ∷ a ≡ y ∷ b)
    go one (inl less) = inl (omega (arith, first, less, sum_by-cons (λ n. n) x a, sum_by-cons (λ n. n) y b))
    go (inl same_first) (inr same) = inr (ap₂ (λ (n : ℕ) (l : List ℕ). n ∷ l) same_first same)
    go (inr less_first) (inr same) = inl (omega (arith, less_first, ap sum same, sum_by-cons (λ n. n) x a, sum_by-cons (λ n. n) y b))

pub sums_rise : (a b : List ℕ) → IsBelowTable a b → sum a ≤ sum b
sums_rise a b below = go (rises_or_same a b below)
  where
    go : (sum a < sum b) ⊎ (a ≡ b) → sum a ≤ sum b
    go (inl less) = omega (arith, less)
    go (inr same) = omega (arith, ap sum same)

-- one round more
one_round : (ls : List Level) (arena : List Vertex) (table : List ℕ) → IsTableOf ls arena table → IsProgressTable ls arena table ⊎ (sum table < sum (round_of ls arena table))
one_round ls arena table is_table = go (rises_or_same table (round_of ls arena table) (rounds_rise ls arena table is_table))
  where
    go : (sum table < sum (round_of ls arena table)) ⊎ (table ≡ round_of ls arena table) → IsProgressTable ls arena table ⊎ (sum table < sum (round_of ls arena table))
    go (inl less) = inr less
    go (inr same) = inl ((rounds_stop ls arena table is_table).0 (sym same))

pub rounds_settle_or_move : (ls : List Level) (arena : List Vertex) (k : ℕ) (table : List ℕ) → IsTableOf ls arena table →
    IsProgressTable ls arena (after_rounds ls arena k table) ⊎ (sum table + k ≤ sum (after_rounds ls arena k table))
rounds_settle_or_move ls arena zero table is_table = inr (omega arith)
rounds_settle_or_move ls arena (suc k) table is_table =
    let before = after_rounds ls arena k table in
    let is_before : IsTableOf ls arena before = after_table ls arena k table is_table in
    go before is_before (one_round ls arena before is_before) (rounds_settle_or_move ls arena k table is_table)
  where
    go : (before : List ℕ) → IsTableOf ls arena before → IsProgressTable ls arena before ⊎ (sum before < sum (round_of ls arena before)) →
        IsProgressTable ls arena before ⊎ (sum table + k ≤ sum before) →
        IsProgressTable ls arena (round_of ls arena before) ⊎ (sum table + suc k ≤ sum (round_of ls arena before))
    go before is_before (inl progress) earlier =
        inl (subst (λ (t : List ℕ). IsProgressTable ls arena t) (sym ((rounds_stop ls arena before is_before).1 progress)) progress)
    go before is_before (inr less) (inl progress) =
        inl (subst (λ (t : List ℕ). IsProgressTable ls arena t) (sym ((rounds_stop ls arena before is_before).1 progress)) progress)
    go before is_before (inr less) (inr moved) = inr (omega (arith, moved, less))

-- Scopes hold chains: from each fixpoint the next one outwards.
use Rattle.std.proofs.Common.{◌≡◌, ℕ, zero, suc, ◌<◌, ◌≤◌, ◌⊎◌, inl, inr, max, Option, Some, None, List, [], ◌∷◌, length, drop, get_or, refl, sym, ap, arith, eq-eqb, ne_eqb, lt-ltb, le-ltb}
use Rattle.std.proofs.lemmas.Bool.{cases_order}
use Rattle.vpg_parts.specs.declared.part.Kind.{Kind as PartKind}
use Rattle.vpg_parts.specs.declared.symbol.Symbol.{Symbol}
use Rattle.vpg_parts.specs.declared.symbol.Symbol.TheVariants.{True, Fixpoint}
use Rattle.vpg_parts.specs.Preorder.{place_in}
use Rattle.vpg_normal.specs.Scopes.{walked}
use Rattle.vpg_normal.specs.Ranks.{crossed}

-- a fixpoint stands at this place, before another one
pub record IsLink (symbols : List Symbol) (from : Option ℕ) (m below : ℕ) : Type 0 where
  pub is : from ≡ Some m
  pub lower : m < below
  pub inside : m < length symbols
  pub kind : PartKind
  pub symbol : get_or symbols m True ≡ Fixpoint kind

-- the scopes hold this chain of fixpoints, innermost first, all before a place
abbrev pub IsChainFrom : List Symbol → List (Option ℕ) → ℕ → Option ℕ → List ℕ → Type 0
IsChainFrom symbols scopes below from [] = from ≡ None
IsChainFrom symbols scopes below from (m ∷ c) = IsLink symbols from m below × IsChainFrom symbols scopes m (get_or scopes m None) c

-- the chain that scopes hold, of so many at most
abbrev pub chain_from : List (Option ℕ) → ℕ → Option ℕ → List ℕ
chain_from scopes zero from = []
chain_from scopes (suc n) None = []
chain_from scopes (suc n) (Some m) = m ∷ chain_from scopes n (get_or scopes m None)

abbrev pub chain_at : List (Option ℕ) → ℕ → List ℕ
chain_at scopes k = chain_from scopes k (get_or scopes k None)

-- the greatest priority of so many fixpoints of a chain
abbrev pub greatest_of : List ℕ → ℕ → List ℕ → ℕ
greatest_of priorities zero c = 0
greatest_of priorities (suc n) [] = 0
greatest_of priorities (suc n) (m ∷ c) = max (get_or priorities m 0) (greatest_of priorities n c)

module _ (symbols : List Symbol) (scopes : List (Option ℕ)) where
  pub chain_more : (c : List ℕ) (b d : ℕ) (from : Option ℕ) → b ≤ d → IsChainFrom symbols scopes b from c → IsChainFrom symbols scopes d from c
  chain_more [] b d from l h = h
  chain_more (m ∷ c) b d from l h = (record { is = h.0.is; lower = omega (arith, h.0.lower); inside = h.0.inside; kind = h.0.kind; symbol = h.0.symbol }, h.1)

  pub chain_is : (c : List ℕ) (b n : ℕ) (from : Option ℕ) → b ≤ n → IsChainFrom symbols scopes b from c → chain_from scopes n from ≡ c
  chain_is [] b zero from l h = refl
  chain_is [] b (suc n) from l h = rw h refl
  chain_is (m ∷ c) b zero from l h = absurd (omega (arith, h.0.lower))
  chain_is (m ∷ c) b (suc n) from l h = rw h.0.is (ap (λ (xs : List ℕ). m ∷ xs) (chain_is c m n (get_or scopes m None) (omega (arith, h.0.lower)) h.1))

  pub chain_below : (c : List ℕ) (b : ℕ) (from : Option ℕ) (d : ℕ) → IsChainFrom symbols scopes b from c → d < length c → get_or c d 0 < b
  chain_below [] b from d h l = absurd (omega arith)
  chain_below (m ∷ c) b from zero h l = h.0.lower
  chain_below (m ∷ c) b from (suc d) h l = omega (arith, h.0.lower, chain_below c m (get_or scopes m None) d h.1 (omega arith))

  pub chain_short : (c : List ℕ) (b : ℕ) (from : Option ℕ) → IsChainFrom symbols scopes b from c → length c ≤ b
  chain_short [] b from h = omega arith
  chain_short (m ∷ c) b from h = omega (arith, h.0.lower, chain_short c m (get_or scopes m None) h.1)

  pub chain_falls : (c : List ℕ) (b : ℕ) (from : Option ℕ) (i j : ℕ) → IsChainFrom symbols scopes b from c → i < j → j < length c → get_or c j 0 < get_or c i 0
  chain_falls [] b from i j h l k = absurd (omega arith)
  chain_falls (m ∷ c) b from i zero h l k = absurd (omega arith)
  chain_falls (m ∷ c) b from zero (suc j) h l k = chain_below c m (get_or scopes m None) j h.1 (omega arith)
  chain_falls (m ∷ c) b from (suc i) (suc j) h l k = chain_falls c m (get_or scopes m None) i j h.1 (omega arith) (omega arith)

  pub chain_apart : (c : List ℕ) (b : ℕ) (from : Option ℕ) (i j : ℕ) → IsChainFrom symbols scopes b from c → i < length c → j < length c → get_or c i 0 ≡ get_or c j 0 → i ≡ j
  chain_apart c b from i j h k l e = decide (cases_order i j)
    where
      decide : (i ≡ j) ⊎ ((i < j) ⊎ (j < i)) → i ≡ j
      decide (inl same) = same
      decide (inr (inl less)) = absurd (omega (arith, chain_falls c b from i j h less l))
      decide (inr (inr more)) = absurd (omega (arith, chain_falls c b from j i h more k))

  pub chain_walked : (c : List ℕ) (b : ℕ) (from : Option ℕ) (d : ℕ) → IsChainFrom symbols scopes b from c → d < length c → walked scopes d from ≡ Some (get_or c d 0)
  chain_walked [] b from d h l = absurd (omega arith)
  chain_walked (m ∷ c) b from zero h l = h.0.is
  chain_walked (m ∷ c) b from (suc d) h l = rw h.0.is (chain_walked c m (get_or scopes m None) d h.1 (omega arith))

  pub chain_crossed : (priorities : List ℕ) (c : List ℕ) (b : ℕ) (from : Option ℕ) (d n : ℕ) → IsChainFrom symbols scopes b from c → d < length c → d ≤ n →
      crossed scopes priorities (get_or c d 0) n from ≡ greatest_of priorities d c
  chain_crossed priorities [] b from d n h l k = absurd (omega arith)
  chain_crossed priorities (m ∷ c) b from zero zero h l k = refl
  chain_crossed priorities (m ∷ c) b from zero (suc n) h l k = rw (h.0.is, le-ltb m m (omega arith)) refl
  chain_crossed priorities (m ∷ c) b from (suc d) zero h l k = absurd (omega arith)
  chain_crossed priorities (m ∷ c) b from (suc d) (suc n) h l k = rw (h.0.is, lt-ltb (get_or c d 0) m (chain_below c m (get_or scopes m None) d h.1 (omega arith)))
      (ap (max (get_or priorities m 0)) (chain_crossed priorities c m (get_or scopes m None) d n h.1 (omega arith) (omega arith)))

  pub chain_place : (c : List ℕ) (b : ℕ) (from : Option ℕ) (d : ℕ) → IsChainFrom symbols scopes b from c → d < length c → place_in (get_or c d 0) c ≡ d
  chain_place [] b from d h l = absurd (omega arith)
  chain_place (m ∷ c) b from zero h l = rw (eq-eqb m m refl) refl
  chain_place (m ∷ c) b from (suc d) h l = rw (ne_eqb m (get_or c d 0) (λ e. omega (arith, chain_below c m (get_or scopes m None) d h.1 (omega arith)))) (ap suc (chain_place c m (get_or scopes m None) d h.1 (omega arith)))

  pub chain_dropped : (c : List ℕ) (b : ℕ) (from : Option ℕ) (d : ℕ) → IsChainFrom symbols scopes b from c → d < length c → drop d c ≡ get_or c d 0 ∷ chain_at scopes (get_or c d 0)
  chain_dropped [] b from d h l = absurd (omega arith)
  chain_dropped (m ∷ c) b from zero h l = ap (λ (xs : List ℕ). m ∷ xs) (sym (chain_is c m m (get_or scopes m None) (omega arith) h.1))
  chain_dropped (m ∷ c) b from (suc d) h l = chain_dropped c m (get_or scopes m None) d h.1 (omega arith)

  -- at each place of a chain a fixpoint stands
  pub chain_symbol : (c : List ℕ) (b : ℕ) (from : Option ℕ) (d : ℕ) → IsChainFrom symbols scopes b from c → d < length c →
      (get_or c d 0 < length symbols) × (kind : PartKind) × (get_or symbols (get_or c d 0) True ≡ Fixpoint kind)
  chain_symbol [] b from d h l = absurd (omega arith)
  chain_symbol (m ∷ c) b from zero h l = (h.0.inside, h.0.kind, h.0.symbol)
  chain_symbol (m ∷ c) b from (suc d) h l = chain_symbol c m (get_or scopes m None) d h.1 (omega arith)

-- One more turn of each pass over the symbols.
use Rattle.std.proofs.Common.{◌≡◌, ℕ, zero, suc, ◌+◌, ◌-◌, ◌<◌, ◌≤◌, ◌%◌, ◌⊎◌, inl, inr, max, true, false, eqb, ltb, Option, Some, None, List, [], ◌∷◌, ◌++◌, length, get_or, set, refl, sym, ap, ◌∙◌, arith, length-set, get_or-set_same, get_or-set_other, ltb-true, lt-ltb, le-ltb}
use Rattle.std.proofs.lemmas.Bool.{cases_Bool, cases_eq}
use Rattle.std.proofs.lemmas.List.{get_or_append_left, get_or_push, get_or_read}
use Rattle.vpg_requirement.specs.Fixpoints.{Kind, least, greatest}
use Rattle.vpg_requirement.specs.Priorities.{next_priority}
use Rattle.vpg_parts.specs.declared.symbol.Symbol.{Symbol}
use Rattle.vpg_parts.specs.declared.symbol.Symbol.TheVariants.{True, False, And, Or, SomeStep, EveryStep, Fixpoint, Variable}
use Rattle.vpg_parts.specs.Parts.{kind_of}
use Rattle.vpg_normal.specs.Scopes.{walked}
use Rattle.vpg_normal.specs.Ranks.{crossed, if_names, greatest_share, priority_of, ArePriorities}

-- ---- an element more

pub pushed : {X : Type 0} (F : ℕ → X) (xs : List X) (d x : X) (n : ℕ) → length xs ≡ n → x ≡ F n → ((k : ℕ) → k < n → get_or xs k d ≡ F k) → (k : ℕ) → k < n + 1 → get_or (xs ++ x ∷ []) k d ≡ F k
pushed F xs d x n count is h k l = decide (cases_eq k n)
  where
    decide : (k ≡ n) ⊎ (k ≡ n → ⊥) → get_or (xs ++ x ∷ []) k d ≡ F k
    decide (inl e) = get_or_push xs x d k (omega (arith, count, e)) ∙ is ∙ ap F (sym e)
    decide (inr e) = get_or_append_left xs (x ∷ []) d k (omega arith) ∙ h k (omega arith)

-- ---- priorities

next_low : (kind : Kind) (n : ℕ) → next_priority kind n ≤ suc n
next_low least n = decide (cases_Bool (eqb (n % 2) 1))
  where
    decide : (eqb (n % 2) 1 ≡ true) ⊎ (eqb (n % 2) 1 ≡ false) → next_priority least n ≤ suc n
    decide (inl t) = rw t (omega arith)
    decide (inr f) = rw f (omega arith)
next_low greatest n = decide (cases_Bool (eqb (n % 2) 0))
  where
    decide : (eqb (n % 2) 0 ≡ true) ⊎ (eqb (n % 2) 0 ≡ false) → next_priority greatest n ≤ suc n
    decide (inl t) = rw t (omega arith)
    decide (inr f) = rw f (omega arith)

module _ (scopes fixpoints : List (Option ℕ)) (priorities : List ℕ) (b : ℕ) (low : (k : ℕ) → get_or priorities k 0 ≤ b) where
  crossed_low : (m n : ℕ) (from : Option ℕ) → crossed scopes priorities m n from ≤ b
  crossed_low m zero from = omega arith
  crossed_low m (suc n) None = omega arith
  crossed_low m (suc n) (Some k) = decide (cases_Bool (ltb m k)) (crossed_low m n (get_or scopes k None))
    where
      decide : (ltb m k ≡ true) ⊎ (ltb m k ≡ false) → crossed scopes priorities m n (get_or scopes k None) ≤ b → crossed scopes priorities m (suc n) (Some k) ≤ b
      decide (inl t) h = rw t (omega (arith, low k))
      decide (inr f) h = rw f (omega arith)

  names_low : (m n : ℕ) (named : Option ℕ) → n ≤ b → if_names m n named ≤ b
  names_low m n None h = omega arith
  names_low m n (Some k) h = decide (cases_Bool (eqb k m))
    where
      decide : (eqb k m ≡ true) ⊎ (eqb k m ≡ false) → if_names m n (Some k) ≤ b
      decide (inl t) = rw t h
      decide (inr f) = rw f (omega arith)

  pub shares_low : (m from n : ℕ) → greatest_share scopes fixpoints priorities m from n ≤ b
  shares_low m from zero = omega arith
  shares_low m from (suc n) = omega (
    arith,
    shares_low m from n,
    names_low m (crossed scopes priorities m (from + n) (get_or scopes (from + n) None)) (get_or fixpoints (from + n) None) (crossed_low m (from + n) (get_or scopes (from + n) None)),
  )

  pub priority_low : (sizes : List ℕ) (k : ℕ) (s : Symbol) → priority_of sizes scopes fixpoints priorities k s ≤ suc b
  priority_low sizes k True = omega arith
  priority_low sizes k False = omega arith
  priority_low sizes k And = omega arith
  priority_low sizes k Or = omega arith
  priority_low sizes k (SomeStep x) = omega arith
  priority_low sizes k (EveryStep x) = omega arith
  priority_low sizes k (Fixpoint kind) = omega (arith, next_low (kind_of kind) (greatest_share scopes fixpoints priorities k (suc k) (get_or sizes (suc k) 0)), shares_low k (suc k) (get_or sizes (suc k) 0))
  priority_low sizes k (Variable i) = omega arith

-- a priority depends on those behind it alone
module _ (scopes fixpoints : List (Option ℕ)) (priorities : List ℕ) (place x m : ℕ) (before : place ≤ m) where
  crossed_same : (n : ℕ) (from : Option ℕ) → crossed scopes (set priorities place x) m n from ≡ crossed scopes priorities m n from
  crossed_same zero from = refl
  crossed_same (suc n) None = refl
  crossed_same (suc n) (Some k) = decide (cases_Bool (ltb m k)) (crossed_same n (get_or scopes k None))
    where
      decide : (ltb m k ≡ true) ⊎ (ltb m k ≡ false) → crossed scopes (set priorities place x) m n (get_or scopes k None) ≡ crossed scopes priorities m n (get_or scopes k None) →
          crossed scopes (set priorities place x) m (suc n) (Some k) ≡ crossed scopes priorities m (suc n) (Some k)
      decide (inl t) h = rw (t, h, get_or-set_other priorities place k x 0 (λ e. omega (arith, ltb-true m k t))) refl
      decide (inr f) h = rw f refl

  shares_same : (from n : ℕ) → greatest_share scopes fixpoints (set priorities place x) m from n ≡ greatest_share scopes fixpoints priorities m from n
  shares_same from zero = refl
  shares_same from (suc n) = rw (shares_same from n, crossed_same (from + n) (get_or scopes (from + n) None)) refl

  pub priority_same : (sizes : List ℕ) (s : Symbol) → priority_of sizes scopes fixpoints (set priorities place x) m s ≡ priority_of sizes scopes fixpoints priorities m s
  priority_same sizes True = refl
  priority_same sizes False = refl
  priority_same sizes And = refl
  priority_same sizes Or = refl
  priority_same sizes (SomeStep y) = refl
  priority_same sizes (EveryStep y) = refl
  priority_same sizes (Fixpoint kind) = ap (next_priority (kind_of kind)) (shares_same (suc m) (get_or sizes (suc m) 0))
  priority_same sizes (Variable i) = refl

pub priorities_turn : (symbols : List Symbol) (sizes : List ℕ) (scopes fixpoints : List (Option ℕ)) (priorities : List ℕ) (at place x : ℕ) (s : Symbol) →
    ArePriorities symbols sizes scopes fixpoints priorities at → at ≡ place + 1 → place < length symbols → s ≡ get_or symbols place s → x ≡ priority_of sizes scopes fixpoints priorities place s →
    ArePriorities symbols sizes scopes fixpoints (set priorities place x) place
priorities_turn symbols sizes scopes fixpoints priorities at place x s h next l is here = record { count = length-set priorities place x ∙ h.count; each = each }
  where
    each : (k : ℕ) → place ≤ k → k < length symbols → get_or (set priorities place x) k 0 ≡ priority_of sizes scopes fixpoints (set priorities place x) k (get_or symbols k True)
    each k behind inside = decide (cases_eq k place)
      where
        decide : (k ≡ place) ⊎ (k ≡ place → ⊥) → get_or (set priorities place x) k 0 ≡ priority_of sizes scopes fixpoints (set priorities place x) k (get_or symbols k True)
        decide (inl e) = rw e (get_or-set_same priorities place x 0 (omega (arith, h.count)) ∙ here ∙ ap (priority_of sizes scopes fixpoints priorities place) (get_or_read symbols place s l is True) ∙
            sym (priority_same scopes fixpoints priorities place x place (omega arith) sizes (get_or symbols place True)))
        decide (inr e) = get_or-set_other priorities place k x 0 e ∙ h.each k (omega arith) inside ∙ sym (priority_same scopes fixpoints priorities place x k behind sizes (get_or symbols k True))

pub low_turn : (priorities : List ℕ) (at place x n : ℕ) → ((k : ℕ) → get_or priorities k 0 ≤ n - at) → at ≡ place + 1 → place < n → x ≤ suc (n - at) → length priorities ≡ n → (k : ℕ) → get_or (set priorities place x) k 0 ≤ n - place
low_turn priorities at place x n low next l h count k = decide (cases_eq k place)
  where
    decide : (k ≡ place) ⊎ (k ≡ place → ⊥) → get_or (set priorities place x) k 0 ≤ n - place
    decide (inl e) = rw (e, get_or-set_same priorities place x 0 (omega (arith, count))) (omega arith)
    decide (inr e) = rw (get_or-set_other priorities place k x 0 e) (omega (arith, low k))

-- ---- one step outwards

pub walked_step : (scopes : List (Option ℕ)) (n m k : ℕ) (from : Option ℕ) → n ≡ suc m → from ≡ Some k → walked scopes n from ≡ walked scopes m (get_or scopes k None)
walked_step scopes n m k from more is = rw (more, is) refl

pub crossed_step : (scopes : List (Option ℕ)) (priorities : List ℕ) (low n m k : ℕ) (from : Option ℕ) → n ≡ suc m → from ≡ Some k → low < k →
    crossed scopes priorities low n from ≡ max (get_or priorities k 0) (crossed scopes priorities low m (get_or scopes k None))
crossed_step scopes priorities low n m k from more is above = rw (more, is, lt-ltb low k above) refl

pub crossed_low_place : (scopes : List (Option ℕ)) (priorities : List ℕ) (low n k : ℕ) (from : Option ℕ) → from ≡ Some k → k ≤ low → crossed scopes priorities low n from ≡ 0
crossed_low_place scopes priorities low zero k from is below = refl
crossed_low_place scopes priorities low (suc n) k from is below = rw (is, le-ltb low k below) refl

pub crossed_none : (scopes : List (Option ℕ)) (priorities : List ℕ) (low n : ℕ) (from : Option ℕ) → ((k : ℕ) → from ≡ Some k → ⊥) → crossed scopes priorities low n from ≡ 0
crossed_none scopes priorities low zero from not_some = refl
crossed_none scopes priorities low (suc n) None not_some = refl
crossed_none scopes priorities low (suc n) (Some k) not_some = absurd (not_some k refl)

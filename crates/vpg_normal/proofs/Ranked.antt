-- The priorities at places are those of the normal form.
use Rattle.std.proofs.Common.{◌≡◌, ℕ, zero, suc, ◌+◌, ◌<◌, ◌⊎◌, inl, inr, max, Option, Some, None, Bool, true, false, cond, ◌||◌, eqb, List, ◌∷◌, length, get_or, refl, ap, ◌∙◌, arith, add-suc, add-zero, eq-eqb, ne_eqb}
use Rattle.std.proofs.lemmas.Bool.{cases_eq}
use Rattle.vpg_requirement.specs.Actions.{ActionFormula}
use Rattle.vpg_requirement.specs.Fixpoints.{Kind}
use Rattle.vpg_requirement.specs.NormalForms.{NormalForm, met, unmet, both, either, some_step, every_step, fixpoint, variable}
use Rattle.vpg_requirement.specs.Priorities.{is_free, inner_priority, next_priority, with_priorities, IsClosedBelow}
use Rattle.vpg_parts.specs.declared.symbol.Symbol.{Symbol}
use Rattle.vpg_parts.specs.declared.symbol.Symbol.TheVariants.{True, False, And, Or, SomeStep, EveryStep, Fixpoint, Variable}
use Rattle.vpg_parts.specs.Parts.{kind_of}
use Rattle.vpg_normal.specs.Scopes.{fixpoint_of, AreFixpoints}
use Rattle.vpg_normal.specs.Ranks.{if_names, crossed, share_of, greatest_share, priority_of, ArePriorities}
use Rattle.vpg_normal.proofs.Chains.{greatest_of, chain_short, chain_apart, chain_walked, chain_crossed}
use Rattle.vpg_normal.proofs.Placed.{IsHere, IsPlaced}

-- each fixpoint of the normal form has its priority at its place
abbrev pub IsRanked : List ℕ → List ℕ → ℕ → NormalForm → Type 0
IsRanked sizes priorities k met = Unit {0}
IsRanked sizes priorities k unmet = Unit {0}
IsRanked sizes priorities k (both f g) = IsRanked sizes priorities (suc k) f × IsRanked sizes priorities (suc k + get_or sizes (suc k) 0) g
IsRanked sizes priorities k (either f g) = IsRanked sizes priorities (suc k) f × IsRanked sizes priorities (suc k + get_or sizes (suc k) 0) g
IsRanked sizes priorities k (some_step x f) = IsRanked sizes priorities (suc k) f
IsRanked sizes priorities k (every_step x f) = IsRanked sizes priorities (suc k) f
IsRanked sizes priorities k (fixpoint kind p f) =
    (get_or priorities k 0 ≡ next_priority kind (inner_priority 0 (with_priorities f))) × IsRanked sizes priorities (suc k) f
IsRanked sizes priorities k (variable i) = Unit {0}

-- ---- numbers

greatest_of_two : (a b : Bool) (x y t : ℕ) → max 0 (max (max x (cond a t 0)) (max y (cond b t 0))) ≡ max (max x y) (cond (a || b) t 0)
greatest_of_two true true x y t = omega arith
greatest_of_two true false x y t = omega arith
greatest_of_two false true x y t = omega arith
greatest_of_two false false x y t = omega arith

greatest_inside : (b : Bool) (q x t : ℕ) → max 0 (max x (cond b (max q t) 0)) ≡ max (max (cond b q 0) x) (cond b t 0)
greatest_inside true q x t = omega arith
greatest_inside false q x t = omega arith

no_greatest : (b : Bool) → ◌≡◌ {A = ℕ} (cond b 0 0) 0
no_greatest true = refl
no_greatest false = refl

module _ (symbols : List Symbol) (scopes fixpoints : List (Option ℕ)) (priorities : List ℕ) (m : ℕ) where
  -- ---- shares of a range

  shares_joined : (from a b : ℕ) → greatest_share scopes fixpoints priorities m from (a + b) ≡ max (greatest_share scopes fixpoints priorities m from a) (greatest_share scopes fixpoints priorities m (from + a) b)
  shares_joined from a zero = rw (add-zero a) (omega arith)
  shares_joined from a (suc b) = rw (add-suc a b) (omega (arith, shares_joined from a b, same))
    where
      same : share_of scopes fixpoints priorities m (from + (a + b)) ≡ share_of scopes fixpoints priorities m (from + a + b)
      same = ap (share_of scopes fixpoints priorities m) (omega arith)

  pub shares_after : (from n : ℕ) → greatest_share scopes fixpoints priorities m from (suc n) ≡ max (share_of scopes fixpoints priorities m from) (greatest_share scopes fixpoints priorities m (suc from) n)
  shares_after from n = ap (greatest_share scopes fixpoints priorities m from) one_and ∙ shares_joined from 1 n ∙ cc_joined
    where
      one_and : suc n ≡ 1 + n
      one_and = omega arith

      first : share_of scopes fixpoints priorities m (from + 0) ≡ share_of scopes fixpoints priorities m from
      first = ap (share_of scopes fixpoints priorities m) (omega arith)

      next : greatest_share scopes fixpoints priorities m (from + 1) n ≡ greatest_share scopes fixpoints priorities m (suc from) n
      next = ap (λ (k : ℕ). greatest_share scopes fixpoints priorities m k n) (omega arith)

      cc_joined : max (max 0 (share_of scopes fixpoints priorities m (from + 0))) (greatest_share scopes fixpoints priorities m (from + 1) n) ≡
          max (share_of scopes fixpoints priorities m from) (greatest_share scopes fixpoints priorities m (suc from) n)
      cc_joined = rw (first, next) (omega arith)

  -- a symbol that is no variable adds nothing
  nothing_shared : (k : ℕ) (s : Symbol) → AreFixpoints symbols scopes fixpoints → k < length symbols → get_or symbols k True ≡ s → fixpoint_of scopes (get_or scopes k None) s ≡ None →
      share_of scopes fixpoints priorities m k ≡ 0
  nothing_shared k s are inside is none = ap (if_names m (crossed scopes priorities m k (get_or scopes k None))) (are.each k inside ∙ ap (fixpoint_of scopes (get_or scopes k None)) is ∙ none)

  pub shares_of_leaf : (k n : ℕ) → share_of scopes fixpoints priorities m k ≡ 0 → n ≡ 1 → greatest_share scopes fixpoints priorities m k n ≡ 0
  shares_of_leaf k n none is = ap (greatest_share scopes fixpoints priorities m k) is ∙ shares_after k 0 ∙ rw none refl

  pub shares_of_one : (k a n : ℕ) → share_of scopes fixpoints priorities m k ≡ 0 → n ≡ suc a → greatest_share scopes fixpoints priorities m k n ≡ max 0 (greatest_share scopes fixpoints priorities m (suc k) a)
  shares_of_one k a n none is = ap (greatest_share scopes fixpoints priorities m k) is ∙ shares_after k a ∙ ap (λ (x : ℕ). max x (greatest_share scopes fixpoints priorities m (suc k) a)) none

  pub shares_of_two : (k a b n : ℕ) → share_of scopes fixpoints priorities m k ≡ 0 → n ≡ suc (a + b) →
      greatest_share scopes fixpoints priorities m k n ≡ max 0 (max (greatest_share scopes fixpoints priorities m (suc k) a) (greatest_share scopes fixpoints priorities m (suc k + a) b))
  shares_of_two k a b n none is = shares_of_one k (a + b) n none is ∙ ap (max 0) (shares_joined (suc k) a b)

module _ (actions : List ActionFormula) (symbols : List Symbol) (sizes : List ℕ) (scopes fixpoints : List (Option ℕ)) (priorities : List ℕ) (are : AreFixpoints symbols scopes fixpoints) where
  none_here : (c : List ℕ) (k : ℕ) (s : Symbol) (m : ℕ) → IsHere symbols scopes c k s → fixpoint_of scopes (get_or scopes k None) s ≡ None → share_of scopes fixpoints priorities m k ≡ 0
  none_here c k s m here none = nothing_shared symbols scopes fixpoints priorities m k s are here.inside here.symbol none

  -- what the parts of a normal form add to the priority of a fixpoint round it
  abbrev Adds : List ℕ → ℕ → ℕ → NormalForm → Type 0
  Adds c k d f = greatest_share scopes fixpoints priorities (get_or c d 0) k (get_or sizes k 0) ≡ max (inner_priority d (with_priorities f)) (cond (is_free d (with_priorities f)) (greatest_of priorities d c) 0)

  -- a variable
  variable_adds : (i : ℕ) (c : List ℕ) (k d : ℕ) → IsHere symbols scopes c k (Variable i) → get_or sizes k 0 ≡ 1 → i < length c → d < length c → Adds c k d (variable i)
  variable_adds i c k d here size bound within = ap (greatest_share scopes fixpoints priorities (get_or c d 0) k) size ∙ shares_after symbols scopes fixpoints priorities (get_or c d 0) k 0 ∙ decide (cases_eq i d)
    where
      named : get_or fixpoints k None ≡ Some (get_or c i 0)
      named = are.each k here.inside ∙ ap (fixpoint_of scopes (get_or scopes k None)) here.symbol ∙ chain_walked symbols scopes c k (get_or scopes k None) i here.chain bound

      decide : (i ≡ d) ⊎ (i ≡ d → ⊥) → max (share_of scopes fixpoints priorities (get_or c d 0) k) 0 ≡ max 0 (cond (eqb i d) (greatest_of priorities d c) 0)
      decide (inl same) = rw (
        named,
        eq-eqb i d same,
        eq-eqb (get_or c i 0) (get_or c d 0) (ap (λ (n : ℕ). get_or c n 0) same),
        chain_crossed symbols scopes priorities c k (get_or scopes k None) d k here.chain within (omega (arith, chain_short symbols scopes c k (get_or scopes k None) here.chain)),
      ) (omega arith)
      decide (inr apart) = rw (named, ne_eqb i d apart, ne_eqb (get_or c i 0) (get_or c d 0) (λ e. apart (chain_apart symbols scopes c k (get_or scopes k None) i d here.chain bound within e))) refl

  adds : (f : NormalForm) (c : List ℕ) (k d : ℕ) → IsPlaced actions symbols sizes scopes c k f → IsRanked sizes priorities k f → IsClosedBelow (length c) f → d < length c → Adds c k d f
  adds met c k d at ranked closed l = shares_of_leaf symbols scopes fixpoints priorities (get_or c d 0) k (get_or sizes k 0) (none_here c k True (get_or c d 0) at.0 refl) at.1
  adds unmet c k d at ranked closed l = shares_of_leaf symbols scopes fixpoints priorities (get_or c d 0) k (get_or sizes k 0) (none_here c k False (get_or c d 0) at.0 refl) at.1
  adds (variable i) c k d at ranked closed l = variable_adds i c k d at.0 at.1 closed l
  adds (both f g) c k d at ranked closed l =
      shares_of_two symbols scopes fixpoints priorities (get_or c d 0) k (get_or sizes (suc k) 0) (get_or sizes (suc k + get_or sizes (suc k) 0) 0) (get_or sizes k 0) (none_here c k And (get_or c d 0) at.0 refl) at.1 ∙
      rw (adds f c (suc k) d at.2 ranked.0 closed.0 l, adds g c (suc k + get_or sizes (suc k) 0) d at.3 ranked.1 closed.1 l)
      (greatest_of_two (is_free d (with_priorities f)) (is_free d (with_priorities g)) (inner_priority d (with_priorities f)) (inner_priority d (with_priorities g)) (greatest_of priorities d c))
  adds (either f g) c k d at ranked closed l =
      shares_of_two symbols scopes fixpoints priorities (get_or c d 0) k (get_or sizes (suc k) 0) (get_or sizes (suc k + get_or sizes (suc k) 0) 0) (get_or sizes k 0) (none_here c k Or (get_or c d 0) at.0 refl) at.1 ∙
      rw (adds f c (suc k) d at.2 ranked.0 closed.0 l, adds g c (suc k + get_or sizes (suc k) 0) d at.3 ranked.1 closed.1 l)
      (greatest_of_two (is_free d (with_priorities f)) (is_free d (with_priorities g)) (inner_priority d (with_priorities f)) (inner_priority d (with_priorities g)) (greatest_of priorities d c))
  adds (some_step x f) c k d at ranked closed l =
      shares_of_one symbols scopes fixpoints priorities (get_or c d 0) k (get_or sizes (suc k) 0) (get_or sizes k 0) (none_here c k (SomeStep at.0) (get_or c d 0) at.1 refl) at.2 ∙
      rw (adds f c (suc k) d at.3 ranked closed l) (omega arith)
  adds (every_step x f) c k d at ranked closed l =
      shares_of_one symbols scopes fixpoints priorities (get_or c d 0) k (get_or sizes (suc k) 0) (get_or sizes k 0) (none_here c k (EveryStep at.0) (get_or c d 0) at.1 refl) at.2 ∙
      rw (adds f c (suc k) d at.3 ranked closed l) (omega arith)
  adds (fixpoint kind p f) c k d at ranked closed l =
      shares_of_one symbols scopes fixpoints priorities (get_or c d 0) k (get_or sizes (suc k) 0) (get_or sizes k 0) (none_here c k (Fixpoint at.0) (get_or c d 0) at.1 refl) at.2 ∙
      ap (max 0) (adds f (k ∷ c) (suc k) (suc d) at.3 ranked.1 closed (omega arith)) ∙
      greatest_inside (is_free (suc d) (with_priorities f)) (get_or priorities k 0) (inner_priority (suc d) (with_priorities f)) (greatest_of priorities d c) ∙
      ap (λ (q : ℕ). max (max (cond (is_free (suc d) (with_priorities f)) q 0) (inner_priority (suc d) (with_priorities f))) (cond (is_free (suc d) (with_priorities f)) (greatest_of priorities d c) 0)) ranked.0

  pub ranked_at : (f : NormalForm) (c : List ℕ) (k : ℕ) → ArePriorities symbols sizes scopes fixpoints priorities 0 → IsPlaced actions symbols sizes scopes c k f → IsClosedBelow (length c) f → IsRanked sizes priorities k f
  ranked_at met c k given at closed = tt
  ranked_at unmet c k given at closed = tt
  ranked_at (variable i) c k given at closed = tt
  ranked_at (both f g) c k given at closed = (ranked_at f c (suc k) given at.2 closed.0, ranked_at g c (suc k + get_or sizes (suc k) 0) given at.3 closed.1)
  ranked_at (either f g) c k given at closed = (ranked_at f c (suc k) given at.2 closed.0, ranked_at g c (suc k + get_or sizes (suc k) 0) given at.3 closed.1)
  ranked_at (some_step x f) c k given at closed = ranked_at f c (suc k) given at.3 closed
  ranked_at (every_step x f) c k given at closed = ranked_at f c (suc k) given at.3 closed
  ranked_at (fixpoint kind p f) c k given at closed = here (ranked_at f (k ∷ c) (suc k) given at.3 closed)
    where
      here : IsRanked sizes priorities (suc k) f → IsRanked sizes priorities k (fixpoint kind p f)
      here inside = (
        given.each k (omega arith) at.1.inside ∙ ap (priority_of sizes scopes fixpoints priorities k) at.1.symbol ∙
            ap (λ (n : ℕ). next_priority (kind_of at.0) n) (adds f (k ∷ c) (suc k) 0 at.3 inside closed (omega arith) ∙ rw (no_greatest (is_free 0 (with_priorities f))) (omega arith)) ∙
            ap (λ (kind_here : Kind). next_priority kind_here (inner_priority 0 (with_priorities f))) at.4,
        inside,
      )

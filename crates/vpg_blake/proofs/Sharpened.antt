-- What is returned in place of a guard is sharp, where it is short.
use Rattle.std.proofs.Common.{◌≡◌, ℕ, ◌<◌, ◌≤◌, ◌⊎◌, inl, inr, Bool, List, length, sym, subst, ◌∙◌, arith}
use Rattle.std.specs.Prelude.{Result, Ok, Err, IfOk}
use Rattle.std.proofs.lemmas.Bool.{cases_lt}
use Rattle.vpg_guards.specs.declared.tri.Tri.{Tri}
use Rattle.vpg_guards.specs.declared.guard.Guard.{Guard}
use Rattle.vpg_guards.specs.Formula.{Formula, truth}
use Rattle.vpg_guards.specs.Known.{kleene}
use Rattle.vpg_guards.specs.View.{formula_of}
use Rattle.vpg_blake.specs.Blake.{named_below, prime_implicants, IsShort, IsCertain, tri_of}
use Rattle.vpg_blake.specs.Sharp.{IsSharp}

module _ (n : ℕ) (g : Formula) where
  -- in Blake's form, or as it was where that is too long
  made_sharp : (made : Formula) → (IsShort n g → (known : List Tri) (b : Bool) → IsCertain known g b → kleene known made ≡ tri_of b) → ((IsShort n g → ⊥) → made ≡ g)
      → ((set : List Bool) → truth set made ≡ truth set g) → IsShort n made → IsSharp made
  made_sharp made sharp kept same short known b certain = decide (cases_lt 6 (length (named_below n g))) (cases_lt 64 (length (prime_implicants n g)))
    where
      long : (IsShort n g → ⊥) → ⊥
      long h = h (subst (IsShort n) (kept h) short)

      decide : (6 < length (named_below n g)) ⊎ (length (named_below n g) ≤ 6) → (64 < length (prime_implicants n g)) ⊎ (length (prime_implicants n g) ≤ 64) → kleene known made ≡ tri_of b
      decide (inl many) q = absurd (long (λ h. omega (arith, many, h.few_features)))
      decide (inr few) (inl many) = absurd (long (λ h. omega (arith, many, h.few_implicants)))
      decide (inr few) (inr less) = sharp (record { few_features = few; few_implicants = less }) known b (λ set done. sym (same set) ∙ certain set done)

  pub result_sharp : {E : Type 0} (r : Result Guard E) → (IsShort n g → IfOk r (λ made. (known : List Tri) (b : Bool) → IsCertain known g b → kleene known (formula_of made) ≡ tri_of b))
      → ((IsShort n g → ⊥) → IfOk r (λ made. formula_of made ≡ g)) → IfOk r (λ made. (set : List Bool) → truth set (formula_of made) ≡ truth set g)
      → IfOk r (λ made. IsShort n (formula_of made) → IsSharp (formula_of made))
  result_sharp (Ok x) sharp kept same = made_sharp (formula_of x) sharp kept same
  result_sharp (Err e) sharp kept same = tt

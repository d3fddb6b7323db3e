-- Kept harvests by their numbers.
use Rattle.std.proofs.Common.{◌≡◌, ℕ, zero, suc, ◌+◌, ◌-◌, ◌<◌, ◌≤◌, List, [], ◌∷◌, length, Option, Some, None, refl, sym, ap, subst, arith}
use Rattle.std.specs.Prelude.{option_map, map, slice_index_or, slice_set}
use Rattle.std.proofs.lemmas.List.{get_or_read}
use Rattle.vpg_engine.specs.Held.{harvest_kept}

module _ {H : Type 0} where
  pub kept_at : (harvests : List (Option H)) (place number : ℕ) (h : Option H) → number ≡ place + 1 → place < length harvests → h ≡ slice_index_or harvests place h → h ≡ harvest_kept harvests number
  kept_at harvests place number h is within here =
      let next : suc place ≡ number = omega (arith, is) in
      subst (λ (n : ℕ). h ≡ harvest_kept harvests n) next (get_or_read harvests place h within here None)

  -- a number under which a harvest is kept is a number from 1
  pub number_of_kept : (harvests : List (Option H)) (number : ℕ) (h : H) → harvest_kept harvests number ≡ Some h → (0 < number) × (number ≤ length harvests)
  number_of_kept harvests zero h is = absurd (cc is)
  number_of_kept [] (suc k) h is = absurd (cc is)
  number_of_kept (x ∷ harvests) (suc zero) h is = (omega arith, omega arith)
  number_of_kept (x ∷ harvests) (suc (suc k)) h is = let rest = number_of_kept harvests (suc k) h is in (omega arith, omega (arith, rest.1))

  -- taken out and put back
  pub put_back : (harvests : List (Option H)) (number : ℕ) (h : H) → harvest_kept harvests number ≡ Some h → slice_set (slice_set harvests (number - 1) None) (number - 1) (Some h) ≡ harvests
  put_back harvests zero h is = absurd (cc is)
  put_back harvests (suc k) h is = let e : suc k - 1 ≡ k = omega arith in rw e (go harvests k is)
    where
      go : (harvests : List (Option H)) (k : ℕ) → harvest_kept harvests (suc k) ≡ Some h → slice_set (slice_set harvests k None) k (Some h) ≡ harvests
      go [] k is = refl
      go (x ∷ harvests) zero is = ap (λ (y : Option H). y ∷ harvests) (sym is)
      go (x ∷ harvests) (suc k) is = ap (λ (ys : List (Option H)). x ∷ ys) (go harvests k is)

module _ {H V : Type 0} (f : H → V) where
  -- as they are seen
  pub kept_seen : (harvests : List (Option H)) (number : ℕ) → harvest_kept (map (λ h. option_map f h) harvests) number ≡ option_map f (harvest_kept harvests number)
  kept_seen harvests zero = refl
  kept_seen [] (suc k) = refl
  kept_seen (h ∷ harvests) (suc zero) = refl
  kept_seen (h ∷ harvests) (suc (suc k)) = kept_seen harvests (suc k)

  pub gone_seen : (harvests : List (Option H)) (k : ℕ) → map (λ h. option_map f h) (slice_set harvests k None) ≡ slice_set (map (λ h. option_map f h) harvests) k None
  gone_seen [] k = refl
  gone_seen (h ∷ harvests) zero = refl
  gone_seen (h ∷ harvests) (suc k) = ap (λ (xs : List (Option V)). option_map f h ∷ xs) (gone_seen harvests k)

-- Facts that are equivalent, and tests of them.
use Rattle.std.proofs.Common.{◌≡◌, ℕ, ◌<◌, ◌⊎◌, ◌↔◌, inl, inr, Bool, true, false}
use Rattle.std.proofs.lemmas.Bool.{cases_Bool}
use Rattle.vpg_requirement.specs.Fixpoints.{Kind, least, greatest, StateSet, HoldsAtFixpoint}
use Rattle.vpg_requirement.proofs.Positive.{Tests}

pub iff_refl : {A : Type 0} → A ↔ A
iff_refl = (λ a. a, λ a. a)

pub iff_and : {A B C D : Type 0} → A ↔ B → C ↔ D → (A × C) ↔ (B × D)
iff_and h k = (λ p. (h.0 p.0, k.0 p.1), λ p. (h.1 p.0, k.1 p.1))

pub iff_or : {A B C D : Type 0} → A ↔ B → C ↔ D → (A ⊎ C) ↔ (B ⊎ D)
iff_or {A} {B} {C} {D} h k = (there, back)
  where
    there : A ⊎ C → B ⊎ D
    there (inl a) = inl (h.0 a)
    there (inr c) = inr (k.0 c)

    back : B ⊎ D → A ⊎ C
    back (inl b) = inl (h.1 b)
    back (inr d) = inr (k.1 d)

pub iff_implies : {A B C D : Type 0} → A ↔ B → C ↔ D → (A → C) ↔ (B → D)
iff_implies h k = (λ f b. k.0 (f (h.1 b)), λ f a. k.1 (f (h.0 a)))

pub iff_not : {A B : Type 0} → A ↔ B → (A → ⊥) ↔ (B → ⊥)
iff_not h = (λ f b. f (h.1 b), λ f a. f (h.0 a))

not_both : (b : Bool) → b ≡ true → b ≡ false → ⊥
not_both b t f = cc

pub tests_iff : (b : Bool) (P Q : Type 0) → P ↔ Q → Tests b P → Tests b Q
tests_iff b P Q h k = record { yes_then = λ e. h.0 (k.yes_then e); no_then = λ e q. k.no_then e (h.1 q) }

pub tests_itself : (b : Bool) → Tests b (b ≡ true)
tests_itself b = record { yes_then = λ e. e; no_then = λ e t. not_both b t e }

pub holds_by : (b : Bool) (P : Type 0) → Tests b P → P → b ≡ true
holds_by b P k p = of (cases_Bool b)
  where
    of : (b ≡ true) ⊎ (b ≡ false) → b ≡ true
    of (inl t) = t
    of (inr f) = absurd (k.no_then f p)

-- fixpoints of bodies that are equivalent
pub fixpoint_iff : (kind : Kind) (n : ℕ) (F G : StateSet → ℕ → Type 0) → ((set : StateSet) (t : ℕ) → t < n → F set t ↔ G set t) → (s : ℕ) → HoldsAtFixpoint kind n F s ↔ HoldsAtFixpoint kind n G s
fixpoint_iff least n F G h s = (λ f set closed. f set (λ t l b. closed t l ((h set t l).0 b)), λ f set closed. f set (λ t l b. closed t l ((h set t l).1 b)))
fixpoint_iff greatest n F G h s = (λ p. (p.0, λ t l e. (h p.0 t l).0 (p.1 t l e), p.2), λ p. (p.0, λ t l e. (h p.0 t l).1 (p.1 t l e), p.2))

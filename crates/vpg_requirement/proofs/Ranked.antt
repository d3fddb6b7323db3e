-- Ranks as the game needs them, which change no meaning.
use Rattle.std.proofs.Common.{◌≡◌, ℕ, zero, suc, ◌<◌, ◌≤◌, ◌%◌, ◌⊎◌, ◌↔◌, inl, inr, max, true, false, cond, eqb, List, [], ◌∷◌, length, get_or, refl, arith}
use Rattle.std.proofs.lemmas.Bool.{cases_Bool, or_left, or_right, eq-eqb, eqb-true, eqb-false}
use Rattle.vpg_requirement.specs.Systems.{PlainSystem}
use Rattle.vpg_requirement.specs.Fixpoints.{Kind, least, greatest, StateSet}
use Rattle.vpg_requirement.specs.NormalForms.{NormalForm, met, unmet, both, either, some_step, every_step, fixpoint, variable, HasParity, HasPriorities, Satisfies}
use Rattle.vpg_requirement.specs.Priorities.{is_free, inner_priority, next_priority, with_priorities, IsClosedBelow}
use Rattle.vpg_requirement.specs.Laws.{PrioritiesAreRight}

next_above : (kind : Kind) (n : ℕ) → n ≤ next_priority kind n
next_above least n = decide (cases_Bool (eqb (n % 2) 1))
  where
    decide : (eqb (n % 2) 1 ≡ true) ⊎ (eqb (n % 2) 1 ≡ false) → n ≤ next_priority least n
    decide (inl t) = rw t (omega arith)
    decide (inr f) = rw f (omega arith)
next_above greatest n = decide (cases_Bool (eqb (n % 2) 0))
  where
    decide : (eqb (n % 2) 0 ≡ true) ⊎ (eqb (n % 2) 0 ≡ false) → n ≤ next_priority greatest n
    decide (inl t) = rw t (omega arith)
    decide (inr f) = rw f (omega arith)

next_parity : (kind : Kind) (n : ℕ) → HasParity kind (next_priority kind n)
next_parity least n = decide (cases_Bool (eqb (n % 2) 1))
  where
    decide : (eqb (n % 2) 1 ≡ true) ⊎ (eqb (n % 2) 1 ≡ false) → HasParity least (next_priority least n)
    decide (inl t) = rw t (eqb-true (n % 2) 1 t)
    decide (inr f) = rw f (odd (eqb-false (n % 2) 1 f))
      where
        odd : (n % 2 ≡ 1 → ⊥) → suc n % 2 ≡ 1
        odd h = omega arith
next_parity greatest n = decide (cases_Bool (eqb (n % 2) 0))
  where
    decide : (eqb (n % 2) 0 ≡ true) ⊎ (eqb (n % 2) 0 ≡ false) → HasParity greatest (next_priority greatest n)
    decide (inl t) = rw t (eqb-true (n % 2) 0 t)
    decide (inr f) = rw f (even (eqb-false (n % 2) 0 f))
      where
        even : (n % 2 ≡ 0 → ⊥) → suc n % 2 ≡ 0
        even h = omega arith

-- what the priorities of the fixpoints around a part owe to it
record AreAbove (ps : List ℕ) (f : NormalForm) : Type 0 where
  inner : (i : ℕ) → i < length ps → inner_priority i f ≤ get_or ps i 0
  order : (i : ℕ) → i < length ps → is_free i f ≡ true → (j : ℕ) → j < i → get_or ps j 0 ≤ get_or ps i 0

left_above : (ps : List ℕ) (f g : NormalForm) → AreAbove ps (both f g) → AreAbove ps f
left_above ps f g h = record { inner = λ i l. omega (arith, h.inner i l); order = λ i l e. h.order i l (or_left (is_free i f) (is_free i g) e) }

right_above : (ps : List ℕ) (f g : NormalForm) → AreAbove ps (both f g) → AreAbove ps g
right_above ps f g h = record { inner = λ i l. omega (arith, h.inner i l); order = λ i l e. h.order i l (or_right (is_free i f) (is_free i g) e) }

inside_above : (ps : List ℕ) (kind : Kind) (p : ℕ) (f : NormalForm) → inner_priority 0 f ≤ p → AreAbove ps (fixpoint kind p f) → AreAbove (p ∷ ps) f
inside_above ps kind p f high h = record { inner = inner; order = order }
  where
    inner : (i : ℕ) → i < suc (length ps) → inner_priority i f ≤ get_or (p ∷ ps) i 0
    inner zero l = high
    inner (suc i) l = omega (arith, h.inner i (omega arith))

    own : (i : ℕ) → i < length ps → is_free (suc i) f ≡ true → p ≤ get_or ps i 0
    own i l e = below (h.inner i l)
      where
        below : max (cond (is_free (suc i) f) p 0) (inner_priority (suc i) f) ≤ get_or ps i 0 → p ≤ get_or ps i 0
        below k = omega (arith, rw e at k)

    order : (i : ℕ) → i < suc (length ps) → is_free i f ≡ true → (j : ℕ) → j < i → get_or (p ∷ ps) j 0 ≤ get_or (p ∷ ps) i 0
    order zero l e j k = absurd (omega arith)
    order (suc i) l e zero k = own i (omega arith) e
    order (suc i) l e (suc j) k = h.order i (omega arith) e j (omega arith)

ranks_right : (f : NormalForm) (ps : List ℕ) → IsClosedBelow (length ps) f → AreAbove ps (with_priorities f) → HasPriorities 0 ps (with_priorities f)
ranks_right met ps c h = tt
ranks_right unmet ps c h = tt
ranks_right (both f g) ps c h = (ranks_right f ps c.0 (left_above ps (with_priorities f) (with_priorities g) h), ranks_right g ps c.1 (right_above ps (with_priorities f) (with_priorities g) h))
ranks_right (either f g) ps c h = (ranks_right f ps c.0 (left_above ps (with_priorities f) (with_priorities g) (record { inner = h.inner; order = h.order })), ranks_right g ps c.1 (right_above ps (with_priorities f) (with_priorities g) (record { inner = h.inner; order = h.order })))
ranks_right (some_step x f) ps c h = ranks_right f ps c (record { inner = h.inner; order = h.order })
ranks_right (every_step x f) ps c h = ranks_right f ps c (record { inner = h.inner; order = h.order })
ranks_right (fixpoint kind p f) ps c h = (
  next_parity kind (inner_priority 0 (with_priorities f)),
  omega arith,
  ranks_right f (next_priority kind (inner_priority 0 (with_priorities f)) ∷ ps) c (inside_above ps kind (next_priority kind (inner_priority 0 (with_priorities f))) (with_priorities f) (next_above kind (inner_priority 0 (with_priorities f))) h),
)
ranks_right (variable i) ps c h = (c, h.order i c (eq-eqb i i refl))

-- ranks change no meaning
either_same : {A B C D : Type 0} → A ↔ B → C ↔ D → (A ⊎ C) ↔ (B ⊎ D)
either_same {A} {B} {C} {D} h k = (forth, back)
  where
    forth : A ⊎ C → B ⊎ D
    forth (inl a) = inl (h.0 a)
    forth (inr c) = inr (k.0 c)

    back : B ⊎ D → A ⊎ C
    back (inl b) = inl (h.1 b)
    back (inr d) = inr (k.1 d)

same_meaning : (system : PlainSystem) (f : NormalForm) (sets : List StateSet) (s : ℕ) → Satisfies system sets (with_priorities f) s ↔ Satisfies system sets f s
same_meaning system met sets s = (λ h. h, λ h. h)
same_meaning system unmet sets s = (λ h. h, λ h. h)
same_meaning system (both f g) sets s = (λ h. ((same_meaning system f sets s).0 h.0, (same_meaning system g sets s).0 h.1), λ h. ((same_meaning system f sets s).1 h.0, (same_meaning system g sets s).1 h.1))
same_meaning system (either f g) sets s = either_same (same_meaning system f sets s) (same_meaning system g sets s)
same_meaning system (some_step x f) sets s = (λ h. (h.0, h.1, (same_meaning system f sets h.0).0 h.2), λ h. (h.0, h.1, (same_meaning system f sets h.0).1 h.2))
same_meaning system (every_step x f) sets s = (λ h t c. (same_meaning system f sets t).0 (h t c), λ h t c. (same_meaning system f sets t).1 (h t c))
same_meaning system (fixpoint least p f) sets s = (
  λ h set closed. h set (λ t l k. closed t l ((same_meaning system f (set ∷ sets) t).0 k)),
  λ h set closed. h set (λ t l k. closed t l ((same_meaning system f (set ∷ sets) t).1 k)),
)
same_meaning system (fixpoint greatest p f) sets s = (
  λ h. (h.0, λ t l k. (same_meaning system f (h.0 ∷ sets) t).0 (h.1 t l k), h.2),
  λ h. (h.0, λ t l k. (same_meaning system f (h.0 ∷ sets) t).1 (h.1 t l k), h.2),
)
same_meaning system (variable i) sets s = (λ h. h, λ h. h)

pub priorities_are_right : PrioritiesAreRight
priorities_are_right form closed = (
  ranks_right form [] closed (record { inner = λ i l. absurd (omega arith); order = λ i l e j k. absurd (omega arith) }),
  λ system s. same_meaning system form [] s,
)

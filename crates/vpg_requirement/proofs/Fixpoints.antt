-- Evaluation grows with the sets for its variables; iteration comes to rest; so evaluation has the meaning.
use Rattle.std.proofs.Common.{◌≡◌, ℕ, zero, suc, ◌+◌, ◌<◌, ◌≤◌, ◌⊎◌, inl, inr, true, false, ◌||◌, cond, List, ◌∷◌, refl, subst, Contains, arith}
use Rattle.std.proofs.lemmas.Bool.{cases_Bool, and_parts, and_from, or_cases, or_left, or_right, cases_eq}
use Rattle.vpg_requirement.specs.Systems.{PlainSystem, IsClosedSystem, successors}
use Rattle.vpg_requirement.specs.Fixpoints.{least, greatest, StateSet, nothing, set_of}
use Rattle.vpg_requirement.specs.NormalForms.{NormalForm, met, unmet, both, either, some_step, every_step, fixpoint, variable, Satisfies}
use Rattle.vpg_requirement.proofs.Evaluation.{everything, any_in, all_in, any_gives, any_from, all_gives, all_from, iterate, start_of, holds, successor_inside}

-- ---- sets of states, compared on the states

abbrev pub IsWithin : ℕ → StateSet → StateSet → Type 0
IsWithin n A B = (s : ℕ) → s < n → A s ≡ true → B s ≡ true

abbrev pub AreWithin : ℕ → List StateSet → List StateSet → Type 0
AreWithin n As Bs = (i : ℕ) → IsWithin n (set_of As i) (set_of Bs i)

pub within_more : (n : ℕ) (A B : StateSet) (As Bs : List StateSet) → IsWithin n A B → AreWithin n As Bs → AreWithin n (A ∷ As) (B ∷ Bs)
within_more n A B As Bs h hs zero = h
within_more n A B As Bs h hs (suc i) = hs i

-- a body that grows with its set
abbrev pub Grows : ℕ → (StateSet → StateSet) → Type 0
Grows n F = (A B : StateSet) → IsWithin n A B → IsWithin n (F A) (F B)

iterates_within : (n : ℕ) (F G : StateSet → StateSet) (A B : StateSet) → ((X Y : StateSet) → IsWithin n X Y → IsWithin n (F X) (G Y)) → IsWithin n A B → (k : ℕ) → IsWithin n (iterate k F A) (iterate k G B)
iterates_within n F G A B h base zero = base
iterates_within n F G A B h base (suc k) = h (iterate k F A) (iterate k G B) (iterates_within n F G A B h base k)

pub holds_grows : (system : PlainSystem) → IsClosedSystem system → (f : NormalForm) (As Bs : List StateSet) → AreWithin system.states As Bs → IsWithin system.states (holds system As f) (holds system Bs f)
holds_grows system closed met As Bs h s l e = refl
holds_grows system closed unmet As Bs h s l e = e
holds_grows system closed (both f g) As Bs h s l e = and_from (holds system Bs f s) (holds system Bs g s)
    (holds_grows system closed f As Bs h s l (and_parts (holds system As f s) (holds system As g s) e).0)
    (holds_grows system closed g As Bs h s l (and_parts (holds system As f s) (holds system As g s) e).1)
holds_grows system closed (either f g) As Bs h s l e = split (or_cases (holds system As f s) (holds system As g s) e) (holds_grows system closed f As Bs h s l) (holds_grows system closed g As Bs h s l)
  where
    split : (holds system As f s ≡ true) ⊎ (holds system As g s ≡ true) → (holds system As f s ≡ true → holds system Bs f s ≡ true) → (holds system As g s ≡ true → holds system Bs g s ≡ true) → (holds system Bs f s || holds system Bs g s) ≡ true
    split (inl a) left right = or_left (holds system Bs f s) (holds system Bs g s) (left a)
    split (inr a) left right = or_right (holds system Bs f s) (holds system Bs g s) (right a)
holds_grows system closed (some_step x f) As Bs h s l e = later (any_gives (holds system As f) (successors system x s) e) (holds_grows system closed f As Bs h)
  where
    later : (t : ℕ) × Contains (successors system x s) t × (holds system As f t ≡ true) → IsWithin system.states (holds system As f) (holds system Bs f) → any_in (holds system Bs f) (successors system x s) ≡ true
    later t grown = any_from (holds system Bs f) (successors system x s) t.0 t.1 (grown t.0 (successor_inside system closed x s t.0 t.1) t.2)
holds_grows system closed (every_step x f) As Bs h s l e = later (holds_grows system closed f As Bs h)
  where
    later : IsWithin system.states (holds system As f) (holds system Bs f) → all_in (holds system Bs f) (successors system x s) ≡ true
    later grown = all_from (holds system Bs f) (successors system x s) (λ t c. grown t (successor_inside system closed x s t c) (all_gives (holds system As f) (successors system x s) e t c))
holds_grows system closed (fixpoint kind p f) As Bs h s l e =
    iterates_within system.states (λ set. holds system (set ∷ As) f) (λ set. holds system (set ∷ Bs) f) (start_of kind) (start_of kind)
    (λ X Y k. holds_grows system closed f (X ∷ As) (Y ∷ Bs) (within_more system.states X Y As Bs k h)) (λ t k d. d) (suc system.states) s l e
holds_grows system closed (variable i) As Bs h s l e = h i s l e

pub body_grows : (system : PlainSystem) → IsClosedSystem system → (sets : List StateSet) (f : NormalForm) → Grows system.states (λ set. holds system (set ∷ sets) f)
body_grows system closed sets f A B h = holds_grows system closed f (A ∷ sets) (B ∷ sets) (within_more system.states A B sets sets h (λ i s l e. e))

-- ---- how many states are in a set

abbrev pub count_in : ℕ → StateSet → ℕ
count_in zero A = 0
count_in (suc n) A = count_in n A + cond (A n) 1 0

count_most : (n : ℕ) (A : StateSet) → count_in n A ≤ n
count_most zero A = omega arith
count_most (suc n) A = decide (cases_Bool (A n)) (count_most n A)
  where
    decide : (A n ≡ true) ⊎ (A n ≡ false) → count_in n A ≤ n → count_in n A + cond (A n) 1 0 ≤ suc n
    decide (inl e) h = rw e (omega arith)
    decide (inr e) h = rw e (omega arith)

count_grows : (n : ℕ) (A B : StateSet) → IsWithin n A B → count_in n A ≤ count_in n B
count_grows zero A B h = omega arith
count_grows (suc n) A B h = decide (cases_Bool (A n)) (cases_Bool (B n)) (count_grows n A B (λ s l. h s (omega arith)))
  where
    decide : (A n ≡ true) ⊎ (A n ≡ false) → (B n ≡ true) ⊎ (B n ≡ false) → count_in n A ≤ count_in n B → count_in n A + cond (A n) 1 0 ≤ count_in n B + cond (B n) 1 0
    decide (inl a) (inl b) k = rw (a, b) (omega arith)
    decide (inl a) (inr b) k = absurd (clash (h n (omega arith) a))
      where
        clash : B n ≡ true → ⊥
        clash t = cc (t, b)
    decide (inr a) d k = rw a (omega arith)

-- a set within another is the same, or has fewer states
same_or_fewer : (n : ℕ) (A B : StateSet) → IsWithin n A B → IsWithin n B A ⊎ (count_in n A < count_in n B)
same_or_fewer zero A B h = inl (λ s l. absurd (omega arith))
same_or_fewer (suc n) A B h = decide (cases_Bool (A n)) (cases_Bool (B n)) (same_or_fewer n A B (λ s l. h s (omega arith))) (count_grows n A B (λ s l. h s (omega arith)))
  where
    last : (A n ≡ true) ⊎ (B n ≡ false) → IsWithin n B A → IsWithin (suc n) B A
    last d k s l e = at_last (cases_eq s n) d
      where
        at_last : (s ≡ n) ⊎ (s ≡ n → ⊥) → (A n ≡ true) ⊎ (B n ≡ false) → A s ≡ true
        at_last (inl same) (inl a) = rw same a
        at_last (inl same) (inr b) = absurd (clash (subst (λ u. B u ≡ true) same e))
          where
            clash : B n ≡ true → ⊥
            clash t = cc (t, b)
        at_last (inr other) d = k s (omega arith) e

    decide : (A n ≡ true) ⊎ (A n ≡ false) → (B n ≡ true) ⊎ (B n ≡ false) → IsWithin n B A ⊎ (count_in n A < count_in n B) → count_in n A ≤ count_in n B → IsWithin (suc n) B A ⊎ (count_in n A + cond (A n) 1 0 < count_in n B + cond (B n) 1 0)
    decide (inl a) b (inl k) c = inl (last (inl a) k)
    decide (inl a) (inl b) (inr k) c = inr (rw (a, b) (omega arith))
    decide (inl a) (inr b) (inr k) c = absurd (clash (h n (omega arith) a))
      where
        clash : B n ≡ true → ⊥
        clash t = cc (t, b)
    decide (inr a) (inl b) k c = inr (rw (a, b) (omega arith))
    decide (inr a) (inr b) (inl k) c = inl (last (inr b) k)
    decide (inr a) (inr b) (inr k) c = inr (rw (a, b) (omega arith))

-- ---- iteration comes to rest

module _ (n : ℕ) (F : StateSet → StateSet) (grows : Grows n F) where
  rises : (k : ℕ) → IsWithin n (iterate k F nothing) (iterate (suc k) F nothing)
  rises zero = λ s l e. absurd (clash e)
    where
      clash : false ≡ true → ⊥
      clash e = cc
  rises (suc k) = grows (iterate k F nothing) (iterate (suc k) F nothing) (rises k)

  falls : (k : ℕ) → IsWithin n (iterate (suc k) F everything) (iterate k F everything)
  falls zero = λ s l e. refl
  falls (suc k) = grows (iterate (suc k) F everything) (iterate k F everything) (falls k)

  rests_or_rises : (k : ℕ) → IsWithin n (iterate (suc k) F nothing) (iterate k F nothing) ⊎ (k ≤ count_in n (iterate k F nothing))
  rests_or_rises zero = inr (omega arith)
  rests_or_rises (suc k) = decide (rests_or_rises k) (same_or_fewer n (iterate k F nothing) (iterate (suc k) F nothing) (rises k))
    where
      decide : IsWithin n (iterate (suc k) F nothing) (iterate k F nothing) ⊎ (k ≤ count_in n (iterate k F nothing)) → IsWithin n (iterate (suc k) F nothing) (iterate k F nothing) ⊎ (count_in n (iterate k F nothing) < count_in n (iterate (suc k) F nothing)) →
          IsWithin n (iterate (suc (suc k)) F nothing) (iterate (suc k) F nothing) ⊎ (suc k ≤ count_in n (iterate (suc k) F nothing))
      decide (inl rest) d = inl (grows (iterate (suc k) F nothing) (iterate k F nothing) rest)
      decide (inr l) (inl rest) = inl (grows (iterate (suc k) F nothing) (iterate k F nothing) rest)
      decide (inr l) (inr more) = inr (omega arith)

  rests_or_falls : (k : ℕ) → IsWithin n (iterate k F everything) (iterate (suc k) F everything) ⊎ (k + count_in n (iterate k F everything) ≤ n)
  rests_or_falls zero = inr (omega (arith, count_most n everything))
  rests_or_falls (suc k) = decide (rests_or_falls k) (same_or_fewer n (iterate (suc k) F everything) (iterate k F everything) (falls k))
    where
      decide : IsWithin n (iterate k F everything) (iterate (suc k) F everything) ⊎ (k + count_in n (iterate k F everything) ≤ n) → IsWithin n (iterate k F everything) (iterate (suc k) F everything) ⊎ (count_in n (iterate (suc k) F everything) < count_in n (iterate k F everything)) →
          IsWithin n (iterate (suc k) F everything) (iterate (suc (suc k)) F everything) ⊎ (suc k + count_in n (iterate (suc k) F everything) ≤ n)
      decide (inl rest) d = inl (grows (iterate k F everything) (iterate (suc k) F everything) rest)
      decide (inr l) (inl rest) = inl (grows (iterate k F everything) (iterate (suc k) F everything) rest)
      decide (inr l) (inr fewer) = inr (omega arith)

  -- the least one is closed under the body
  pub least_closed : IsWithin n (F (iterate (suc n) F nothing)) (iterate (suc n) F nothing)
  least_closed = decide (rests_or_rises (suc n)) (count_most n (iterate (suc n) F nothing))
    where
      decide : IsWithin n (iterate (suc (suc n)) F nothing) (iterate (suc n) F nothing) ⊎ (suc n ≤ count_in n (iterate (suc n) F nothing)) → count_in n (iterate (suc n) F nothing) ≤ n → IsWithin n (F (iterate (suc n) F nothing)) (iterate (suc n) F nothing)
      decide (inl rest) c = rest
      decide (inr l) c = absurd (omega arith)

  -- and within every set that is
  pub least_within : (set : StateSet) → IsWithin n (F set) set → (k : ℕ) → IsWithin n (iterate k F nothing) set
  least_within set h zero s l e = absurd (clash e)
    where
      clash : false ≡ true → ⊥
      clash e = cc
  least_within set h (suc k) s l e = h s l (grows (iterate k F nothing) set (least_within set h k) s l e)

  -- the body supports the greatest one
  pub greatest_supported : IsWithin n (iterate (suc n) F everything) (F (iterate (suc n) F everything))
  greatest_supported = decide (rests_or_falls (suc n))
    where
      decide : IsWithin n (iterate (suc n) F everything) (iterate (suc (suc n)) F everything) ⊎ (suc n + count_in n (iterate (suc n) F everything) ≤ n) → IsWithin n (iterate (suc n) F everything) (F (iterate (suc n) F everything))
      decide (inl rest) = rest
      decide (inr l) = absurd (omega arith)

  -- and it has every set that the body supports
  pub greatest_above : (set : StateSet) → IsWithin n set (F set) → (k : ℕ) → IsWithin n set (iterate k F everything)
  greatest_above set h zero s l e = refl
  greatest_above set h (suc k) s l e = grows set (iterate k F everything) (greatest_above set h k) s l (h s l e)

-- ---- evaluation has the meaning

pub holds_means : (system : PlainSystem) → IsClosedSystem system → (f : NormalForm) (sets : List StateSet) (s : ℕ) → s < system.states → holds system sets f s ≡ true → Satisfies system sets f s
holds_means system closed met sets s l e = tt
holds_means system closed unmet sets s l e = cc
holds_means system closed (both f g) sets s l e =
    (holds_means system closed f sets s l (and_parts (holds system sets f s) (holds system sets g s) e).0, holds_means system closed g sets s l (and_parts (holds system sets f s) (holds system sets g s) e).1)
holds_means system closed (either f g) sets s l e = split (or_cases (holds system sets f s) (holds system sets g s) e) (holds_means system closed f sets s l) (holds_means system closed g sets s l)
  where
    split : (holds system sets f s ≡ true) ⊎ (holds system sets g s ≡ true) → (holds system sets f s ≡ true → Satisfies system sets f s) → (holds system sets g s ≡ true → Satisfies system sets g s) → Satisfies system sets f s ⊎ Satisfies system sets g s
    split (inl a) left right = inl (left a)
    split (inr a) left right = inr (right a)
holds_means system closed (some_step x f) sets s l e = later (any_gives (holds system sets f) (successors system x s) e) (holds_means system closed f sets)
  where
    later : (t : ℕ) × Contains (successors system x s) t × (holds system sets f t ≡ true) → ((t : ℕ) → t < system.states → holds system sets f t ≡ true → Satisfies system sets f t) → (t : ℕ) × Contains (successors system x s) t × Satisfies system sets f t
    later t means = (t.0, t.1, means t.0 (successor_inside system closed x s t.0 t.1) t.2)
holds_means system closed (every_step x f) sets s l e = λ t c. holds_means system closed f sets t (successor_inside system closed x s t c) (all_gives (holds system sets f) (successors system x s) e t c)
holds_means system closed (fixpoint least p f) sets s l e = λ set closed_set.
    least_within system.states (λ set. holds system (set ∷ sets) f) (body_grows system closed sets f) set
    (λ t k d. closed_set t k (holds_means system closed f (set ∷ sets) t k d)) (suc system.states) s l e
holds_means system closed (fixpoint greatest p f) sets s l e = (
  iterate (suc system.states) (λ set. holds system (set ∷ sets) f) everything,
  λ t k d. holds_means system closed f (iterate (suc system.states) (λ set. holds system (set ∷ sets) f) everything ∷ sets) t k
      (greatest_supported system.states (λ set. holds system (set ∷ sets) f) (body_grows system closed sets f) t k d),
  e,
)
holds_means system closed (variable i) sets s l e = e

pub meaning_holds : (system : PlainSystem) → IsClosedSystem system → (f : NormalForm) (sets : List StateSet) (s : ℕ) → s < system.states → Satisfies system sets f s → holds system sets f s ≡ true
meaning_holds system closed met sets s l h = refl
meaning_holds system closed unmet sets s l h = absurd h
meaning_holds system closed (both f g) sets s l h = and_from (holds system sets f s) (holds system sets g s) (meaning_holds system closed f sets s l h.0) (meaning_holds system closed g sets s l h.1)
meaning_holds system closed (either f g) sets s l (inl h) = or_left (holds system sets f s) (holds system sets g s) (meaning_holds system closed f sets s l h)
meaning_holds system closed (either f g) sets s l (inr h) = or_right (holds system sets f s) (holds system sets g s) (meaning_holds system closed g sets s l h)
meaning_holds system closed (some_step x f) sets s l h = any_from (holds system sets f) (successors system x s) h.0 h.1 (meaning_holds system closed f sets h.0 (successor_inside system closed x s h.0 h.1) h.2)
meaning_holds system closed (every_step x f) sets s l h = all_from (holds system sets f) (successors system x s) (λ t c. meaning_holds system closed f sets t (successor_inside system closed x s t c) (h t c))
meaning_holds system closed (fixpoint least p f) sets s l h =
    h (iterate (suc system.states) (λ set. holds system (set ∷ sets) f) nothing)
    (λ t k d. least_closed system.states (λ set. holds system (set ∷ sets) f) (body_grows system closed sets f) t k
    (meaning_holds system closed f (iterate (suc system.states) (λ set. holds system (set ∷ sets) f) nothing ∷ sets) t k d))
meaning_holds system closed (fixpoint greatest p f) sets s l h =
    greatest_above system.states (λ set. holds system (set ∷ sets) f) (body_grows system closed sets f) h.0
    (λ t k d. meaning_holds system closed f (h.0 ∷ sets) t k (h.1 t k d)) (suc system.states) s l h.2
meaning_holds system closed (variable i) sets s l h = h

-- The words mean what they say.
use Rattle.std.proofs.Common.{◌≡◌, ℕ, zero, suc, ◌<◌, ◌≤◌, ◌⊎◌, ◌↔◌, inl, inr, Bool, true, false, not, ◌&&◌, ◌||◌, List, [], ◌∷◌, length, get_or, map, refl, sym, ◌∙◌, ap, ap₂, Contains, arith}
use mathlib.Core.Path.{fun_ext}
use Rattle.std.proofs.lemmas.Bool.{cases_lt, and_parts, and_from, or_cases, or_left, or_right, lt-ltb, le-ltb}
use Rattle.vpg_requirement.specs.Actions.{ActionFormula, every_action, other_than}
use Rattle.vpg_requirement.specs.Systems.{PlainSystem, IsClosedSystem, successors}
use Rattle.vpg_requirement.specs.Fixpoints.{other_kind, StateSet, nothing}
use Rattle.vpg_requirement.specs.Formulas.{Formula, everywhere, nowhere, negation, conjunction, disjunction, implication, diamond, box, binding, bound, Means, IsPositive}
use Rattle.vpg_requirement.specs.NormalForms.{positive_form}
use Rattle.vpg_requirement.specs.Words.{shift_variable, shift, can, always, possibly, inevitably, will, IsNext, Leads, stay, go, ComesTo, come, later, ComesToAction, forced, WordsMean, WordsMeanWhatTheySay}
use Rattle.vpg_requirement.proofs.Evaluation.{everything, any_in, all_in, any_gives, any_from, all_gives, all_from, iterate, start_of, holds, successor_inside}
use Rattle.vpg_requirement.proofs.Fixpoints.{Grows, least_closed, greatest_supported, holds_means, meaning_holds}
use Rattle.vpg_requirement.proofs.Positive.{positive_form_means_the_same}

-- ---- one more set, or sign, in a list

abbrev pub inserted : {X : Type 0} → ℕ → X → List X → List X
inserted zero x xs = x ∷ xs
inserted (suc k) x [] = x ∷ []
inserted (suc k) x (y ∷ ys) = y ∷ inserted k x ys

pub raised_place : {X : Type 0} (k i : ℕ) (x d : X) (xs : List X) → k ≤ length xs → get_or (inserted k x xs) (shift_variable k i) d ≡ get_or xs i d
raised_place zero i x d xs l = rw (le-ltb i 0 (omega arith)) refl
raised_place (suc k) i x d [] l = absurd (omega arith)
raised_place (suc k) zero x d (y ∷ ys) l = rw (lt-ltb 0 (suc k) (omega arith)) refl
raised_place (suc k) (suc i) x d (y ∷ ys) l = decide (cases_lt i k) (raised_place k i x d ys (omega arith))
  where
    decide : (i < k) ⊎ (k ≤ i) → get_or (inserted k x ys) (shift_variable k i) d ≡ get_or ys i d → get_or (y ∷ inserted k x ys) (shift_variable (suc k) (suc i)) d ≡ get_or ys i d
    decide (inl low) h = rw (lt-ltb (suc i) (suc k) (omega arith)) (rw (lt-ltb i k low) at h)
    decide (inr high) h = rw (le-ltb (suc i) (suc k) (omega arith)) (rw (le-ltb i k high) at h)

raised_below : {X : Type 0} (k i : ℕ) (x : X) (xs : List X) → k ≤ length xs → i < length xs → shift_variable k i < length (inserted k x xs)
raised_below zero i x xs l h = rw (le-ltb i 0 (omega arith)) (more h)
  where
    more : i < length xs → suc i < suc (length xs)
    more h = omega arith
raised_below (suc k) i x [] l h = absurd (omega arith)
raised_below (suc k) zero x (y ∷ ys) l h = rw (lt-ltb 0 (suc k) (omega arith)) (omega arith)
raised_below (suc k) (suc i) x (y ∷ ys) l h = decide (cases_lt i k) (raised_below k i x ys (omega arith) (omega arith))
  where
    decide : (i < k) ⊎ (k ≤ i) → shift_variable k i < length (inserted k x ys) → shift_variable (suc k) (suc i) < suc (length (inserted k x ys))
    decide (inl low) h = rw (lt-ltb (suc i) (suc k) (omega arith)) (more (rw (lt-ltb i k low) at h))
      where
        more : i < length (inserted k x ys) → suc i < suc (length (inserted k x ys))
        more h = omega arith
    decide (inr high) h = rw (le-ltb (suc i) (suc k) (omega arith)) (more (rw (le-ltb i k high) at h))
      where
        more : suc i < length (inserted k x ys) → suc (suc i) < suc (length (inserted k x ys))
        more h = omega arith

raised_holds : (system : PlainSystem) (f : Formula) (sign : Bool) (k : ℕ) (U : StateSet) (sets : List StateSet) → k ≤ length sets → holds system (inserted k U sets) (positive_form sign (shift k f)) ≡ holds system sets (positive_form sign f)
raised_holds system everywhere false k U sets l = refl
raised_holds system everywhere true k U sets l = refl
raised_holds system nowhere false k U sets l = refl
raised_holds system nowhere true k U sets l = refl
raised_holds system (negation f) false k U sets l = raised_holds system f true k U sets l
raised_holds system (negation f) true k U sets l = raised_holds system f false k U sets l
raised_holds system (conjunction f g) false k U sets l = ap₂ {C = StateSet} (λ (A B : StateSet) s. A s && B s) (raised_holds system f false k U sets l) (raised_holds system g false k U sets l)
raised_holds system (conjunction f g) true k U sets l = ap₂ {C = StateSet} (λ (A B : StateSet) s. A s || B s) (raised_holds system f true k U sets l) (raised_holds system g true k U sets l)
raised_holds system (disjunction f g) false k U sets l = ap₂ {C = StateSet} (λ (A B : StateSet) s. A s || B s) (raised_holds system f false k U sets l) (raised_holds system g false k U sets l)
raised_holds system (disjunction f g) true k U sets l = ap₂ {C = StateSet} (λ (A B : StateSet) s. A s && B s) (raised_holds system f true k U sets l) (raised_holds system g true k U sets l)
raised_holds system (implication f g) false k U sets l = ap₂ {C = StateSet} (λ (A B : StateSet) s. A s || B s) (raised_holds system f true k U sets l) (raised_holds system g false k U sets l)
raised_holds system (implication f g) true k U sets l = ap₂ {C = StateSet} (λ (A B : StateSet) s. A s && B s) (raised_holds system f false k U sets l) (raised_holds system g true k U sets l)
raised_holds system (diamond x f) false k U sets l = ap {B = StateSet} (λ (A : StateSet) s. any_in A (successors system x s)) (raised_holds system f false k U sets l)
raised_holds system (diamond x f) true k U sets l = ap {B = StateSet} (λ (A : StateSet) s. all_in A (successors system x s)) (raised_holds system f true k U sets l)
raised_holds system (box x f) false k U sets l = ap {B = StateSet} (λ (A : StateSet) s. all_in A (successors system x s)) (raised_holds system f false k U sets l)
raised_holds system (box x f) true k U sets l = ap {B = StateSet} (λ (A : StateSet) s. any_in A (successors system x s)) (raised_holds system f true k U sets l)
raised_holds system (binding kind f) false k U sets l = ap {B = StateSet} (λ (F : StateSet → StateSet). iterate (suc system.states) F (start_of kind)) (fun_ext (λ V. raised_holds system f false (suc k) U (V ∷ sets) (omega arith)))
raised_holds system (binding kind f) true k U sets l = ap {B = StateSet} (λ (F : StateSet → StateSet). iterate (suc system.states) F (start_of (other_kind kind))) (fun_ext (λ V. raised_holds system f true (suc k) U (V ∷ sets) (omega arith)))
raised_holds system (bound i) false k U sets l = raised_place k i U nothing sets l
raised_holds system (bound i) true k U sets l = raised_place k i U nothing sets l

pub raised_positive : (f : Formula) (sign b : Bool) (k : ℕ) (signs : List Bool) → k ≤ length signs → IsPositive signs sign f → IsPositive (inserted k b signs) sign (shift k f)
raised_positive everywhere sign b k signs l p = tt
raised_positive nowhere sign b k signs l p = tt
raised_positive (negation f) sign b k signs l p = raised_positive f (not sign) b k signs l p
raised_positive (conjunction f g) sign b k signs l p = (raised_positive f sign b k signs l p.0, raised_positive g sign b k signs l p.1)
raised_positive (disjunction f g) sign b k signs l p = (raised_positive f sign b k signs l p.0, raised_positive g sign b k signs l p.1)
raised_positive (implication f g) sign b k signs l p = (raised_positive f (not sign) b k signs l p.0, raised_positive g sign b k signs l p.1)
raised_positive (diamond x f) sign b k signs l p = raised_positive f sign b k signs l p
raised_positive (box x f) sign b k signs l p = raised_positive f sign b k signs l p
raised_positive (binding kind f) sign b k signs l p = raised_positive f sign b (suc k) (sign ∷ signs) (omega arith) p
raised_positive (bound i) sign b k signs l p = (raised_below k i b signs l p.0, raised_place k i b false signs l ∙ p.1)

get_flipped : (signs : List Bool) (i : ℕ) → i < length signs → get_or (map not signs) i false ≡ not (get_or signs i false)
get_flipped [] i l = absurd (omega arith)
get_flipped (b ∷ signs) zero l = refl
get_flipped (b ∷ signs) (suc i) l = get_flipped signs i (omega arith)

length_flipped : (signs : List Bool) → length (map not signs) ≡ length signs
length_flipped [] = refl
length_flipped (b ∷ signs) = ap suc (length_flipped signs)

-- the signs may all be turned
pub flipped : (f : Formula) (sign : Bool) (signs : List Bool) → IsPositive signs sign f → IsPositive (map not signs) (not sign) f
flipped everywhere sign signs p = tt
flipped nowhere sign signs p = tt
flipped (negation f) sign signs p = flipped f (not sign) signs p
flipped (conjunction f g) sign signs p = (flipped f sign signs p.0, flipped g sign signs p.1)
flipped (disjunction f g) sign signs p = (flipped f sign signs p.0, flipped g sign signs p.1)
flipped (implication f g) sign signs p = (flipped f (not sign) signs p.0, flipped g sign signs p.1)
flipped (diamond x f) sign signs p = flipped f sign signs p
flipped (box x f) sign signs p = flipped f sign signs p
flipped (binding kind f) sign signs p = flipped f sign (sign ∷ signs) p
flipped (bound i) sign signs p = (omega (arith, length_flipped signs, p.0), get_flipped signs i p.0 ∙ ap not p.1)

pub iff_trans : {A B C : Type 0} → A ↔ B → B ↔ C → A ↔ C
iff_trans h k = (λ a. k.0 (h.0 a), λ c. h.1 (k.1 c))

pub iff_sym : {A B : Type 0} → A ↔ B → B ↔ A
iff_sym h = (h.1, h.0)

-- ---- a test of states, carried on

module _ (system : PlainSystem) (closed : IsClosedSystem system) where
  abbrev next : ℕ → List ℕ
  next s = successors system every_action s

  inside_next : (s t : ℕ) → Contains (next s) t → t < system.states
  inside_next s t c = successor_inside system closed every_action s t c

  -- what a closed formula means is what its evaluation says
  meaning_is : (f : Formula) → IsPositive [] false f → (s : ℕ) → s < system.states → Means system [] f s ↔ (holds system [] (positive_form false f) s ≡ true)
  meaning_is f p s l = (λ m. meaning_holds system closed (positive_form false f) [] s l ((positive_form_means_the_same system f closed p s l).1 m), λ e. (positive_form_means_the_same system f closed p s l).0 (holds_means system closed (positive_form false f) [] s l e))

  module _ (p : StateSet) where
    always_body : StateSet → StateSet
    always_body U s = p s && all_in U (next s)

    possibly_body : StateSet → StateSet
    possibly_body U s = p s || any_in U (next s)

    pub inevitably_body : StateSet → StateSet
    inevitably_body U s = p s || (any_in everything (next s) && all_in U (next s))

    always_grows : Grows system.states always_body
    unfolding always_body
    always_grows A B h s l e = and_from (p s) (all_in B (next s)) (and_parts (p s) (all_in A (next s)) e).0
        (all_from B (next s) (λ t c. h t (inside_next s t c) (all_gives A (next s) (and_parts (p s) (all_in A (next s)) e).1 t c)))

    always_to : (s t : ℕ) → s < system.states → iterate (suc system.states) always_body everything s ≡ true → Leads system s t → p t ≡ true
    unfolding always_body
    always_to s t l e stay = (and_parts (p s) (all_in W (next s)) (greatest_supported system.states always_body always_grows s l e)).0
      where
        W : StateSet
        W = iterate (suc system.states) always_body everything
    always_to s t l e (go {t = u} c r) = always_to u t (inside_next s u c) (all_gives W (next s) (and_parts (p s) (all_in W (next s)) (greatest_supported system.states always_body always_grows s l e)).1 u c) r
      where
        W : StateSet
        W = iterate (suc system.states) always_body everything

    always_from : (k s : ℕ) → ((t : ℕ) → Leads system s t → p t ≡ true) → iterate k always_body everything s ≡ true
    unfolding always_body
    always_from zero s h = refl
    always_from (suc k) s h = and_from (p s) (all_in (iterate k always_body everything) (next s)) (h s stay) (all_from (iterate k always_body everything) (next s) (λ t c. always_from k t (λ u r. h u (go c r))))

    possibly_to : (k s : ℕ) → iterate k possibly_body nothing s ≡ true → (t : ℕ) × Leads system s t × (p t ≡ true)
    unfolding possibly_body
    possibly_to zero s e = absurd (clash e)
      where
        clash : false ≡ true → ⊥
        clash e = cc
    possibly_to (suc k) s e = split (or_cases (p s) (any_in (iterate k possibly_body nothing) (next s)) e) (possibly_to k)
      where
        split : (p s ≡ true) ⊎ (any_in (iterate k possibly_body nothing) (next s) ≡ true) → ((u : ℕ) → iterate k possibly_body nothing u ≡ true → (t : ℕ) × Leads system u t × (p t ≡ true)) → (t : ℕ) × Leads system s t × (p t ≡ true)
        split (inl h) rest = (s, stay, h)
        split (inr h) rest = found (any_gives (iterate k possibly_body nothing) (next s) h)
          where
            found : (u : ℕ) × Contains (next s) u × (iterate k possibly_body nothing u ≡ true) → (t : ℕ) × Leads system s t × (p t ≡ true)
            found u = joined (rest u.0 u.2)
              where
                joined : (t : ℕ) × Leads system u.0 t × (p t ≡ true) → (t : ℕ) × Leads system s t × (p t ≡ true)
                joined t = (t.0, go u.1 t.1, t.2)

    pub inevitably_to : (k s : ℕ) → iterate k inevitably_body nothing s ≡ true → ComesTo system (λ t. p t ≡ true) s
    unfolding inevitably_body
    inevitably_to zero s e = absurd (clash e)
      where
        clash : false ≡ true → ⊥
        clash e = cc
    inevitably_to (suc k) s e = split (or_cases (p s) (any_in everything (next s) && all_in (iterate k inevitably_body nothing) (next s)) e) (inevitably_to k)
      where
        split : (p s ≡ true) ⊎ ((any_in everything (next s) && all_in (iterate k inevitably_body nothing) (next s)) ≡ true) → ((u : ℕ) → iterate k inevitably_body nothing u ≡ true → ComesTo system (λ t. p t ≡ true) u) → ComesTo system (λ t. p t ≡ true) s
        split (inl h) rest = come h
        split (inr h) rest = later (some (any_gives everything (next s) (and_parts (any_in everything (next s)) (all_in (iterate k inevitably_body nothing) (next s)) h).0))
            (λ t c. rest t (all_gives (iterate k inevitably_body nothing) (next s) (and_parts (any_in everything (next s)) (all_in (iterate k inevitably_body nothing) (next s)) h).1 t c))
          where
            some : (t : ℕ) × Contains (next s) t × (everything t ≡ true) → (t : ℕ) × IsNext system s t
            some t = (t.0, t.1)

    possibly_grows : Grows system.states possibly_body
    unfolding possibly_body
    possibly_grows A B h s l e = split (or_cases (p s) (any_in A (next s)) e)
      where
        split : (p s ≡ true) ⊎ (any_in A (next s) ≡ true) → (p s || any_in B (next s)) ≡ true
        split (inl t) = or_left (p s) (any_in B (next s)) t
        split (inr t) = or_right (p s) (any_in B (next s)) (found (any_gives A (next s) t))
          where
            found : (u : ℕ) × Contains (next s) u × (A u ≡ true) → any_in B (next s) ≡ true
            found u = any_from B (next s) u.0 u.1 (h u.0 (inside_next s u.0 u.1) u.2)

    possibly_from : (s t : ℕ) → s < system.states → Leads system s t → p t ≡ true → iterate (suc system.states) possibly_body nothing s ≡ true
    unfolding possibly_body
    possibly_from s t l stay e = least_closed system.states possibly_body possibly_grows s l (or_left (p s) (any_in (iterate (suc system.states) possibly_body nothing) (next s)) e)
    possibly_from s t l (go {t = u} c r) e = least_closed system.states possibly_body possibly_grows s l (or_right (p s) (any_in W (next s)) (any_from W (next s) u c (possibly_from u t (inside_next s u c) r e)))
      where
        W : StateSet
        W = iterate (suc system.states) possibly_body nothing

    inevitably_grows : Grows system.states inevitably_body
    unfolding inevitably_body
    inevitably_grows A B h s l e = split (or_cases (p s) (any_in everything (next s) && all_in A (next s)) e)
      where
        split : (p s ≡ true) ⊎ ((any_in everything (next s) && all_in A (next s)) ≡ true) → (p s || (any_in everything (next s) && all_in B (next s))) ≡ true
        split (inl t) = or_left (p s) (any_in everything (next s) && all_in B (next s)) t
        split (inr t) = or_right (p s) (any_in everything (next s) && all_in B (next s)) (and_from (any_in everything (next s)) (all_in B (next s)) (and_parts (any_in everything (next s)) (all_in A (next s)) t).0
            (all_from B (next s) (λ u c. h u (inside_next s u c) (all_gives A (next s) (and_parts (any_in everything (next s)) (all_in A (next s)) t).1 u c))))

    pub inevitably_from : (s : ℕ) → s < system.states → ComesTo system (λ t. p t ≡ true) s → iterate (suc system.states) inevitably_body nothing s ≡ true
    unfolding inevitably_body
    inevitably_from s l (come e) = least_closed system.states inevitably_body inevitably_grows s l (or_left (p s) (any_in everything (next s) && all_in (iterate (suc system.states) inevitably_body nothing) (next s)) e)
    inevitably_from s l (later some rest) = least_closed system.states inevitably_body inevitably_grows s l (or_right (p s) (any_in everything (next s) && all_in W (next s)) (and_from (any_in everything (next s)) (all_in W (next s))
        (any_from everything (next s) some.0 some.1 refl) (all_from W (next s) (λ t c. inevitably_from t (inside_next s t c) (rest t c)))))
      where
        W : StateSet
        W = iterate (suc system.states) inevitably_body nothing

  will_step : ActionFormula → StateSet → StateSet
  will_step x U s = any_in everything (next s) && all_in U (successors system (other_than x) s)

  will_grows : (x : ActionFormula) → Grows system.states (will_step x)
  unfolding will_step
  will_grows x A B h s l e = and_from (any_in everything (next s)) (all_in B (successors system (other_than x) s)) (and_parts (any_in everything (next s)) (all_in A (successors system (other_than x) s)) e).0
      (all_from B (successors system (other_than x) s) (λ t c. h t (successor_inside system closed (other_than x) s t c) (all_gives A (successors system (other_than x) s) (and_parts (any_in everything (next s)) (all_in A (successors system (other_than x) s)) e).1 t c)))

  will_to : (x : ActionFormula) (k s : ℕ) → iterate k (will_step x) nothing s ≡ true → ComesToAction system x s
  unfolding will_step
  will_to x zero s e = absurd (clash e)
    where
      clash : false ≡ true → ⊥
      clash e = cc
  will_to x (suc k) s e = forced (some (any_gives everything (next s) (and_parts (any_in everything (next s)) (all_in (iterate k (will_step x) nothing) (successors system (other_than x) s)) e).0))
      (λ t c. will_to x k t (all_gives (iterate k (will_step x) nothing) (successors system (other_than x) s) (and_parts (any_in everything (next s)) (all_in (iterate k (will_step x) nothing) (successors system (other_than x) s)) e).1 t c))
    where
      some : (t : ℕ) × Contains (next s) t × (everything t ≡ true) → (t : ℕ) × IsNext system s t
      some t = (t.0, t.1)

  will_from : (x : ActionFormula) (s : ℕ) → s < system.states → ComesToAction system x s → iterate (suc system.states) (will_step x) nothing s ≡ true
  unfolding will_step
  will_from x s l (forced some rest) = least_closed system.states (will_step x) (will_grows x) s l (and_from (any_in everything (next s)) (all_in W (successors system (other_than x) s))
      (any_from everything (next s) some.0 some.1 refl) (all_from W (successors system (other_than x) s) (λ t c. will_from x t (successor_inside system closed (other_than x) s t c) (rest t c))))
    where
      W : StateSet
      W = iterate (suc system.states) (will_step x) nothing

  -- ---- the laws

  leads_inside : (s t : ℕ) → s < system.states → Leads system s t → t < system.states
  leads_inside s t l stay = l
  leads_inside s t l (go {t = u} c r) = leads_inside u t (inside_next s u c) r

  pub coming_map : (P Q : ℕ → Type 0) → ((t : ℕ) → t < system.states → P t → Q t) → (s : ℕ) → s < system.states → ComesTo system P s → ComesTo system Q s
  coming_map P Q h s l (come p) = come (h s l p)
  coming_map P Q h s l (later some rest) = later some (λ t c. coming_map P Q h t (inside_next s t c) (rest t c))

  always_positive : (f : Formula) → IsPositive [] false f → IsPositive [] false (always f)
  always_positive f p = (raised_positive f false false 0 [] (omega arith) p, (omega arith, refl))

  possibly_positive : (f : Formula) → IsPositive [] false f → IsPositive [] false (possibly f)
  possibly_positive f p = (raised_positive f false false 0 [] (omega arith) p, (omega arith, refl))

  inevitably_positive : (f : Formula) → IsPositive [] false f → IsPositive [] false (inevitably f)
  inevitably_positive f p = (raised_positive f false false 0 [] (omega arith) p, (tt, (omega arith, refl)))

  always_is : (f : Formula) → holds system [] (positive_form false (always f)) ≡ iterate (suc system.states) (always_body (holds system [] (positive_form false f))) everything
  unfolding always_body
  always_is f = ap {B = StateSet} (λ (F : StateSet → StateSet). iterate (suc system.states) F everything) (fun_ext (λ U. ap {B = StateSet} (λ (A : StateSet) s. A s && all_in U (next s)) (raised_holds system f false 0 U [] (omega arith))))

  possibly_is : (f : Formula) → holds system [] (positive_form false (possibly f)) ≡ iterate (suc system.states) (possibly_body (holds system [] (positive_form false f))) nothing
  unfolding possibly_body
  possibly_is f = ap {B = StateSet} (λ (F : StateSet → StateSet). iterate (suc system.states) F nothing) (fun_ext (λ U. ap {B = StateSet} (λ (A : StateSet) s. A s || any_in U (next s)) (raised_holds system f false 0 U [] (omega arith))))

  inevitably_is : (f : Formula) → holds system [] (positive_form false (inevitably f)) ≡ iterate (suc system.states) (inevitably_body (holds system [] (positive_form false f))) nothing
  unfolding inevitably_body
  inevitably_is f = ap {B = StateSet} (λ (F : StateSet → StateSet). iterate (suc system.states) F nothing) (fun_ext (λ U. ap {B = StateSet} (λ (A : StateSet) s. A s || (any_in everything (next s) && all_in U (next s))) (raised_holds system f false 0 U [] (omega arith))))

  will_is : (x : ActionFormula) → holds system [] (positive_form false (will x)) ≡ iterate (suc system.states) (will_step x) nothing
  unfolding will_step
  will_is x = refl

  always_law : (f : Formula) → IsPositive [] false f → (s : ℕ) → s < system.states → Means system [] (always f) s ↔ ((t : ℕ) → Leads system s t → Means system [] f t)
  always_law f p s l = (
    λ m t r. (meaning_is f p t (leads_inside s t l r)).1 (always_to (holds system [] (positive_form false f)) s t l (sym (ap (λ (A : StateSet). A s) (always_is f)) ∙ (meaning_is (always f) (always_positive f p) s l).0 m) r),
    λ h. (meaning_is (always f) (always_positive f p) s l).1 (ap (λ (A : StateSet). A s) (always_is f) ∙ always_from (holds system [] (positive_form false f)) (suc system.states) s (λ t r. (meaning_is f p t (leads_inside s t l r)).0 (h t r))),
  )

  possibly_law : (f : Formula) → IsPositive [] false f → (s : ℕ) → s < system.states → Means system [] (possibly f) s ↔ ((t : ℕ) × Leads system s t × Means system [] f t)
  possibly_law f p s l = (
    λ m. found (possibly_to (holds system [] (positive_form false f)) (suc system.states) s (sym (ap (λ (A : StateSet). A s) (possibly_is f)) ∙ (meaning_is (possibly f) (possibly_positive f p) s l).0 m)),
    λ h. (meaning_is (possibly f) (possibly_positive f p) s l).1 (ap (λ (A : StateSet). A s) (possibly_is f) ∙ possibly_from (holds system [] (positive_form false f)) s h.0 l h.1 ((meaning_is f p h.0 (leads_inside s h.0 l h.1)).0 h.2)),
  )
    where
      found : (t : ℕ) × Leads system s t × (holds system [] (positive_form false f) t ≡ true) → (t : ℕ) × Leads system s t × Means system [] f t
      found t = (t.0, t.1, (meaning_is f p t.0 (leads_inside s t.0 l t.1)).1 t.2)

  inevitably_law : (f : Formula) → IsPositive [] false f → (s : ℕ) → s < system.states → Means system [] (inevitably f) s ↔ ComesTo system (Means system [] f) s
  inevitably_law f p s l = (
    λ m. coming_map (λ t. holds system [] (positive_form false f) t ≡ true) (Means system [] f) (λ t k. (meaning_is f p t k).1) s l
        (inevitably_to (holds system [] (positive_form false f)) (suc system.states) s (sym (ap (λ (A : StateSet). A s) (inevitably_is f)) ∙ (meaning_is (inevitably f) (inevitably_positive f p) s l).0 m)),
    λ h. (meaning_is (inevitably f) (inevitably_positive f p) s l).1 (ap (λ (A : StateSet). A s) (inevitably_is f) ∙ inevitably_from (holds system [] (positive_form false f)) s l
        (coming_map (Means system [] f) (λ t. holds system [] (positive_form false f) t ≡ true) (λ t k. (meaning_is f p t k).0) s l h)),
  )

  will_law : (x : ActionFormula) (s : ℕ) → s < system.states → Means system [] (will x) s ↔ ComesToAction system x s
  will_law x s l = (
    λ m. will_to x (suc system.states) s (sym (ap (λ (A : StateSet). A s) (will_is x)) ∙ (meaning_is (will x) (tt, (omega arith, refl)) s l).0 m),
    λ h. (meaning_is (will x) (tt, (omega arith, refl)) s l).1 (ap (λ (A : StateSet). A s) (will_is x) ∙ will_from x s l h),
  )

  pub words_mean : (f : Formula) (x : ActionFormula) → IsPositive [] false f → (s : ℕ) → s < system.states → WordsMean system f x s
  words_mean f x p s l = record {
    can_means = (λ m. (m.0, m.1), λ t. (t.0, t.1, tt));
    always_means = always_law f p s l;
    never_means = always_law (negation f) (flipped f false [] p) s l;
    possibly_means = possibly_law f p s l;
    inevitably_means = inevitably_law f p s l;
    again_and_again_means = (
      λ m t r. (inevitably_law f p t (leads_inside s t l r)).0 ((always_law (inevitably f) (inevitably_positive f p) s l).0 m t r),
      λ h. (always_law (inevitably f) (inevitably_positive f p) s l).1 (λ t r. (inevitably_law f p t (leads_inside s t l r)).1 (h t r)),
    );
    will_means = will_law x s l;
    after_means = (
      λ m t u r c. (always_law (box x f) p s l).0 m t r u c,
      λ h. (always_law (box x f) p s l).1 (λ t r u c. h t u r c),
    );
    deadlock_free_means = (
      λ m t r. some t ((always_law (can every_action) tt s l).0 m t r),
      λ h. (always_law (can every_action) tt s l).1 (λ t r. ((h t r).0, (h t r).1, tt)),
    );
  }
    where
      some : (t : ℕ) → (u : ℕ) × Contains (next t) u × Unit {0} → (u : ℕ) × IsNext system t u
      some t u = (u.0, u.1)

pub words_mean_what_they_say : WordsMeanWhatTheySay
words_mean_what_they_say system f x closed p s l = words_mean system closed f x p s l

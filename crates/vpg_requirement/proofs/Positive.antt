-- The positive normal form means what the formula means.
use Rattle.std.proofs.Common.{◌≡◌, ℕ, zero, suc, ◌<◌, ◌⊎◌, ◌↔◌, inl, inr, Bool, true, false, not, ◌&&◌, ◌||◌, List, [], ◌∷◌, length, get_or, refl, sym, ◌∙◌, subst, ap, Contains, arith}
use Rattle.std.proofs.lemmas.Bool.{cases_Bool}
use Rattle.vpg_requirement.specs.Systems.{PlainSystem, IsClosedSystem, successors}
use Rattle.vpg_requirement.specs.Fixpoints.{least, greatest, StateSet, nothing, set_of, HoldsAtFixpoint}
use Rattle.vpg_requirement.specs.Formulas.{Formula, everywhere, nowhere, negation, conjunction, disjunction, implication, diamond, box, binding, bound, Means, IsPositive}
use Rattle.vpg_requirement.specs.NormalForms.{Satisfies, positive_form}
use Rattle.vpg_requirement.specs.Laws.{PositiveFormMeansTheSame}
use Rattle.vpg_requirement.proofs.Evaluation.{everything, any_in, all_in, any_gives, any_from, all_gives, all_from, iterate, holds, successor_inside}
use Rattle.vpg_requirement.proofs.Fixpoints.{body_grows, least_closed, least_within, greatest_supported, greatest_above, holds_means, meaning_holds}
use Rattle.vpg_requirement.proofs.Duals.{or_not, and_not, any_not, all_not}

-- a set, or its complement
abbrev pub turned : Bool → Bool → Bool
turned false b = b
turned true b = not b

turned-turned : (sign b : Bool) → turned sign (turned sign b) ≡ b
turned-turned false b = refl
turned-turned true true = refl
turned-turned true false = refl

-- the sets for the requirement are those for the formula, or their complements
abbrev pub AreTurned : List Bool → List StateSet → List StateSet → Type 0
AreTurned signs As Bs = (i : ℕ) → i < length signs → (s : ℕ) → set_of As i s ≡ turned (get_or signs i false) (set_of Bs i s)

turned_more : (signs : List Bool) (sign : Bool) (A B : StateSet) (As Bs : List StateSet) → ((s : ℕ) → A s ≡ turned sign (B s)) → AreTurned signs As Bs → AreTurned (sign ∷ signs) (A ∷ As) (B ∷ Bs)
turned_more signs sign A B As Bs h hs zero l s = h s
turned_more signs sign A B As Bs h hs (suc i) l s = hs i (omega arith) s

-- a test decides a fact
pub record Tests (b : Bool) (P : Type 0) : Type 0 where
  pub yes_then : b ≡ true → P
  pub no_then : b ≡ false → P → ⊥

clash : (b : Bool) → b ≡ true → b ≡ false → ⊥
clash b t f = cc

true_not_false : true ≡ false → ⊥
true_not_false e = cc

false_not_true : false ≡ true → ⊥
false_not_true e = cc

turned_not : (sign b : Bool) → turned sign b ≡ not (turned (not sign) b)
turned_not false true = refl
turned_not false false = refl
turned_not true b = refl

pub tests_not : (b : Bool) (P : Type 0) → Tests b P → Tests (not b) (P → ⊥)
tests_not true P h = record { yes_then = λ e. absurd (false_not_true e); no_then = λ e no_p. no_p (h.yes_then refl) }
tests_not false P h = record { yes_then = λ e. h.no_then refl; no_then = λ e. absurd (true_not_false e) }

tests_and : (a b : Bool) (P Q : Type 0) → Tests a P → Tests b Q → Tests (a && b) (P × Q)
tests_and true b P Q h k = record { yes_then = λ e. (h.yes_then refl, k.yes_then e); no_then = λ e pq. k.no_then e pq.1 }
tests_and false b P Q h k = record { yes_then = λ e. absurd (false_not_true e); no_then = λ e pq. h.no_then refl pq.0 }

tests_or : (a b : Bool) (P Q : Type 0) → Tests a P → Tests b Q → Tests (a || b) (P ⊎ Q)
tests_or true b P Q h k = record { yes_then = λ e. inl (h.yes_then refl); no_then = λ e. absurd (true_not_false e) }
tests_or false b P Q h k = record { yes_then = λ e. inr (k.yes_then e); no_then = no_then }
  where
    no_then : b ≡ false → P ⊎ Q → ⊥
    no_then e (inl p) = h.no_then refl p
    no_then e (inr q) = k.no_then e q

tests_implies : (a b : Bool) (P Q : Type 0) → Tests a P → Tests b Q → Tests (not a || b) (P → Q)
tests_implies true b P Q h k = record { yes_then = λ e p. k.yes_then e; no_then = λ e f. k.no_then e (f (h.yes_then refl)) }
tests_implies false b P Q h k = record { yes_then = λ e p. absurd (h.no_then refl p); no_then = λ e. absurd (true_not_false e) }

pub tests_any : (h : StateSet) (P : ℕ → Type 0) (ts : List ℕ) → ((t : ℕ) → Contains ts t → Tests (h t) (P t)) → Tests (any_in h ts) ((t : ℕ) × Contains ts t × P t)
tests_any h P ts tests = record { yes_then = λ e. found (any_gives h ts e); no_then = λ e p. none e p (cases_Bool (h p.0)) }
  where
    found : (t : ℕ) × Contains ts t × (h t ≡ true) → (t : ℕ) × Contains ts t × P t
    found t = (t.0, t.1, (tests t.0 t.1).yes_then t.2)

    none : any_in h ts ≡ false → (p : (t : ℕ) × Contains ts t × P t) → (h p.0 ≡ true) ⊎ (h p.0 ≡ false) → ⊥
    none e p (inl t) = clash (any_in h ts) (any_from h ts p.0 p.1 t) e
    none e p (inr f) = (tests p.0 p.1).no_then f p.2

pub tests_all : (h : StateSet) (P : ℕ → Type 0) (ts : List ℕ) → ((t : ℕ) → Contains ts t → Tests (h t) (P t)) → Tests (all_in h ts) ((t : ℕ) → Contains ts t → P t)
tests_all h P ts tests = record { yes_then = λ e t c. (tests t c).yes_then (all_gives h ts e t c); no_then = λ e p. clash (all_in h ts) (all_from h ts (λ t c. each t c p (cases_Bool (h t)))) e }
  where
    each : (t : ℕ) (c : Contains ts t) → ((t : ℕ) → Contains ts t → P t) → (h t ≡ true) ⊎ (h t ≡ false) → h t ≡ true
    each t c p (inl e) = e
    each t c p (inr f) = absurd ((tests t c).no_then f (p t c))

tests_same : (a b : Bool) (P : Type 0) → a ≡ b → Tests a P → Tests b P
tests_same a b P e h = subst (λ x. Tests x P) e h

not-not : (b : Bool) → not (not b) ≡ b
not-not true = refl
not-not false = refl

from_not_false : (b : Bool) → not b ≡ false → b ≡ true
from_not_false true e = refl
from_not_false false e = absurd (true_not_false e)

from_not_true : (b : Bool) → not b ≡ true → b ≡ false
from_not_true true e = absurd (false_not_true e)
from_not_true false e = refl

-- ---- fixpoints

module _ (n : ℕ) (G : StateSet → StateSet) (grows : (A B : StateSet) → ((s : ℕ) → s < n → A s ≡ true → B s ≡ true) → (s : ℕ) → s < n → G A s ≡ true → G B s ≡ true) (F : StateSet → ℕ → Type 0) where
  -- the test is that of the body
  module _ (body : (U A : StateSet) → ((s : ℕ) → A s ≡ U s) → (t : ℕ) → t < n → Tests (G A t) (F U t)) where
    straight : (U : StateSet) (t : ℕ) → t < n → Tests (G U t) (F U t)
    straight U = body U U (λ s. refl)

    tests_least : (s : ℕ) → s < n → Tests (iterate (suc n) G nothing s) (HoldsAtFixpoint least n F s)
    tests_least s l = record {
      yes_then = λ e U closed. least_within n G grows U (λ t k g. closed t k ((straight U t k).yes_then g)) (suc n) s l e;
      no_then = λ e h. clash (iterate (suc n) G nothing s) (h (iterate (suc n) G nothing) (λ t k f. least_closed n G grows t k (holds_body t k f (cases_Bool (G (iterate (suc n) G nothing) t))))) e;
    }
      where
        holds_body : (t : ℕ) → t < n → F (iterate (suc n) G nothing) t → (G (iterate (suc n) G nothing) t ≡ true) ⊎ (G (iterate (suc n) G nothing) t ≡ false) → G (iterate (suc n) G nothing) t ≡ true
        holds_body t k f (inl e) = e
        holds_body t k f (inr e) = absurd ((straight (iterate (suc n) G nothing) t k).no_then e f)

    tests_greatest : (s : ℕ) → s < n → Tests (iterate (suc n) G everything s) (HoldsAtFixpoint greatest n F s)
    tests_greatest s l = record {
      yes_then = λ e. (iterate (suc n) G everything, λ t k w. (straight (iterate (suc n) G everything) t k).yes_then (greatest_supported n G grows t k w), e);
      no_then = λ e h. clash (iterate (suc n) G everything s) (greatest_above n G grows h.0 (λ t k u. holds_body h.0 t k (h.1 t k u) (cases_Bool (G h.0 t))) (suc n) s l h.2) e;
    }
      where
        holds_body : (U : StateSet) (t : ℕ) → t < n → F U t → (G U t ≡ true) ⊎ (G U t ≡ false) → G U t ≡ true
        holds_body U t k f (inl e) = e
        holds_body U t k f (inr e) = absurd ((straight U t k).no_then e f)

  -- the test is that of the body's negation, at the complement
  module _ (body : (U A : StateSet) → ((s : ℕ) → A s ≡ not (U s)) → (t : ℕ) → t < n → Tests (not (G A t)) (F U t)) where
    abbrev complement : StateSet → StateSet
    complement A s = not (A s)

    on_set : (U : StateSet) (t : ℕ) → t < n → Tests (not (G (complement U) t)) (F U t)
    on_set U = body U (complement U) (λ s. refl)

    on_complement : (A : StateSet) (t : ℕ) → t < n → Tests (not (G A t)) (F (complement A) t)
    on_complement A = body (complement A) A (λ s. sym (not-not (A s)))

    tests_least_not : (s : ℕ) → s < n → Tests (not (iterate (suc n) G everything s)) (HoldsAtFixpoint least n F s)
    tests_least_not s l = record {
      yes_then = λ e V closed. in_set e V closed (cases_Bool (V s));
      no_then = λ e h. out e (h (complement W) closed_complement);
    }
      where
        W : StateSet
        W = iterate (suc n) G everything

        supported : (V : StateSet) → ((t : ℕ) → t < n → F V t → V t ≡ true) → (t : ℕ) → t < n → not (V t) ≡ true → (G (complement V) t ≡ true) ⊎ (G (complement V) t ≡ false) → G (complement V) t ≡ true
        supported V closed t k v (inl e) = e
        supported V closed t k v (inr e) = absurd (clash (V t) (closed t k ((on_set V t k).yes_then (ap not e))) (from_not_true (V t) v))

        in_set : not (W s) ≡ true → (V : StateSet) → ((t : ℕ) → t < n → F V t → V t ≡ true) → (V s ≡ true) ⊎ (V s ≡ false) → V s ≡ true
        in_set e V closed (inl t) = t
        in_set e V closed (inr f) = absurd (clash (W s) (greatest_above n G grows (complement V) (λ t k v. supported V closed t k v (cases_Bool (G (complement V) t))) (suc n) s l (ap not f)) (from_not_true (W s) e))

        closed_complement : (t : ℕ) → t < n → F (complement W) t → not (W t) ≡ true
        closed_complement t k f = of (cases_Bool (W t))
          where
            of : (W t ≡ true) ⊎ (W t ≡ false) → not (W t) ≡ true
            of (inl w) = absurd ((on_complement W t k).no_then (ap not (greatest_supported n G grows t k w)) f)
            of (inr w) = ap not w

        out : not (W s) ≡ false → not (W s) ≡ true → ⊥
        out e h = clash (not (W s)) h e

    tests_greatest_not : (s : ℕ) → s < n → Tests (not (iterate (suc n) G nothing s)) (HoldsAtFixpoint greatest n F s)
    tests_greatest_not s l = record {
      yes_then = λ e. (complement W, supported, e);
      no_then = λ e h. clash (not (h.0 s)) (least_within n G grows (complement h.0) (closed h.0 h.1) (suc n) s l (from_not_false (W s) e)) (ap not h.2);
    }
      where
        W : StateSet
        W = iterate (suc n) G nothing

        supported : (t : ℕ) → t < n → not (W t) ≡ true → F (complement W) t
        supported t k w = of (cases_Bool (G W t))
          where
            of : (G W t ≡ true) ⊎ (G W t ≡ false) → F (complement W) t
            of (inl g) = absurd (clash (W t) (least_closed n G grows t k g) (from_not_true (W t) w))
            of (inr g) = (on_complement W t k).yes_then (ap not g)

        closed : (U : StateSet) → ((t : ℕ) → t < n → U t ≡ true → F U t) → (t : ℕ) → t < n → G (complement U) t ≡ true → not (U t) ≡ true
        closed U sup t k g = of (cases_Bool (U t))
          where
            of : (U t ≡ true) ⊎ (U t ≡ false) → not (U t) ≡ true
            of (inl u) = absurd ((on_set U t k).no_then (ap not g) (sup t k u))
            of (inr u) = ap not u

-- ---- the normal form tests the meaning

module _ (system : PlainSystem) (closed : IsClosedSystem system) where
  pub tests_means : (f : Formula) (sign : Bool) (signs : List Bool) (As Bs : List StateSet) → IsPositive signs sign f → AreTurned signs As Bs → (s : ℕ) → s < system.states → Tests (turned sign (holds system As (positive_form sign f) s)) (Means system Bs f s)
  tests_means everywhere false signs As Bs p h s l = record { yes_then = λ e. tt; no_then = λ e. absurd (true_not_false e) }
  tests_means everywhere true signs As Bs p h s l = record { yes_then = λ e. tt; no_then = λ e. absurd (true_not_false e) }
  tests_means nowhere false signs As Bs p h s l = record { yes_then = λ e. absurd (false_not_true e); no_then = λ e x. x }
  tests_means nowhere true signs As Bs p h s l = record { yes_then = λ e. absurd (false_not_true e); no_then = λ e x. x }
  tests_means (negation f) sign signs As Bs p h s l = tests_same _ _ (Means system Bs f s → ⊥) (sym (turned_not sign (holds system As (positive_form (not sign) f) s)))
      (tests_not (turned (not sign) (holds system As (positive_form (not sign) f) s)) (Means system Bs f s) (tests_means f (not sign) signs As Bs p h s l))
  tests_means (conjunction f g) false signs As Bs p h s l = tests_and _ _ (Means system Bs f s) (Means system Bs g s) (tests_means f false signs As Bs p.0 h s l) (tests_means g false signs As Bs p.1 h s l)
  tests_means (conjunction f g) true signs As Bs p h s l = tests_same _ _ (Means system Bs f s × Means system Bs g s) (and_not (holds system As (positive_form true f) s) (holds system As (positive_form true g) s))
      (tests_and _ _ (Means system Bs f s) (Means system Bs g s) (tests_means f true signs As Bs p.0 h s l) (tests_means g true signs As Bs p.1 h s l))
  tests_means (disjunction f g) false signs As Bs p h s l = tests_or _ _ (Means system Bs f s) (Means system Bs g s) (tests_means f false signs As Bs p.0 h s l) (tests_means g false signs As Bs p.1 h s l)
  tests_means (disjunction f g) true signs As Bs p h s l = tests_same _ _ (Means system Bs f s ⊎ Means system Bs g s) (or_not (holds system As (positive_form true f) s) (holds system As (positive_form true g) s))
      (tests_or _ _ (Means system Bs f s) (Means system Bs g s) (tests_means f true signs As Bs p.0 h s l) (tests_means g true signs As Bs p.1 h s l))
  tests_means (implication f g) false signs As Bs p h s l = tests_same _ _ (Means system Bs f s → Means system Bs g s) (ap (λ b. b || holds system As (positive_form false g) s) (not-not (holds system As (positive_form true f) s)))
      (tests_implies _ _ (Means system Bs f s) (Means system Bs g s) (tests_means f true signs As Bs p.0 h s l) (tests_means g false signs As Bs p.1 h s l))
  tests_means (implication f g) true signs As Bs p h s l = tests_same _ _ (Means system Bs f s → Means system Bs g s) (or_not (holds system As (positive_form false f) s) (holds system As (positive_form true g) s))
      (tests_implies _ _ (Means system Bs f s) (Means system Bs g s) (tests_means f false signs As Bs p.0 h s l) (tests_means g true signs As Bs p.1 h s l))
  tests_means (diamond x f) false signs As Bs p h s l = tests_any (holds system As (positive_form false f)) (Means system Bs f) (successors system x s) (λ t c. tests_means f false signs As Bs p h t (successor_inside system closed x s t c))
  tests_means (diamond x f) true signs As Bs p h s l = tests_same _ _ ((t : ℕ) × Contains (successors system x s) t × Means system Bs f t)
      (any_not (λ t. not (holds system As (positive_form true f) t)) (holds system As (positive_form true f)) (λ t. refl) (successors system x s))
      (tests_any (λ t. not (holds system As (positive_form true f) t)) (Means system Bs f) (successors system x s) (λ t c. tests_means f true signs As Bs p h t (successor_inside system closed x s t c)))
  tests_means (box x f) false signs As Bs p h s l = tests_all (holds system As (positive_form false f)) (Means system Bs f) (successors system x s) (λ t c. tests_means f false signs As Bs p h t (successor_inside system closed x s t c))
  tests_means (box x f) true signs As Bs p h s l = tests_same _ _ ((t : ℕ) → Contains (successors system x s) t → Means system Bs f t)
      (all_not (λ t. not (holds system As (positive_form true f) t)) (holds system As (positive_form true f)) (λ t. refl) (successors system x s))
      (tests_all (λ t. not (holds system As (positive_form true f) t)) (Means system Bs f) (successors system x s) (λ t c. tests_means f true signs As Bs p h t (successor_inside system closed x s t c)))
  tests_means (binding least f) false signs As Bs p h s l = tests_least system.states (λ set. holds system (set ∷ As) (positive_form false f)) (body_grows system closed As (positive_form false f)) (λ set. Means system (set ∷ Bs) f)
      (λ U A e. tests_means f false (false ∷ signs) (A ∷ As) (U ∷ Bs) p (turned_more signs false A U As Bs e h)) s l
  tests_means (binding greatest f) false signs As Bs p h s l = tests_greatest system.states (λ set. holds system (set ∷ As) (positive_form false f)) (body_grows system closed As (positive_form false f)) (λ set. Means system (set ∷ Bs) f)
      (λ U A e. tests_means f false (false ∷ signs) (A ∷ As) (U ∷ Bs) p (turned_more signs false A U As Bs e h)) s l
  tests_means (binding least f) true signs As Bs p h s l = tests_least_not system.states (λ set. holds system (set ∷ As) (positive_form true f)) (body_grows system closed As (positive_form true f)) (λ set. Means system (set ∷ Bs) f)
      (λ U A e. tests_means f true (true ∷ signs) (A ∷ As) (U ∷ Bs) p (turned_more signs true A U As Bs e h)) s l
  tests_means (binding greatest f) true signs As Bs p h s l = tests_greatest_not system.states (λ set. holds system (set ∷ As) (positive_form true f)) (body_grows system closed As (positive_form true f)) (λ set. Means system (set ∷ Bs) f)
      (λ U A e. tests_means f true (true ∷ signs) (A ∷ As) (U ∷ Bs) p (turned_more signs true A U As Bs e h)) s l
  tests_means (bound i) sign signs As Bs p h s l = record { yes_then = λ e. sym same ∙ e; no_then = λ e t. clash (set_of Bs i s) t (sym same ∙ e) }
    where
      same : turned sign (set_of As i s) ≡ set_of Bs i s
      same = rw (h i p.0 s, p.1) (turned-turned sign (set_of Bs i s))

pub positive_form_means_the_same : PositiveFormMeansTheSame
positive_form_means_the_same system f closed p s l = of (tests_means system closed f false [] [] [] p (λ i k. absurd (omega arith)) s l)
  where
    of : Tests (holds system [] (positive_form false f) s) (Means system [] f s) → Satisfies system [] (positive_form false f) s ↔ Means system [] f s
    of h = (λ k. h.yes_then (meaning_holds system closed (positive_form false f) [] s l k), λ k. back k (cases_Bool (holds system [] (positive_form false f) s)))
      where
        back : Means system [] f s → (holds system [] (positive_form false f) s ≡ true) ⊎ (holds system [] (positive_form false f) s ≡ false) → Satisfies system [] (positive_form false f) s
        back k (inl t) = holds_means system closed (positive_form false f) [] s l t
        back k (inr e) = absurd (h.no_then e k)

-- Paths in the language of a regular formula, and a test whether there is one.
use Rattle.std.proofs.Common.{◌≡◌, ℕ, zero, suc, ◌<◌, ◌⊎◌, ◌↔◌, inl, inr, Bool, true, false, not, ◌&&◌, ◌||◌, ◌==◌, List, [], ◌∷◌, ◌++◌, length, map, filter, refl, sym, ◌∙◌, subst, ap, Contains}
use Rattle.std.proofs.lemmas.Bool.{cases_Bool, and_parts, and_from, or_cases, or_left, or_right, eqb-true, eq-eqb}
use Rattle.std.proofs.lemmas.List.Elements.{All-contains}
use Rattle.vpg_hope.proofs.Edges.{Contains-first, Contains-later, Contains-cases, not_in_nil}
use Rattle.vpg_requirement.specs.Actions.{permits}
use Rattle.vpg_requirement.specs.Systems.{Step, PlainSystem, IsClosedSystem, successors}
use Rattle.vpg_requirement.specs.Fixpoints.{StateSet, nothing}
use Rattle.vpg_requirement.specs.Words.{Leads, stay, go}
use Rattle.vpg_requirement.proofs.Evaluation.{any_in, iterate}
use Rattle.vpg_requirement.proofs.Fixpoints.{Grows, least_closed}
use Rattle.vpg_requirement.proofs.Positive.{Tests, tests_any}
use Rattle.vpg_formula.specs.Regular.{Regular, every_action, no_action, action, other_than, both_of, either_of, sequence, choice, repeated, repeated_once}
use Rattle.vpg_meaning.specs.Labels.{admits, name_at, actions_of}
use Rattle.vpg_meaning.specs.Paths.{Word, IsOneOf, Repeats, none_more, one_more, IsIn, IsPath, SomePath, EveryPath, IsStepBy, HasNames}
use Rattle.vpg_meaning.proofs.Labels.{actions_are_admitted}
use Rattle.vpg_meaning.proofs.Plain.{tests_iff, holds_by}

-- ---- what is left of a list behind a test

kept_contains : {X : Type 0} (g : X → ℕ) (test : X → Bool) (xs : List X) (t : ℕ) → Contains (map g (filter test xs)) t → (x : X) × Contains xs x × (test x ≡ true) × (g x ≡ t)
kept_contains g test [] t c = absurd (not_in_nil t c)
kept_contains {X} g test (x ∷ xs) t c = decide (cases_Bool (test x)) (kept_contains g test xs t)
  where
    later : (y : X) × Contains xs y × (test y ≡ true) × (g y ≡ t) → (y : X) × Contains (x ∷ xs) y × (test y ≡ true) × (g y ≡ t)
    later y = (y.0, Contains-later x xs y.0 y.1, y.2, y.3)

    decide : (test x ≡ true) ⊎ (test x ≡ false) → (Contains (map g (filter test xs)) t → (y : X) × Contains xs y × (test y ≡ true) × (g y ≡ t)) → (y : X) × Contains (x ∷ xs) y × (test y ≡ true) × (g y ≡ t)
    decide (inl e) rest = first (Contains-cases (g x) (map g (filter test xs)) t (rw e at c))
      where
        first : (g x ≡ t) ⊎ Contains (map g (filter test xs)) t → (y : X) × Contains (x ∷ xs) y × (test y ≡ true) × (g y ≡ t)
        first (inl same) = (x, Contains-first x xs, e, same)
        first (inr k) = later (rest k)
    decide (inr e) rest = later (rest (rw e at c))

contains_kept : {X : Type 0} (g : X → ℕ) (test : X → Bool) (xs : List X) (x : X) → Contains xs x → test x ≡ true → Contains (map g (filter test xs)) (g x)
contains_kept g test [] x c e = absurd (not_in_nil x c)
contains_kept {X} g test (y ∷ xs) x c e = split (Contains-cases y xs x c) (contains_kept g test xs x) (cases_Bool (test y))
  where
    split : (y ≡ x) ⊎ Contains xs x → (Contains xs x → test x ≡ true → Contains (map g (filter test xs)) (g x)) → (test y ≡ true) ⊎ (test y ≡ false) → Contains (map g (filter test (y ∷ xs))) (g x)
    split (inl same) rest d = rw (subst (λ z. test z ≡ true) (sym same) e) (subst (λ z. Contains (g y ∷ map g (filter test xs)) (g z)) same (Contains-first (g y) (map g (filter test xs))))
    split (inr k) rest (inl t) = rw t (Contains-later (g y) (map g (filter test xs)) (g x) (rest k e))
    split (inr k) rest (inr f) = rw f (rest k e)

module _ (names : List (List ℕ)) (system : PlainSystem) (closed : IsClosedSystem system) (named : HasNames names system) where
  abbrev Is : Word → ℕ → ℕ → Type 0
  Is w s t = IsPath names system s w t

  -- ---- one step

  pub step_iff : (x : Regular) (s t : ℕ) → IsStepBy names system x s t ↔ Contains (successors system (actions_of names x) s) t
  step_iff x s t = (λ step. there step.0 step.1 step.2 step.3 step.4, λ c. back (kept_contains (λ it. it.target) test system.steps t c))
    where
      test : Step → Bool
      test step = (step.source == s) && permits (actions_of names x) step.label

      permitted : (step : Step) → Contains system.steps step → permits (actions_of names x) step.label ≡ admits x (name_at names step.label)
      permitted step c = actions_are_admitted names x step.label (All-contains (λ it. it.label < length names) system.steps step named c)

      there : (step : Step) → Contains system.steps step → step.source ≡ s → step.target ≡ t → admits x (name_at names step.label) ≡ true → Contains (successors system (actions_of names x) s) t
      there step c source target admitted = subst (λ u. Contains (successors system (actions_of names x) s) u) target
          (contains_kept (λ it. it.target) test system.steps step c (and_from (step.source == s) (permits (actions_of names x) step.label) (eq-eqb step.source s source) (permitted step c ∙ admitted)))

      back : (step : Step) × Contains system.steps step × (((step.source == s) && permits (actions_of names x) step.label) ≡ true) × (step.target ≡ t) → IsStepBy names system x s t
      back it = (it.0, it.1, eqb-true it.0.source s (and_parts (it.0.source == s) (permits (actions_of names x) it.0.label) it.2).0, it.3, sym (permitted it.0 it.1) ∙ (and_parts (it.0.source == s) (permits (actions_of names x) it.0.label) it.2).1)

  pub step_inside : (x : Regular) (s t : ℕ) → Contains (successors system (actions_of names x) s) t → t < system.states
  step_inside x s t c = of ((step_iff x s t).1 c)
    where
      of : IsStepBy names system x s t → t < system.states
      of it = subst (λ u. u < system.states) it.3 (All-contains (λ step. step.target < system.states) system.steps it.0 closed it.1)

  -- ---- paths

  pub path_joined : (u v : Word) (s m t : ℕ) → Is u s m → Is v m t → Is (u ++ v) s t
  path_joined [] v s m t p q = subst (λ z. Is v z t) (sym p) q
  path_joined (name ∷ u) v s m t p q = (p.0, p.1, p.2, p.3, path_joined u v p.0.target m t p.4 q)

  pub path_split : (u v : Word) (s t : ℕ) → Is (u ++ v) s t → (m : ℕ) × Is u s m × Is v m t
  path_split [] v s t p = (s, refl, p)
  path_split (name ∷ u) v s t p = of (path_split u v p.0.target t p.4)
    where
      of : (m : ℕ) × Is u p.0.target m × Is v m t → (m : ℕ) × Is (name ∷ u) s m × Is v m t
      of it = (it.0, (p.0, p.1, p.2, p.3, it.1), it.2)

  pub path_inside : (w : Word) (s t : ℕ) → s < system.states → Is w s t → t < system.states
  path_inside [] s t l p = subst (λ u. u < system.states) p l
  path_inside (name ∷ w) s t l p = path_inside w p.0.target t (All-contains (λ step. step.target < system.states) system.steps p.0 closed p.1) p.4

  -- a path of one action is a step
  path_of_step : (x : Regular) (s t : ℕ) → IsStepBy names system x s t → (w : Word) × IsOneOf x w × Is w s t
  path_of_step x s t it = (name_at names it.0.label ∷ [], (name_at names it.0.label, refl, it.4), (it.0, it.1, it.2, refl, it.3))

  step_of_path : (x : Regular) (w : Word) (s t : ℕ) → IsOneOf x w → Is w s t → IsStepBy names system x s t
  step_of_path x w s t one path = of (subst (λ v. Is v s t) one.1 path)
    where
      of : Is (one.0 ∷ []) s t → IsStepBy names system x s t
      of it = (it.0, it.1, it.2, it.4, ap (λ (n : List ℕ). admits x n) it.3 ∙ one.2)

  abbrev Some : Regular → (ℕ → Type 0) → ℕ → Type 0
  Some x P s = SomePath names system x P s

  abbrev Every : Regular → (ℕ → Type 0) → ℕ → Type 0
  Every x P s = EveryPath names system x P s

  pub one_some : (x : Regular) (P : ℕ → Type 0) (s : ℕ) → ((t : ℕ) × Contains (successors system (actions_of names x) s) t × P t) ↔ ((w : Word) × (t : ℕ) × IsOneOf x w × Is w s t × P t)
  one_some x P s = (λ it. there it.0 it.2 (path_of_step x s it.0 ((step_iff x s it.0).1 it.1)), λ it. (it.1, (step_iff x s it.1).0 (step_of_path x it.0 s it.1 it.2 it.3), it.4))
    where
      there : (t : ℕ) → P t → (w : Word) × IsOneOf x w × Is w s t → (w : Word) × (t : ℕ) × IsOneOf x w × Is w s t × P t
      there t p it = (it.0, t, it.1, it.2, p)

  pub one_every : (x : Regular) (P : ℕ → Type 0) (s : ℕ) → ((t : ℕ) → Contains (successors system (actions_of names x) s) t → P t) ↔ ((w : Word) (t : ℕ) → IsOneOf x w → Is w s t → P t)
  one_every x P s = (λ h w t one path. h t ((step_iff x s t).0 (step_of_path x w s t one path)), λ h t c. back h t (path_of_step x s t ((step_iff x s t).1 c)))
    where
      back : ((w : Word) (t : ℕ) → IsOneOf x w → Is w s t → P t) → (t : ℕ) → (w : Word) × IsOneOf x w × Is w s t → P t
      back h t it = h it.0 t it.1 it.2

  -- ---- facts that are equivalent at each state

  pub some_iff : (x : Regular) (P Q : ℕ → Type 0) → ((t : ℕ) → t < system.states → P t ↔ Q t) → (s : ℕ) → s < system.states → Some x P s ↔ Some x Q s
  some_iff x P Q h s l = (λ it. (it.0, it.1, it.2, it.3, (h it.1 (path_inside it.0 s it.1 l it.3)).0 it.4), λ it. (it.0, it.1, it.2, it.3, (h it.1 (path_inside it.0 s it.1 l it.3)).1 it.4))

  pub every_iff : (x : Regular) (P Q : ℕ → Type 0) → ((t : ℕ) → t < system.states → P t ↔ Q t) → (s : ℕ) → s < system.states → Every x P s ↔ Every x Q s
  every_iff x P Q h s l = (λ f w t i p. (h t (path_inside w s t l p)).0 (f w t i p), λ f w t i p. (h t (path_inside w s t l p)).1 (f w t i p))

  -- ---- one word behind another

  module _ (x : Regular) (In : Word → Type 0) (P : ℕ → Type 0) where
    abbrev Behind : ℕ → Type 0
    Behind s = (w : Word) × (t : ℕ) × In w × Is w s t × P t

    abbrev EveryBehind : ℕ → Type 0
    EveryBehind s = (w : Word) (t : ℕ) → In w → Is w s t → P t

    abbrev Joined : Word → Type 0
    Joined w = (u : Word) × (v : Word) × (w ≡ u ++ v) × IsIn x u × In v

    pub some_joined : (s : ℕ) → Some x Behind s ↔ ((w : Word) × (t : ℕ) × Joined w × Is w s t × P t)
    some_joined s = (λ it. there it.0 it.1 it.2 it.3 it.4, λ it. back it.0 it.1 it.2 it.3 it.4)
      where
        there : (u : Word) (m : ℕ) → IsIn x u → Is u s m → Behind m → (w : Word) × (t : ℕ) × Joined w × Is w s t × P t
        there u m i p it = (u ++ it.0, it.1, (u, it.0, refl, i, it.2), path_joined u it.0 s m it.1 p it.3, it.4)

        back : (w : Word) (t : ℕ) → Joined w → Is w s t → P t → Some x Behind s
        back w t j p fact = of (path_split j.0 j.1 s t (subst (λ v. Is v s t) j.2 p))
          where
            of : (m : ℕ) × Is j.0 s m × Is j.1 m t → Some x Behind s
            of it = (j.0, it.0, j.3, it.1, (j.1, t, j.4, it.2, fact))

    pub every_joined : (s : ℕ) → Every x EveryBehind s ↔ ((w : Word) (t : ℕ) → Joined w → Is w s t → P t)
    every_joined s = (λ h w t j p. there h w t j p, λ h u m i p v t j q. h (u ++ v) t (u, v, refl, i, j) (path_joined u v s m t p q))
      where
        there : Every x EveryBehind s → (w : Word) (t : ℕ) → Joined w → Is w s t → P t
        there h w t j p = of (path_split j.0 j.1 s t (subst (λ v. Is v s t) j.2 p))
          where
            of : (m : ℕ) × Is j.0 s m × Is j.1 m t → P t
            of it = h j.0 it.0 j.3 it.1 j.1 t j.4 it.2

  -- ---- words that are repeated

  module _ (x : Regular) (P : ℕ → Type 0) where
    pub some_here : (s : ℕ) → P s → Some (repeated x) P s
    some_here s p = ([], s, none_more refl, refl, p)

    pub some_again : (s : ℕ) → Some x (Some (repeated x) P) s → Some (repeated x) P s
    some_again s it = of it.0 it.1 it.2 it.3 it.4
      where
        of : (u : Word) (m : ℕ) → IsIn x u → Is u s m → Some (repeated x) P m → Some (repeated x) P s
        of u m i p rest = (u ++ rest.0, rest.1, one_more refl i rest.2, path_joined u rest.0 s m rest.1 p rest.3, rest.4)

    pub every_here : (s : ℕ) → Every (repeated x) P s → P s
    every_here s h = h [] s (none_more refl) refl

    pub every_again : (s : ℕ) → Every (repeated x) P s → Every x (Every (repeated x) P) s
    every_again s h u m i p v t j q = h (u ++ v) t (one_more refl i j) (path_joined u v s m t p q)

    -- a set that has the states of P, and those from which a word leads into it, has those from which words do
    pub some_within : (set : StateSet) → ((t : ℕ) → t < system.states → P t ⊎ Some x (λ u. set u ≡ true) t → set t ≡ true) → (w : Word) → Repeats (IsIn x) w → (s t : ℕ) → s < system.states → Is w s t → P t → set s ≡ true
    some_within set within w (none_more e) s t l p fact = within s l (inl (subst P (sym (subst (λ v. Is v s t) e p)) fact))
    some_within set within w (one_more {u = u} {v = v} e i rest) s t l p fact = of (path_split u v s t (subst (λ z. Is z s t) e p)) (some_within set within v rest)
      where
        of : (m : ℕ) × Is u s m × Is v m t → ((s t : ℕ) → s < system.states → Is v s t → P t → set s ≡ true) → set s ≡ true
        of it later = within s l (inr (u, it.0, i, it.1, later it.0 t (path_inside u s it.0 l it.1) it.2 fact))

    -- where a set has states of P alone, from which words lead into it alone, they lead to P
    pub every_within : (set : StateSet) → ((t : ℕ) → t < system.states → set t ≡ true → P t × Every x (λ u. set u ≡ true) t) → (w : Word) → Repeats (IsIn x) w → (s t : ℕ) → s < system.states → set s ≡ true → Is w s t → P t
    every_within set within w (none_more e) s t l has p = subst P (subst (λ v. Is v s t) e p) (within s l has).0
    every_within set within w (one_more {u = u} {v = v} e i rest) s t l has p = of (path_split u v s t (subst (λ z. Is z s t) e p)) (every_within set within v rest)
      where
        of : (m : ℕ) × Is u s m × Is v m t → ((s t : ℕ) → s < system.states → set s ≡ true → Is v s t → P t) → P t
        of it later = later it.0 t (path_inside u s it.0 l it.1) ((within s l has).1 u it.0 i it.1) it.2

  -- ---- a test whether there is such a path

  abbrev pub repeated_in : (StateSet → StateSet) → StateSet → StateSet
  repeated_in F p = iterate (suc system.states) (λ (V : StateSet) s. p s || F V s) nothing

  abbrev pub some_in : Regular → StateSet → StateSet
  some_in every_action p s = any_in p (successors system (actions_of names every_action) s)
  some_in no_action p s = any_in p (successors system (actions_of names no_action) s)
  some_in (action label) p s = any_in p (successors system (actions_of names (action label)) s)
  some_in (other_than x) p s = any_in p (successors system (actions_of names (other_than x)) s)
  some_in (both_of x y) p s = any_in p (successors system (actions_of names (both_of x y)) s)
  some_in (either_of x y) p s = any_in p (successors system (actions_of names (either_of x y)) s)
  some_in (sequence x y) p s = some_in x (some_in y p) s
  some_in (choice x y) p s = some_in x p s || some_in y p s
  some_in (repeated x) p s = repeated_in (some_in x) p s
  some_in (repeated_once x) p s = some_in x (repeated_in (some_in x) p) s

  abbrev AreTests : StateSet → (ℕ → Type 0) → Type 0
  AreTests p P = (t : ℕ) → t < system.states → Tests (p t) (P t)

  itself : (p : StateSet) → AreTests p (λ t. p t ≡ true)
  itself p t l = record { yes_then = λ e. e; no_then = λ e h. not_both e h }
    where
      not_both : p t ≡ false → p t ≡ true → ⊥
      not_both f e = cc

  module _ (x : Regular) (F : StateSet → StateSet) (tested : (p : StateSet) (P : ℕ → Type 0) → AreTests p P → AreTests (F p) (Some x P)) (p : StateSet) (P : ℕ → Type 0) (tests : AreTests p P) where
    abbrev G : StateSet → StateSet
    G V s = p s || F V s

    within_grows : Grows system.states G
    within_grows A B h s l e = split (or_cases (p s) (F A s) e)
      where
        split : (p s ≡ true) ⊎ (F A s ≡ true) → (p s || F B s) ≡ true
        split (inl t) = or_left (p s) (F B s) t
        split (inr t) = or_right (p s) (F B s) (holds_by (F B s) (Some x (λ u. B u ≡ true) s) (tested B (λ u. B u ≡ true) (itself B) s l) (into ((tested A (λ u. A u ≡ true) (itself A) s l).yes_then t)))
          where
            into : Some x (λ u. A u ≡ true) s → Some x (λ u. B u ≡ true) s
            into it = (it.0, it.1, it.2, it.3, h it.1 (path_inside it.0 s it.1 l it.3) it.4)

    reached : (k s : ℕ) → s < system.states → iterate k G nothing s ≡ true → Some (repeated x) P s
    reached zero s l e = absurd (clash e)
      where
        clash : false ≡ true → ⊥
        clash e = cc
    reached (suc k) s l e = split (or_cases (p s) (F (iterate k G nothing) s) e) (reached k)
      where
        split : (p s ≡ true) ⊎ (F (iterate k G nothing) s ≡ true) → ((u : ℕ) → u < system.states → iterate k G nothing u ≡ true → Some (repeated x) P u) → Some (repeated x) P s
        split (inl t) rest = some_here x P s ((tests s l).yes_then t)
        split (inr t) rest = some_again x P s (into ((tested (iterate k G nothing) (λ u. iterate k G nothing u ≡ true) (itself (iterate k G nothing)) s l).yes_then t))
          where
            into : Some x (λ u. iterate k G nothing u ≡ true) s → Some x (Some (repeated x) P) s
            into it = (it.0, it.1, it.2, it.3, rest it.1 (path_inside it.0 s it.1 l it.3) it.4)

    repeated_tests : AreTests (repeated_in F p) (Some (repeated x) P)
    repeated_tests s l = record { yes_then = reached (suc system.states) s l; no_then = λ e it. clash e (some_within x P (iterate (suc system.states) G nothing) has it.0 it.2 s it.1 l it.3 it.4) }
      where
        clash : iterate (suc system.states) G nothing s ≡ false → iterate (suc system.states) G nothing s ≡ true → ⊥
        clash f e = cc

        has : (t : ℕ) → t < system.states → P t ⊎ Some x (λ u. iterate (suc system.states) G nothing u ≡ true) t → iterate (suc system.states) G nothing t ≡ true
        has t k (inl fact) = least_closed system.states G within_grows t k (or_left (p t) (F (iterate (suc system.states) G nothing) t) (holds_by (p t) (P t) (tests t k) fact))
        has t k (inr it) = least_closed system.states G within_grows t k (or_right (p t) (F (iterate (suc system.states) G nothing) t) (holds_by (F (iterate (suc system.states) G nothing) t) (Some x (λ u. iterate (suc system.states) G nothing u ≡ true) t)
            (tested (iterate (suc system.states) G nothing) (λ u. iterate (suc system.states) G nothing u ≡ true) (itself (iterate (suc system.states) G nothing)) t k) it))

  one_tests : (x : Regular) (p : StateSet) (P : ℕ → Type 0) → AreTests p P → (s : ℕ) → s < system.states → Tests (any_in p (successors system (actions_of names x) s)) ((w : Word) × (t : ℕ) × IsOneOf x w × Is w s t × P t)
  one_tests x p P tests s l = tests_iff _ _ _ (one_some x P s) (tests_any p P (successors system (actions_of names x) s) (λ t c. tests t (step_inside x s t c)))

  either_tests : (a b : Bool) (x y : Regular) (P : ℕ → Type 0) (s : ℕ) → Tests a (Some x P s) → Tests b (Some y P s) → Tests (a || b) (Some (choice x y) P s)
  either_tests true b x y P s h k = record { yes_then = λ e. of (h.yes_then refl); no_then = λ e. absurd (clash e) }
    where
      of : Some x P s → Some (choice x y) P s
      of it = (it.0, it.1, inl it.2, it.3, it.4)

      clash : true ≡ false → ⊥
      clash e = cc
  either_tests false b x y P s h k = record { yes_then = λ e. of (k.yes_then e); no_then = λ e it. not_there e it.0 it.1 it.2 it.3 it.4 }
    where
      of : Some y P s → Some (choice x y) P s
      of it = (it.0, it.1, inr it.2, it.3, it.4)

      not_there : b ≡ false → (w : Word) (t : ℕ) → IsIn x w ⊎ IsIn y w → Is w s t → P t → ⊥
      not_there e w t (inl i) p fact = h.no_then refl (w, t, i, p, fact)
      not_there e w t (inr i) p fact = k.no_then e (w, t, i, p, fact)

  pub some_tests : (x : Regular) (p : StateSet) (P : ℕ → Type 0) → AreTests p P → AreTests (some_in x p) (Some x P)
  some_tests every_action p P tests s l = one_tests every_action p P tests s l
  some_tests no_action p P tests s l = one_tests no_action p P tests s l
  some_tests (action label) p P tests s l = one_tests (action label) p P tests s l
  some_tests (other_than x) p P tests s l = one_tests (other_than x) p P tests s l
  some_tests (both_of x y) p P tests s l = one_tests (both_of x y) p P tests s l
  some_tests (either_of x y) p P tests s l = one_tests (either_of x y) p P tests s l
  some_tests (sequence x y) p P tests s l = tests_iff _ _ _ (some_joined x (IsIn y) P s) (some_tests x (some_in y p) (Some y P) (some_tests y p P tests) s l)
  some_tests (choice x y) p P tests s l = either_tests _ _ x y P s (some_tests x p P tests s l) (some_tests y p P tests s l)
  some_tests (repeated x) p P tests s l = repeated_tests x (some_in x) (some_tests x) p P tests s l
  some_tests (repeated_once x) p P tests s l = tests_iff _ _ _ (some_joined x (Repeats (IsIn x)) P s)
      (some_tests x (repeated_in (some_in x) p) (Some (repeated x) P) (repeated_tests x (some_in x) (some_tests x) p P tests) s l)

  -- and whether all lead there
  pub every_tests : (x : Regular) (p : StateSet) (P : ℕ → Type 0) → AreTests p P → AreTests (λ s. not (some_in x (λ t. not (p t)) s)) (Every x P)
  every_tests x p P tests s l = record { yes_then = λ e w t i q. fact e w t i q (cases_Bool (p t)); no_then = λ e h. wrong h (found.yes_then (turned (some_in x (λ t. not (p t)) s) e)) }
    where
      opposite : AreTests (λ t. not (p t)) (λ t. P t → ⊥)
      opposite t k = of (p t) (tests t k)
        where
          of : (b : Bool) → Tests b (P t) → Tests (not b) (P t → ⊥)
          of true h = record { yes_then = λ e. absurd (clash e); no_then = λ e none. none (h.yes_then refl) }
            where
              clash : false ≡ true → ⊥
              clash e = cc
          of false h = record { yes_then = λ e. h.no_then refl; no_then = λ e. absurd (clash e) }
            where
              clash : true ≡ false → ⊥
              clash e = cc

      found : Tests (some_in x (λ t. not (p t)) s) (Some x (λ t. P t → ⊥) s)
      found = some_tests x (λ t. not (p t)) (λ t. P t → ⊥) opposite s l

      turned : (b : Bool) → not b ≡ false → b ≡ true
      turned true e = refl
      turned false e = sym e

      straight : (b : Bool) → not b ≡ true → b ≡ false
      straight true e = sym e
      straight false e = refl

      wrong : Every x P s → Some x (λ t. P t → ⊥) s → ⊥
      wrong h it = it.4 (h it.0 it.1 it.2 it.3)

      fact : not (some_in x (λ t. not (p t)) s) ≡ true → (w : Word) (t : ℕ) → IsIn x w → Is w s t → (p t ≡ true) ⊎ (p t ≡ false) → P t
      fact e w t i q (inl d) = (tests t (path_inside w s t l q)).yes_then d
      fact e w t i q (inr d) = absurd (found.no_then (straight (some_in x (λ t. not (p t)) s) e) (w, t, i, q, (tests t (path_inside w s t l q)).no_then d))

  -- ---- what can be reached

  leads_of_path : (w : Word) → Repeats (IsIn every_action) w → (s t : ℕ) → Is w s t → Leads system s t
  leads_of_path w (none_more e) s t p = subst (λ u. Leads system s u) (subst (λ v. Is v s t) e p) stay
  leads_of_path w (one_more {u = u} {v = v} e i rest) s t p = of (path_split u v s t (subst (λ z. Is z s t) e p)) (leads_of_path v rest)
    where
      of : (m : ℕ) × Is u s m × Is v m t → ((s t : ℕ) → Is v s t → Leads system s t) → Leads system s t
      of it later = go ((step_iff every_action s it.0).0 (step_of_path every_action u s it.0 i it.1)) (later it.0 t it.2)

  path_of_leads : (s t : ℕ) → Leads system s t → (w : Word) × Repeats (IsIn every_action) w × Is w s t
  path_of_leads s t stay = ([], none_more refl, refl)
  path_of_leads s t (go {t = u} c rest) = of (path_of_step every_action s u ((step_iff every_action s u).1 c)) (path_of_leads u t rest)
    where
      of : (w : Word) × IsOneOf every_action w × Is w s u → (w : Word) × Repeats (IsIn every_action) w × Is w u t → (w : Word) × Repeats (IsIn every_action) w × Is w s t
      of first later = (first.0 ++ later.0, one_more refl first.1 later.1, path_joined first.0 later.0 s u t first.2 later.2)

  pub leads_inside : (s t : ℕ) → s < system.states → Leads system s t → t < system.states
  leads_inside s t l stay = l
  leads_inside s t l (go {t = u} c rest) = leads_inside u t (step_inside every_action s u c) rest

  pub leads_some : (P : ℕ → Type 0) (s : ℕ) → Some (repeated every_action) P s ↔ ((t : ℕ) × Leads system s t × P t)
  leads_some P s = (λ it. (it.1, leads_of_path it.0 it.2 s it.1 it.3, it.4), λ it. back it.0 it.2 (path_of_leads s it.0 it.1))
    where
      back : (t : ℕ) → P t → (w : Word) × Repeats (IsIn every_action) w × Is w s t → Some (repeated every_action) P s
      back t fact it = (it.0, t, it.1, it.2, fact)

  pub leads_every : (P : ℕ → Type 0) (s : ℕ) → Every (repeated every_action) P s ↔ ((t : ℕ) → Leads system s t → P t)
  leads_every P s = (λ h t r. there h t (path_of_leads s t r), λ h w t i p. h t (leads_of_path w i s t p))
    where
      there : Every (repeated every_action) P s → (t : ℕ) → (w : Word) × Repeats (IsIn every_action) w × Is w s t → P t
      there h t it = h it.0 t it.1 it.2

-- Words in front of a formula say what they say, also inside fixpoints.
use Rattle.std.proofs.Common.{◌≡◌, ℕ, suc, ◌<◌, ◌⊎◌, ◌↔◌, inl, inr, true, false, not, List, refl, Contains, arith}
use Rattle.vpg_requirement.specs.Actions as numbered
use Rattle.vpg_requirement.specs.Systems.{PlainSystem, IsClosedSystem, successors}
use Rattle.vpg_requirement.specs.Fixpoints.{least, StateSet, nothing}
use Rattle.vpg_requirement.specs.Formulas.{Formula, everywhere, negation, box, Means}
use Rattle.vpg_requirement.specs.Words as words
use Rattle.vpg_requirement.specs.Words.{IsNext, Leads, ComesTo, come, later, ComesToAction, WordsMean}
use Rattle.vpg_requirement.proofs.Evaluation.{all_in, iterate, successor_inside}
use Rattle.vpg_requirement.proofs.Positive.{Tests, tests_not, tests_all}
use Rattle.vpg_requirement.proofs.Worded.{iff_trans, inevitably_body, inevitably_to, inevitably_from, coming_map, words_mean}
use Rattle.vpg_formula.specs.Regular.{Regular, every_action, other_than, repeated}
use Rattle.vpg_formula.specs.Written.{Prefix, negated, some_path, every_path, always, never, possibly, inevitably, again_and_again, after}
use Rattle.vpg_meaning.specs.Labels.{actions_of}
use Rattle.vpg_meaning.specs.Paths as paths
use Rattle.vpg_meaning.specs.Paths.{IsStepBy, ComesToStep, HasNames}
use Rattle.vpg_meaning.specs.Translation.{formula_behind}
use Rattle.vpg_meaning.specs.Meaning.{SaysBehind}
use Rattle.vpg_meaning.proofs.Plain.{iff_refl, iff_not, iff_or, holds_by, fixpoint_iff}
use Rattle.vpg_meaning.proofs.Substitution.{shifted_means, alone_means}
use Rattle.vpg_meaning.proofs.Paths.{step_iff, step_inside, some_iff, every_iff, leads_inside, leads_some, leads_every}
use Rattle.vpg_meaning.proofs.Modalities.{diamond_law, box_law}

module _ (names : List (List ℕ)) (system : PlainSystem) (closed : IsClosedSystem system) (named : HasNames names system) where
  abbrev AreTests : StateSet → (ℕ → Type 0) → Type 0
  AreTests p P = (t : ℕ) → t < system.states → Tests (p t) (P t)

  abbrev next : ℕ → List ℕ
  next s = successors system numbered.every_action s

  -- ---- each run comes there

  come_within : (P : ℕ → Type 0) (set : StateSet) → ((t : ℕ) → t < system.states → P t ⊎ (((u : ℕ) × Contains (next t) u × Unit {0}) × ((u : ℕ) → Contains (next t) u → set u ≡ true)) → set t ≡ true) → (s : ℕ) → s < system.states → ComesTo system P s → set s ≡ true
  come_within P set within s l (come fact) = within s l (inl fact)
  come_within P set within s l (later some rest) = within s l (inr ((some.0, some.1, tt), λ t c. come_within P set within t (successor_inside system closed numbered.every_action s t c) (rest t c)))

  coming_in : StateSet → StateSet
  coming_in p = iterate (suc system.states) (inevitably_body system closed p) nothing

  coming_closed : (p : StateSet) (P : ℕ → Type 0) → AreTests p P → (t : ℕ) → t < system.states → P t ⊎ (((u : ℕ) × Contains (next t) u × Unit {0}) × ((u : ℕ) → Contains (next t) u → coming_in p u ≡ true)) → coming_in p t ≡ true
  unfolding coming_in
  coming_closed p P tests t k (inl fact) = inevitably_from system closed p t k (come (holds_by (p t) (P t) (tests t k) fact))
  coming_closed p P tests t k (inr it) = inevitably_from system closed p t k (later (it.0.0, it.0.1) (λ u c. inevitably_to system closed p (suc system.states) u (it.1 u c)))

  coming_tests : (p : StateSet) (P : ℕ → Type 0) → AreTests p P → AreTests (coming_in p) (ComesTo system P)
  unfolding coming_in
  coming_tests p P tests s l = record {
    yes_then = λ e. coming_map system closed (λ t. p t ≡ true) P (λ t k. (tests t k).yes_then) s l (inevitably_to system closed p (suc system.states) s e);
    no_then = λ e c. clash e (come_within P (coming_in p) (coming_closed p P tests) s l c);
  }
    where
      clash : coming_in p s ≡ false → coming_in p s ≡ true → ⊥
      clash f e = cc

  inevitably_law : (sets : List StateSet) (f : Formula) (p : StateSet) → AreTests p (Means system sets f) → (s : ℕ) → s < system.states → Means system sets (words.inevitably f) s ↔ ComesTo system (Means system sets f) s
  inevitably_law sets f p tests s l = iff_trans
      (fixpoint_iff least system.states _ (λ set t. Means system sets f t ⊎ (((u : ℕ) × Contains (next t) u × Unit {0}) × ((u : ℕ) → Contains (next t) u → set u ≡ true)))
      (λ set t k. iff_or (shifted_means system f 0 set sets (omega arith) t) iff_refl) s)
      (λ h. (coming_tests p (Means system sets f) tests s l).yes_then (h (coming_in p) (coming_closed p (Means system sets f) tests)), λ c set within. come_within (Means system sets f) set within s l c)

  -- ---- what can be reached

  always_law : (sets : List StateSet) (f : Formula) (p : StateSet) → AreTests p (Means system sets f) → (s : ℕ) → s < system.states → Means system sets (words.always f) s ↔ ((t : ℕ) → Leads system s t → Means system sets f t)
  always_law sets f p tests s l = iff_trans (box_law names system closed named (repeated every_action) sets f p tests s l) (leads_every names system closed named (Means system sets f) s)

  possibly_law : (sets : List StateSet) (f : Formula) (p : StateSet) → AreTests p (Means system sets f) → (s : ℕ) → s < system.states → Means system sets (words.possibly f) s ↔ ((t : ℕ) × Leads system s t × Means system sets f t)
  possibly_law sets f p tests s l = iff_trans (diamond_law names system closed named (repeated every_action) sets f p tests s l) (leads_some names system closed named (Means system sets f) s)

  never_law : (sets : List StateSet) (f : Formula) (p : StateSet) → AreTests p (Means system sets f) → (s : ℕ) → s < system.states → Means system sets (words.never f) s ↔ ((t : ℕ) → Leads system s t → Means system sets f t → ⊥)
  never_law sets f p tests s l = always_law sets (negation f) (λ t. not (p t)) (λ t k. tests_not (p t) (Means system sets f t) (tests t k)) s l

  again_law : (sets : List StateSet) (f : Formula) (p : StateSet) → AreTests p (Means system sets f) → (s : ℕ) → s < system.states → Means system sets (words.again_and_again f) s ↔ ((t : ℕ) → Leads system s t → ComesTo system (Means system sets f) t)
  again_law sets f p tests s l = iff_trans
      (always_law sets (words.inevitably f) (coming_in p) (λ t k. of t k (inevitably_law sets f p tests t k) (coming_tests p (Means system sets f) tests t k)) s l)
      (λ h t r. (inevitably_law sets f p tests t (leads_inside names system closed named s t l r)).0 (h t r), λ h t r. (inevitably_law sets f p tests t (leads_inside names system closed named s t l r)).1 (h t r))
    where
      of : (t : ℕ) → t < system.states → Means system sets (words.inevitably f) t ↔ ComesTo system (Means system sets f) t → Tests (coming_in p t) (ComesTo system (Means system sets f) t) → Tests (coming_in p t) (Means system sets (words.inevitably f) t)
      of t k h tests = record { yes_then = λ e. h.1 (tests.yes_then e); no_then = λ e m. tests.no_then e (h.0 m) }

  after_law : (sets : List StateSet) (x : Regular) (f : Formula) (p : StateSet) → AreTests p (Means system sets f) → (s : ℕ) → s < system.states → Means system sets (words.after (actions_of names x) f) s ↔ ((t u : ℕ) → Leads system s t → IsStepBy names system x t u → Means system sets f u)
  after_law sets x f p tests s l = iff_trans
      (always_law sets (box (actions_of names x) f) (λ t. all_in p (successors system (actions_of names x) t)) (λ t k. tests_all p (Means system sets f) (successors system (actions_of names x) t) (λ u c. tests u (step_inside names system closed named x t u c))) s l)
      (λ h t u r step. h t r u ((step_iff names system closed named x t u).0 step), λ h t r u c. h t u r ((step_iff names system closed named x t u).1 c))

  -- ---- words that stand alone

  pub can_law : (sets : List StateSet) (x : Regular) (s : ℕ) → Means system sets (words.can (actions_of names x)) s ↔ ((t : ℕ) × IsStepBy names system x s t)
  can_law sets x s = (λ m. (m.0, (step_iff names system closed named x s m.0).1 m.1), λ it. (it.0, (step_iff names system closed named x s it.0).0 it.1, tt))

  said_alone : (x : Regular) (s : ℕ) → s < system.states → WordsMean system everywhere (actions_of names x) s
  said_alone x s l = words_mean system closed everywhere (actions_of names x) tt s l

  coming_there : (x : Regular) (s : ℕ) → ComesToAction system (actions_of names x) s → ComesToStep names system x s
  coming_there x s (words.forced some rest) = paths.forced some (λ t step. coming_there x t (rest t ((step_iff names system closed named (other_than x) s t).0 step)))

  coming_back : (x : Regular) (s : ℕ) → ComesToStep names system x s → ComesToAction system (actions_of names x) s
  coming_back x s (paths.forced some rest) = words.forced some (λ t c. coming_back x t (rest t ((step_iff names system closed named (other_than x) s t).1 c)))

  pub will_law : (sets : List StateSet) (x : Regular) (s : ℕ) → s < system.states → Means system sets (words.will (actions_of names x)) s ↔ ComesToStep names system x s
  will_law sets x s l = iff_trans (alone_means system sets false (words.will (actions_of names x)) (tt, (omega arith, refl)) s)
      (iff_trans (said_alone x s l).will_means (coming_there x s, coming_back x s))

  pub deadlock_law : (sets : List StateSet) (s : ℕ) → s < system.states → Means system sets words.deadlock_free s ↔ ((t : ℕ) → Leads system s t → (u : ℕ) × IsNext system t u)
  deadlock_law sets s l = iff_trans (alone_means system sets false words.deadlock_free (tt, (omega arith, refl)) s) (said_alone every_action s l).deadlock_free_means

  -- ---- what stands in front of a formula

  pub behind_law : (prefix : Prefix) (sets : List StateSet) (f : Formula) (p : StateSet) → AreTests p (Means system sets f) → (S : ℕ → Type 0) → ((t : ℕ) → t < system.states → Means system sets f t ↔ S t) → (s : ℕ) → s < system.states → Means system sets (formula_behind names prefix f) s ↔ SaysBehind names system prefix S s
  behind_law negated sets f p tests S h s l = iff_not (h s l)
  behind_law (some_path x) sets f p tests S h s l = iff_trans (diamond_law names system closed named x sets f p tests s l) (some_iff names system closed named x (Means system sets f) S h s l)
  behind_law (every_path x) sets f p tests S h s l = iff_trans (box_law names system closed named x sets f p tests s l) (every_iff names system closed named x (Means system sets f) S h s l)
  behind_law always sets f p tests S h s l = iff_trans (always_law sets f p tests s l)
      (λ k t r. (h t (leads_inside names system closed named s t l r)).0 (k t r), λ k t r. (h t (leads_inside names system closed named s t l r)).1 (k t r))
  behind_law never sets f p tests S h s l = iff_trans (never_law sets f p tests s l)
      (λ k t r fact. k t r ((h t (leads_inside names system closed named s t l r)).1 fact), λ k t r fact. k t r ((h t (leads_inside names system closed named s t l r)).0 fact))
  behind_law possibly sets f p tests S h s l = iff_trans (possibly_law sets f p tests s l)
      (λ it. (it.0, it.1, (h it.0 (leads_inside names system closed named s it.0 l it.1)).0 it.2), λ it. (it.0, it.1, (h it.0 (leads_inside names system closed named s it.0 l it.1)).1 it.2))
  behind_law inevitably sets f p tests S h s l = iff_trans (inevitably_law sets f p tests s l)
      (coming_map system closed (Means system sets f) S (λ t k. (h t k).0) s l, coming_map system closed S (Means system sets f) (λ t k. (h t k).1) s l)
  behind_law again_and_again sets f p tests S h s l = iff_trans (again_law sets f p tests s l) (
    λ k t r. coming_map system closed (Means system sets f) S (λ u j. (h u j).0) t (leads_inside names system closed named s t l r) (k t r),
    λ k t r. coming_map system closed S (Means system sets f) (λ u j. (h u j).1) t (leads_inside names system closed named s t l r) (k t r),
  )
  behind_law (after x) sets f p tests S h s l = iff_trans (after_law sets x f p tests s l)
      (λ k t u r step. (h u (inside t u step)).0 (k t u r step), λ k t u r step. (h u (inside t u step)).1 (k t u r step))
    where
      inside : (t u : ℕ) → IsStepBy names system x t u → u < system.states
      inside t u step = step_inside names system closed named x t u ((step_iff names system closed named x t u).0 step)

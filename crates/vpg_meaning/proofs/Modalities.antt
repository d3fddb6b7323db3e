-- Modalities over regular formulas speak of paths, also inside fixpoints.
use Rattle.std.proofs.Common.{◌≡◌, ℕ, zero, suc, ◌<◌, ◌⊎◌, ◌↔◌, inl, inr, Bool, true, false, not, List, [], ◌∷◌, length, get_or, refl, arith}
use Rattle.vpg_requirement.specs.Systems.{PlainSystem, IsClosedSystem}
use Rattle.vpg_requirement.specs.Fixpoints.{least, greatest, StateSet, set_of, HoldsAtFixpoint}
use Rattle.vpg_requirement.specs.Formulas.{Formula, bound, Means, IsPositive}
use Rattle.vpg_requirement.specs.NormalForms.{positive_form}
use Rattle.vpg_requirement.proofs.Evaluation.{holds}
use Rattle.vpg_requirement.proofs.Positive.{turned, Tests, tests_means}
use Rattle.vpg_requirement.proofs.Worded.{raised_positive, iff_trans, iff_sym}
use Rattle.vpg_formula.specs.Regular.{Regular, every_action, no_action, action, other_than, both_of, either_of, sequence, choice, repeated, repeated_once}
use Rattle.vpg_meaning.specs.Paths.{Word, IsIn, IsPath, SomePath, EveryPath, HasNames}
use Rattle.vpg_meaning.specs.Translation.{diamond_along, box_along}
use Rattle.vpg_meaning.specs.Laws.{DiamondMeansSomePath, BoxMeansEveryPath}
use Rattle.vpg_meaning.proofs.Plain.{iff_and, iff_or, tests_iff, tests_itself, holds_by, fixpoint_iff}
use Rattle.vpg_meaning.proofs.Substitution.{shifted_means}
use Rattle.vpg_meaning.proofs.Paths.{one_some, one_every, some_iff, every_iff, some_joined, every_joined, some_here, some_again, every_here, every_again, some_within, every_within, some_in, some_tests, every_tests}

-- ---- a positive formula is decided

turned_sets : List Bool → List StateSet → List StateSet
turned_sets [] sets = []
turned_sets (sign ∷ signs) [] = (λ s. turned sign false) ∷ turned_sets signs []
turned_sets (sign ∷ signs) (set ∷ sets) = (λ s. turned sign (set s)) ∷ turned_sets signs sets

are_turned : (signs : List Bool) (sets : List StateSet) (i : ℕ) → i < length signs → (s : ℕ) → set_of (turned_sets signs sets) i s ≡ turned (get_or signs i false) (set_of sets i s)
unfolding turned_sets
are_turned [] sets i l s = absurd (omega arith)
are_turned (sign ∷ signs) [] zero l s = refl
are_turned (sign ∷ signs) [] (suc i) l s = are_turned signs [] i (omega arith) s
are_turned (sign ∷ signs) (set ∷ sets) zero l s = refl
are_turned (sign ∷ signs) (set ∷ sets) (suc i) l s = are_turned signs sets i (omega arith) s

pub decision : PlainSystem → List Bool → Bool → List StateSet → Formula → StateSet
decision system signs sign sets f s = turned sign (holds system (turned_sets signs sets) (positive_form sign f) s)

pub decided : (system : PlainSystem) → IsClosedSystem system → (signs : List Bool) (sign : Bool) (f : Formula) → IsPositive signs sign f → (sets : List StateSet) (s : ℕ) → s < system.states → Tests (decision system signs sign sets f s) (Means system sets f s)
unfolding decision
decided system closed signs sign f p sets s l = tests_means system closed f sign signs (turned_sets signs sets) sets p (are_turned signs sets) s l

-- ---- modalities stay positive

pub diamond_positive : (names : List (List ℕ)) (x : Regular) (f : Formula) (sign : Bool) (signs : List Bool) → IsPositive signs sign f → IsPositive signs sign (diamond_along names x f)
diamond_positive names every_action f sign signs p = p
diamond_positive names no_action f sign signs p = p
diamond_positive names (action label) f sign signs p = p
diamond_positive names (other_than x) f sign signs p = p
diamond_positive names (both_of x y) f sign signs p = p
diamond_positive names (either_of x y) f sign signs p = p
diamond_positive names (sequence x y) f sign signs p = diamond_positive names x (diamond_along names y f) sign signs (diamond_positive names y f sign signs p)
diamond_positive names (choice x y) f sign signs p = (diamond_positive names x f sign signs p, diamond_positive names y f sign signs p)
diamond_positive names (repeated x) f sign signs p = (raised_positive f sign sign 0 signs (omega arith) p, diamond_positive names x (bound 0) sign (sign ∷ signs) (omega arith, refl))
diamond_positive names (repeated_once x) f sign signs p = diamond_positive names x _ sign signs (raised_positive f sign sign 0 signs (omega arith) p, diamond_positive names x (bound 0) sign (sign ∷ signs) (omega arith, refl))

pub box_positive : (names : List (List ℕ)) (x : Regular) (f : Formula) (sign : Bool) (signs : List Bool) → IsPositive signs sign f → IsPositive signs sign (box_along names x f)
box_positive names every_action f sign signs p = p
box_positive names no_action f sign signs p = p
box_positive names (action label) f sign signs p = p
box_positive names (other_than x) f sign signs p = p
box_positive names (both_of x y) f sign signs p = p
box_positive names (either_of x y) f sign signs p = p
box_positive names (sequence x y) f sign signs p = box_positive names x (box_along names y f) sign signs (box_positive names y f sign signs p)
box_positive names (choice x y) f sign signs p = (box_positive names x f sign signs p, box_positive names y f sign signs p)
box_positive names (repeated x) f sign signs p = (raised_positive f sign sign 0 signs (omega arith) p, box_positive names x (bound 0) sign (sign ∷ signs) (omega arith, refl))
box_positive names (repeated_once x) f sign signs p = box_positive names x _ sign signs (raised_positive f sign sign 0 signs (omega arith) p, box_positive names x (bound 0) sign (sign ∷ signs) (omega arith, refl))

-- ---- they mean paths

module _ (names : List (List ℕ)) (system : PlainSystem) (closed : IsClosedSystem system) (named : HasNames names system) where
  abbrev Some : Regular → (ℕ → Type 0) → ℕ → Type 0
  Some x P s = SomePath names system x P s

  abbrev Every : Regular → (ℕ → Type 0) → ℕ → Type 0
  Every x P s = EveryPath names system x P s

  abbrev AreTests : StateSet → (ℕ → Type 0) → Type 0
  AreTests p P = (t : ℕ) → t < system.states → Tests (p t) (P t)

  abbrev DiamondLaw : Regular → Type 0
  DiamondLaw x = (sets : List StateSet) (f : Formula) (p : StateSet) → AreTests p (Means system sets f) → (s : ℕ) → s < system.states → Means system sets (diamond_along names x f) s ↔ Some x (Means system sets f) s

  abbrev BoxLaw : Regular → Type 0
  BoxLaw x = (sets : List StateSet) (f : Formula) (p : StateSet) → AreTests p (Means system sets f) → (s : ℕ) → s < system.states → Means system sets (box_along names x f) s ↔ Every x (Means system sets f) s

  abbrev some_set : Regular → StateSet → StateSet
  some_set x p = some_in names system closed named (repeated x) p

  abbrev every_set : Regular → StateSet → StateSet
  every_set x p t = not (some_in names system closed named (repeated x) (λ u. not (p u)) t)

  some_least : (x : Regular) (p : StateSet) (P : ℕ → Type 0) → AreTests p P → (s : ℕ) → s < system.states → HoldsAtFixpoint least system.states (λ set t. P t ⊎ Some x (λ u. set u ≡ true) t) s ↔ Some (repeated x) P s
  some_least x p P tests s l = (λ h. (tested s l).yes_then (h (some_set x p) into), λ it set has. some_within names system closed named x P set has it.0 it.2 s it.1 l it.3 it.4)
    where
      tested : AreTests (some_set x p) (Some (repeated x) P)
      tested = some_tests names system closed named (repeated x) p P tests

      into : (t : ℕ) → t < system.states → P t ⊎ Some x (λ u. some_set x p u ≡ true) t → some_set x p t ≡ true
      into t k (inl fact) = holds_by (some_set x p t) (Some (repeated x) P t) (tested t k) (some_here names system closed named x P t fact)
      into t k (inr it) = holds_by (some_set x p t) (Some (repeated x) P t) (tested t k) (some_again names system closed named x P t
          ((some_iff names system closed named x (λ u. some_set x p u ≡ true) (Some (repeated x) P) (λ u j. ((tested u j).yes_then, holds_by (some_set x p u) (Some (repeated x) P u) (tested u j))) t k).0 it))

  every_greatest : (x : Regular) (p : StateSet) (P : ℕ → Type 0) → AreTests p P → (s : ℕ) → s < system.states → HoldsAtFixpoint greatest system.states (λ set t. P t × Every x (λ u. set u ≡ true) t) s ↔ Every (repeated x) P s
  every_greatest x p P tests s l = (λ h w t i q. every_within names system closed named x P h.0 h.1 w i s t l h.2 q, λ h. (every_set x p, into, holds_by (every_set x p s) (Every (repeated x) P s) (tested s l) h))
    where
      tested : AreTests (every_set x p) (Every (repeated x) P)
      tested = every_tests names system closed named (repeated x) p P tests

      into : (t : ℕ) → t < system.states → every_set x p t ≡ true → P t × Every x (λ u. every_set x p u ≡ true) t
      into t k e = (
        every_here names system closed named x P t ((tested t k).yes_then e),
        (every_iff names system closed named x (Every (repeated x) P) (λ u. every_set x p u ≡ true) (λ u j. (holds_by (every_set x p u) (Every (repeated x) P u) (tested u j), (tested u j).yes_then)) t k).0 (every_again names system closed named x P t ((tested t k).yes_then e)),
      )

  star_diamond : (x : Regular) → DiamondLaw x → DiamondLaw (repeated x)
  star_diamond x law sets f p tests s l = iff_trans
      (fixpoint_iff least system.states _ (λ set t. Means system sets f t ⊎ Some x (λ u. set u ≡ true) t)
      (λ set t k. iff_or (shifted_means system f 0 set sets (omega arith) t) (law (set ∷ sets) (bound 0) set (λ u j. tests_itself (set u)) t k)) s)
      (some_least x p (Means system sets f) tests s l)

  star_box : (x : Regular) → BoxLaw x → BoxLaw (repeated x)
  star_box x law sets f p tests s l = iff_trans
      (fixpoint_iff greatest system.states _ (λ set t. Means system sets f t × Every x (λ u. set u ≡ true) t)
      (λ set t k. iff_and (shifted_means system f 0 set sets (omega arith) t) (law (set ∷ sets) (bound 0) set (λ u j. tests_itself (set u)) t k)) s)
      (every_greatest x p (Means system sets f) tests s l)

  -- one modality behind another
  then_diamond : (x y : Regular) (F : Formula → Formula) → DiamondLaw x → ((sets : List StateSet) (f : Formula) (p : StateSet) → AreTests p (Means system sets f) → (s : ℕ) → s < system.states → Means system sets (F f) s ↔ Some y (Means system sets f) s) →
      (sets : List StateSet) (f : Formula) (p : StateSet) → AreTests p (Means system sets f) → (s : ℕ) → s < system.states → Means system sets (diamond_along names x (F f)) s ↔ Some (sequence x y) (Means system sets f) s
  then_diamond x y F first later sets f p tests s l = iff_trans
      (first sets (F f) (some_in names system closed named y p) (λ t k. tests_iff _ _ _ (iff_sym (later sets f p tests t k)) (some_tests names system closed named y p (Means system sets f) tests t k)) s l)
      (iff_trans (some_iff names system closed named x (Means system sets (F f)) (Some y (Means system sets f)) (later sets f p tests) s l) (some_joined names system closed named x (IsIn y) (Means system sets f) s))

  then_box : (x y : Regular) (F : Formula → Formula) → BoxLaw x → ((sets : List StateSet) (f : Formula) (p : StateSet) → AreTests p (Means system sets f) → (s : ℕ) → s < system.states → Means system sets (F f) s ↔ Every y (Means system sets f) s) →
      (sets : List StateSet) (f : Formula) (p : StateSet) → AreTests p (Means system sets f) → (s : ℕ) → s < system.states → Means system sets (box_along names x (F f)) s ↔ Every (sequence x y) (Means system sets f) s
  then_box x y F first later sets f p tests s l = iff_trans
      (first sets (F f) (λ t. not (some_in names system closed named y (λ u. not (p u)) t)) (λ t k. tests_iff _ _ _ (iff_sym (later sets f p tests t k)) (every_tests names system closed named y p (Means system sets f) tests t k)) s l)
      (iff_trans (every_iff names system closed named x (Means system sets (F f)) (Every y (Means system sets f)) (later sets f p tests) s l) (every_joined names system closed named x (IsIn y) (Means system sets f) s))

  some_either : (x y : Regular) (P : ℕ → Type 0) (s : ℕ) → (Some x P s ⊎ Some y P s) ↔ Some (choice x y) P s
  some_either x y P s = (there, λ it. back it.0 it.1 it.2 it.3 it.4)
    where
      there : Some x P s ⊎ Some y P s → Some (choice x y) P s
      there (inl it) = (it.0, it.1, inl it.2, it.3, it.4)
      there (inr it) = (it.0, it.1, inr it.2, it.3, it.4)

      back : (w : Word) (t : ℕ) → IsIn x w ⊎ IsIn y w → IsPath names system s w t → P t → Some x P s ⊎ Some y P s
      back w t (inl i) p fact = inl (w, t, i, p, fact)
      back w t (inr i) p fact = inr (w, t, i, p, fact)

  every_either : (x y : Regular) (P : ℕ → Type 0) (s : ℕ) → (Every x P s × Every y P s) ↔ Every (choice x y) P s
  every_either x y P s = (λ h w t i p. there h w t i p, λ h. (λ w t i p. h w t (inl i) p, λ w t i p. h w t (inr i) p))
    where
      there : Every x P s × Every y P s → (w : Word) (t : ℕ) → IsIn x w ⊎ IsIn y w → IsPath names system s w t → P t
      there h w t (inl i) p = h.0 w t i p
      there h w t (inr i) p = h.1 w t i p

  pub diamond_law : (x : Regular) → DiamondLaw x
  diamond_law every_action sets f p tests s l = one_some names system closed named every_action (Means system sets f) s
  diamond_law no_action sets f p tests s l = one_some names system closed named no_action (Means system sets f) s
  diamond_law (action label) sets f p tests s l = one_some names system closed named (action label) (Means system sets f) s
  diamond_law (other_than x) sets f p tests s l = one_some names system closed named (other_than x) (Means system sets f) s
  diamond_law (both_of x y) sets f p tests s l = one_some names system closed named (both_of x y) (Means system sets f) s
  diamond_law (either_of x y) sets f p tests s l = one_some names system closed named (either_of x y) (Means system sets f) s
  diamond_law (sequence x y) sets f p tests s l = then_diamond x y (diamond_along names y) (diamond_law x) (diamond_law y) sets f p tests s l
  diamond_law (choice x y) sets f p tests s l = iff_trans (iff_or (diamond_law x sets f p tests s l) (diamond_law y sets f p tests s l)) (some_either x y (Means system sets f) s)
  diamond_law (repeated x) sets f p tests s l = star_diamond x (diamond_law x) sets f p tests s l
  diamond_law (repeated_once x) sets f p tests s l = then_diamond x (repeated x) (diamond_along names (repeated x)) (diamond_law x) (star_diamond x (diamond_law x)) sets f p tests s l

  pub box_law : (x : Regular) → BoxLaw x
  box_law every_action sets f p tests s l = one_every names system closed named every_action (Means system sets f) s
  box_law no_action sets f p tests s l = one_every names system closed named no_action (Means system sets f) s
  box_law (action label) sets f p tests s l = one_every names system closed named (action label) (Means system sets f) s
  box_law (other_than x) sets f p tests s l = one_every names system closed named (other_than x) (Means system sets f) s
  box_law (both_of x y) sets f p tests s l = one_every names system closed named (both_of x y) (Means system sets f) s
  box_law (either_of x y) sets f p tests s l = one_every names system closed named (either_of x y) (Means system sets f) s
  box_law (sequence x y) sets f p tests s l = then_box x y (box_along names y) (box_law x) (box_law y) sets f p tests s l
  box_law (choice x y) sets f p tests s l = iff_trans (iff_and (box_law x sets f p tests s l) (box_law y sets f p tests s l)) (every_either x y (Means system sets f) s)
  box_law (repeated x) sets f p tests s l = star_box x (box_law x) sets f p tests s l
  box_law (repeated_once x) sets f p tests s l = then_box x (repeated x) (box_along names (repeated x)) (box_law x) (star_box x (box_law x)) sets f p tests s l

pub diamond_means_some_path : DiamondMeansSomePath
diamond_means_some_path names system sets signs sign x f closed named p s l = diamond_law names system closed named x sets f (decision system signs sign sets f) (decided system closed signs sign f p sets) s l

pub box_means_every_path : BoxMeansEveryPath
box_means_every_path names system sets signs sign x f closed named p s l = box_law names system closed named x sets f (decision system signs sign sets f) (decided system closed signs sign f p sets) s l

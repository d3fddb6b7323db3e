-- Names of actions, and the numbers that they stand for.
use Rattle.std.proofs.Common.{◌≡◌, ℕ, zero, suc, ◌+◌, ◌<◌, ◌⊎◌, inl, inr, true, false, not, ◌&&◌, ◌||◌, ◌==◌, List, [], ◌∷◌, length, refl, ◌∙◌, ap, ap₂, arith}
use Rattle.std.proofs.lemmas.Bool.{cases_Bool, eq-eqb, ne_eqb}
use Rattle.std.proofs.lemmas.Slice.Eq.{bytes_eq-Decides}
use Rattle.vpg_requirement.specs.Actions.{permits}
use Rattle.vpg_formula.specs.Regular.{Label, every_action, no_action, action, other_than, both_of, either_of, sequence, choice, repeated, repeated_once}
use Rattle.vpg_meaning.specs.Labels.{without_blanks, is_named, name_at, actions_named}
use Rattle.vpg_meaning.specs.Laws.{LabelsAreNames, ActionsAreAdmitted}

pub labels_are_names : LabelsAreNames
labels_are_names = record {
  quoted = λ label name. ((bytes_eq-Decides label name).0, (bytes_eq-Decides label name).1);
  bare = λ label name. ((bytes_eq-Decides (without_blanks label) (without_blanks name)).0, (bytes_eq-Decides (without_blanks label) (without_blanks name)).1);
}

-- actions before the first are not named
named_later : (label : Label) (names : List (List ℕ)) (a i : ℕ) → i < a → permits (actions_named label a names) i ≡ false
named_later label [] a i l = refl
named_later label (name ∷ names) a i l = decide (cases_Bool (is_named label name)) (named_later label names (suc a) i (omega arith)) (ne_eqb a i (omega arith))
  where
    decide : (is_named label name ≡ true) ⊎ (is_named label name ≡ false) → permits (actions_named label (suc a) names) i ≡ false → (a == i) ≡ false → permits (actions_named label a (name ∷ names)) i ≡ false
    decide (inl e) rest other = rw e (ap₂ ◌||◌ other rest)
    decide (inr e) rest other = rw e rest

named_at : (label : Label) (names : List (List ℕ)) (a k n : ℕ) → n ≡ k + a → k < length names → permits (actions_named label a names) n ≡ is_named label (name_at names k)
named_at label [] a k n e l = absurd (omega arith)
named_at label (name ∷ names) a zero n e l = decide (cases_Bool (is_named label name)) (named_later label names (suc a) n (omega (arith, e))) (eq-eqb a n (omega (arith, e)))
  where
    decide : (is_named label name ≡ true) ⊎ (is_named label name ≡ false) → permits (actions_named label (suc a) names) n ≡ false → (a == n) ≡ true → permits (actions_named label a (name ∷ names)) n ≡ is_named label name
    decide (inl h) rest same = rw h (ap (λ b. b || permits (actions_named label (suc a) names) n) same)
    decide (inr h) rest same = rw h rest
named_at label (name ∷ names) a (suc k) n e l = decide (cases_Bool (is_named label name)) (named_at label names (suc a) k n (omega (arith, e)) (omega arith)) (ne_eqb a n (omega (arith, e)))
  where
    decide : (is_named label name ≡ true) ⊎ (is_named label name ≡ false) → permits (actions_named label (suc a) names) n ≡ is_named label (name_at names k) → (a == n) ≡ false → permits (actions_named label a (name ∷ names)) n ≡ is_named label (name_at names k)
    decide (inl h) rest other = rw h (ap (λ b. b || permits (actions_named label (suc a) names) n) other ∙ rest)
    decide (inr h) rest other = rw h rest

pub actions_are_admitted : ActionsAreAdmitted
actions_are_admitted names every_action a l = refl
actions_are_admitted names no_action a l = refl
actions_are_admitted names (action label) a l = named_at label names 0 a a (omega arith) l
actions_are_admitted names (other_than x) a l = ap not (actions_are_admitted names x a l)
actions_are_admitted names (both_of x y) a l = ap₂ ◌&&◌ (actions_are_admitted names x a l) (actions_are_admitted names y a l)
actions_are_admitted names (either_of x y) a l = ap₂ ◌||◌ (actions_are_admitted names x a l) (actions_are_admitted names y a l)
actions_are_admitted names (sequence x y) a l = refl
actions_are_admitted names (choice x y) a l = refl
actions_are_admitted names (repeated x) a l = refl
actions_are_admitted names (repeated_once x) a l = refl

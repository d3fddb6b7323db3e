-- What no guard's writing has: a line feed, or a `[`.
use Rattle.std.proofs.Common.{◌≡◌, ℕ, zero, suc, Bool, true, false, not, ◌&&◌, ◌==◌, List, [], ◌∷◌, ◌++◌, codes, slice_index_or, refl, ap₂, arith}
use Rattle.std.specs.List.{list_all}
use Rattle.std.proofs.lemmas.Bool.Decides.{nat_tests}
use Rattle.vpg_features.specs.Names.{is_name_byte, EachIsName}
use Rattle.vpg_features.proofs.Held.{both_true}
use Rattle.vpg_guards.specs.Formula.{Formula, Parts, always, never, feature, negation, all, any, no_parts, part, is_any}
use Rattle.vpg_guards.specs.Writing.{guard_text, all_text, more_all_text, any_text, more_any_text, enclosed_if, is_group}
use Rattle.vpg_system.specs.SystemText.{lacks}
use Rattle.vpg_system.proofs.Cuts.{lacks_joined}

-- a byte that stands in no word and is no sign of a guard
pub record IsOther (s : ℕ) : Type 0 where
  pub word : (b : ℕ) → is_name_byte b ≡ true → not (b == s) ≡ true
  pub truth : lacks s (codes "true") ≡ true
  pub falsity : lacks s (codes "false") ≡ true
  pub opens : lacks s (40 ∷ []) ≡ true
  pub closes : lacks s (41 ∷ []) ≡ true
  pub negated : lacks s (33 ∷ []) ≡ true
  pub joined : lacks s (codes " & ") ≡ true
  pub either : lacks s (codes " | ") ≡ true

feed_word : (b : ℕ) → is_name_byte b ≡ true → not (b == 10) ≡ true
feed_word b e = grind (arith, nat_tests)

bracket_word : (b : ℕ) → is_name_byte b ≡ true → not (b == 91) ≡ true
bracket_word b e = grind (arith, nat_tests)

pub feed_other : IsOther 10
feed_other = record { word = feed_word; truth = refl; falsity = refl; opens = refl; closes = refl; negated = refl; joined = refl; either = refl }

pub bracket_other : IsOther 91
bracket_other = record { word = bracket_word; truth = refl; falsity = refl; opens = refl; closes = refl; negated = refl; joined = refl; either = refl }

module _ (s : ℕ) (o : IsOther s) where
  name_lacks : (name : List ℕ) → list_all is_name_byte name ≡ true → lacks s name ≡ true
  name_lacks [] e = refl
  name_lacks (b ∷ name) e =
      let h = both_true (is_name_byte b) (list_all is_name_byte name) e in
      ap₂ (λ x y. x && y) (o.word b h.0) (name_lacks name h.1)

  feature_lacks : (names : List (List ℕ)) (f : ℕ) → EachIsName names → lacks s (slice_index_or names f []) ≡ true
  feature_lacks [] f each = refl
  feature_lacks (name ∷ names) zero each = name_lacks name each.0.bytes
  feature_lacks (name ∷ names) (suc f) each = feature_lacks names f each.1

  enclosed_lacks : (b : Bool) (text : List ℕ) → lacks s text ≡ true → lacks s (enclosed_if b text) ≡ true
  enclosed_lacks true text h = lacks_joined s (40 ∷ []) (text ++ 41 ∷ []) o.opens (lacks_joined s text (41 ∷ []) h o.closes)
  enclosed_lacks false text h = h

  module _ (names : List (List ℕ)) (each : EachIsName names) where
    mutual
      pub guard_lacks : (g : Formula) → lacks s (guard_text names g) ≡ true
      guard_lacks always = o.truth
      guard_lacks never = o.falsity
      guard_lacks (feature f) = feature_lacks names f each
      guard_lacks (negation g) =
          lacks_joined s (33 ∷ []) (enclosed_if (is_group g) (guard_text names g)) o.negated (enclosed_lacks (is_group g) (guard_text names g) (guard_lacks g))
      guard_lacks (all gs) = all_lacks gs
      guard_lacks (any gs) = any_lacks gs

      all_lacks : (gs : Parts) → lacks s (all_text names gs) ≡ true
      all_lacks no_parts = refl
      all_lacks (part g gs) =
          lacks_joined s (enclosed_if (is_any g) (guard_text names g)) (more_all_text names gs) (enclosed_lacks (is_any g) (guard_text names g) (guard_lacks g)) (more_all_lacks gs)

      more_all_lacks : (gs : Parts) → lacks s (more_all_text names gs) ≡ true
      more_all_lacks no_parts = refl
      more_all_lacks (part g gs) =
          lacks_joined s (codes " & ") (enclosed_if (is_any g) (guard_text names g) ++ more_all_text names gs) o.joined
          (lacks_joined s (enclosed_if (is_any g) (guard_text names g)) (more_all_text names gs) (enclosed_lacks (is_any g) (guard_text names g) (guard_lacks g)) (more_all_lacks gs))

      any_lacks : (gs : Parts) → lacks s (any_text names gs) ≡ true
      any_lacks no_parts = refl
      any_lacks (part g gs) = lacks_joined s (guard_text names g) (more_any_text names gs) (guard_lacks g) (more_any_lacks gs)

      more_any_lacks : (gs : Parts) → lacks s (more_any_text names gs) ≡ true
      more_any_lacks no_parts = refl
      more_any_lacks (part g gs) =
          lacks_joined s (codes " | ") (guard_text names g ++ more_any_text names gs) o.either
          (lacks_joined s (guard_text names g) (more_any_text names gs) (guard_lacks g) (more_any_lacks gs))

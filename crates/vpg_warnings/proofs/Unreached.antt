-- The states that are not reached are those that no path leads to.
use Rattle.std.proofs.Common.{◌≡◌, ℕ, ◌+◌, ◌<◌, ◌⊎◌, inl, inr, Bool, true, false, List, length, get_or, map, Contains, refl, sym, ap, ◌∙◌, subst, arith}
use Rattle.std.specs.Prelude.{not}
use Rattle.std.proofs.lemmas.List.{length-map, get_or-map}
use Rattle.vpg_system.specs.SystemText.{NamedSystem}
use Rattle.vpg_system_draw.specs.Reached.{AreReachedByAny}
use Rattle.vpg_warnings.specs.Numbers.{numbers_from}
use Rattle.vpg_warnings.specs.States.{IsUnreached, AreUnreached}
use Rattle.vpg_warnings.proofs.Numbered.{in_order, IsMarkAt, mark_of_number, number_of_mark}

module _ (system : NamedSystem) (reached : List Bool) (are : AreReachedByAny system reached) where
  abbrev others : List Bool
  others = map not reached

  count : length others ≡ system.states
  count = length-map reached not ∙ are.count

  at : (s : ℕ) → s < system.states → get_or others s false ≡ not (get_or reached s false)
  at s less = get_or-map not reached s false false (subst (λ (n : ℕ). s < n) (sym are.count) less)

  not_both : (b : Bool) → not b ≡ true → b ≡ true → ⊥
  not_both true e f = absurd cc
  not_both false e f = absurd cc

  by_mark : (s : ℕ) → IsMarkAt 0 others s → IsUnreached system s
  by_mark s m =
      let same : s ≡ m.place = omega (arith, m.is) in
      let state : s < system.states = omega (arith, same, m.within, count) in
      let marked : get_or others s false ≡ true = ap (λ (k : ℕ). get_or others k false) same ∙ m.marked in
      record {
        state = state;
        no_path = λ path. not_both (get_or reached s false) (sym (at s state) ∙ marked) ((are.each s).1 path);
      }

  either : (b : Bool) → (b ≡ true) ⊎ (b ≡ false)
  either true = inl refl
  either false = inr refl

  by_path : (s : ℕ) → IsUnreached system s → (get_or reached s false ≡ true) ⊎ (get_or reached s false ≡ false) → Contains (numbers_from 0 others) s
  by_path s is (inl e) = absurd (is.no_path ((are.each s).0 e))
  by_path s is (inr e) =
      let zero_and : 0 + s ≡ s = omega arith in
      subst (λ (k : ℕ). Contains (numbers_from 0 others) k) zero_and
      (number_of_mark 0 others s (omega (arith, is.state, count)) (at s is.state ∙ ap not e))

  pub unreached_are : AreUnreached system (numbers_from 0 others)
  unreached_are = record {
    in_order = in_order 0 others;
    each = λ s. (λ c. by_mark s (mark_of_number 0 others s c), λ is. by_path s is (either (get_or reached s false)));
  }

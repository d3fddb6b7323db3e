-- The strategy's choices.
use Rattle.std.proofs.Common.{ℕ, zero, suc, ◌≡◌, ◌<◌, ◌≤◌, ◌==◌, nat_lt, ◌&&◌, Bool, true, false, List, [], ◌∷◌, map, refl, sym, ap, ◌∙◌, inl, inr, Some, None, arith}
use Rattle.std.specs.Prelude.{slice_index, Contains}
use Rattle.std.specs.List.{find}
use Rattle.std.proofs.lemmas.Bool.{cases_lt, cases_Bool, cond-true, cond-false, eq-eqb, eqb-true, lt-ltb, false≢true}
use Rattle.vpg_game.specs.Levels.{top_of, prog_of}
use Rattle.vpg_hope.specs.Arena.{vertex_at}
use Rattle.vpg_measure.specs.Lifts.{least_of, best_for, lift_of, is_even}
use Rattle.vpg_measure.specs.NumberLaws.{ChoiceFits}
use Rattle.vpg_measure.proofs.Numbers.{prog_is_least_fit}
use Rattle.vpg_measure.proofs.Progs.{slice_index-le}
use Rattle.vpg_measure.proofs.Rounds.{progress_at}

-- what is found stands in the list, and passes
abbrev Found : (ℕ → Bool) → List ℕ → Type 0
Found test ws = (w : ℕ) × (find test ws ≡ Some w) × Contains ws w × (test w ≡ true)

found_here : (test : ℕ → Bool) (w : ℕ) (ws : List ℕ) → test w ≡ true → Found test (w ∷ ws)
found_here test w ws e = (w, cond-true (test w) (Some w) (find test ws) e, (zero, omega arith, refl), e)

found_later : (test : ℕ → Bool) (w : ℕ) (ws : List ℕ) → test w ≡ false → Found test ws → Found test (w ∷ ws)
found_later test w ws e h =
    (h.0, cond-false (test w) (Some w) (find test ws) e ∙ h.1, (suc h.2.0, omega (arith, h.2.1), h.2.2), h.3)

-- a least below the limit is attained
attained : (limit least : ℕ) (g : ℕ → ℕ) (ws : List ℕ) → least ≡ least_of limit (map g ws) → least < limit → Found (λ w. g w == least) ws
attained limit least g [] e less = absurd (omega arith)
attained limit least g (w ∷ ws) e less = elim (cases_Bool (g w == least)) [
  | inl here ↦ found_here (λ u. g u == least) w ws here
  | inr other ↦ found_later (λ u. g u == least) w ws other (attained limit least g ws (step other) less)
]
  where
    step : (g w == least) ≡ false → least ≡ least_of limit (map g ws)
    step other = elim (cases_lt (g w) (least_of limit (map g ws))) [
      | inl before ↦ (let same : g w ≡ least = omega arith in absurd (false≢true (sym other ∙ eq-eqb (g w) least same)))
      | inr after ↦ omega arith
    ]

pub choice_fits : ChoiceFits
choice_fits ls arena table v t p less even below =
    let x = vertex_at arena v in
    let n = slice_index table v in
    let g : ℕ → ℕ = λ w. prog_of ls x.priority (slice_index table w) in
    let lift : lift_of ls table x ≡ least_of (top_of ls) (map g x.successors) = ap (λ o. best_for o (top_of ls) (map g x.successors)) even in
    let le : lift_of ls table x ≤ n = progress_at ls arena table t p v less in
    let found = attained (top_of ls) (lift_of ls table x) g x.successors lift (omega arith) in
    let w = found.0 in
    let tested : (is_even x.owner && nat_lt n (top_of ls)) ≡ true = ap (λ o. is_even o && nat_lt n (top_of ls)) even ∙ lt-ltb n (top_of ls) below in
    let least : prog_of ls x.priority (slice_index table w) ≡ lift_of ls table x = eqb-true _ (lift_of ls table x) found.3 in (
      w,
      cond-true (is_even x.owner && nat_lt n (top_of ls)) (find (λ w. g w == lift_of ls table x) x.successors) None tested ∙ found.1,
      found.2,
      (prog_is_least_fit ls x.priority (slice_index table w) n (slice_index-le (top_of ls) table t.within w) (omega arith)).1 (omega arith),
    )

-- In each product the game decides the requirement.
use Rattle.std.proofs.Common.{◌≡◌, ℕ, ◌<◌, ◌⊎◌, ◌↔◌, inl, inr, Bool, true, false, not, List, [], ◌∷◌, length, map, filter, All, arith}
use Rattle.std.proofs.lemmas.Bool.{cases_Bool}
use Rattle.std.proofs.lemmas.List.Elements.{All-cons, All-nil, All-head, All-tail}
use Rattle.vpg_sides.specs.declared.player.Player.TheVariants.{Even, Odd}
use Rattle.vpg_guards.specs.Formula.{Formula as Guard, truth}
use Rattle.vpg_hope.specs.Games.{Game}
use Rattle.vpg_hope.specs.Hope.{product_game}
use Rattle.vpg_hope.specs.Strategies.{Strategy, Wins}
use Rattle.vpg_hope.proofs.Both.{not_both}
use Rattle.vpg_requirement.specs.Systems.{Step, Transition, System, PlainSystem, product_system, IsClosedSystem, IsClosedFamily}
use Rattle.vpg_requirement.specs.Formulas.{Formula, everywhere, nowhere, negation, conjunction, disjunction, implication, diamond, box, binding, bound, Means, IsPositive}
use Rattle.vpg_requirement.specs.NormalForms.{NormalForm, HasPriorities, Satisfies, positive_form}
use Rattle.vpg_requirement.specs.Priorities.{normal_form, IsClosedBelow}
use Rattle.vpg_requirement.specs.Situations.{Situation, situation, situation_at, IsGameOfSituations}
use Rattle.vpg_requirement.specs.Laws.{IsDecided, GameDecides, FormulaDecides}
use Rattle.vpg_requirement.proofs.Evaluation.{holds}
use Rattle.vpg_requirement.proofs.Fixpoints.{holds_means, meaning_holds}
use Rattle.vpg_requirement.proofs.Won.{what_holds_is_won}
use Rattle.vpg_requirement.proofs.Duals.{what_fails_is_lost}
use Rattle.vpg_requirement.proofs.Positive.{positive_form_means_the_same}
use Rattle.vpg_requirement.proofs.Ranked.{priorities_are_right}
use Rattle.vpg_requirement.proofs.Built.{built_is_game, zip_length}

closed_steps : (n : ℕ) (test : Guard → Bool) (ts : List (Transition Guard)) → All (λ t. t.step.target < n) ts → All (λ step. step.target < n) (map (λ t. t.step) (filter (λ t. test t.guard) ts))
closed_steps n test [] h = All-nil (λ (step : Step). step.target < n)
closed_steps n test (t ∷ ts) h = decide (cases_Bool (test t.guard)) (closed_steps n test ts (All-tail (λ (t : Transition Guard). t.step.target < n) t ts h))
  where
    decide : (test t.guard ≡ true) ⊎ (test t.guard ≡ false) → All (λ (step : Step). step.target < n) (map (λ t. t.step) (filter (λ t. test t.guard) ts)) → All (λ (step : Step). step.target < n) (map (λ t. t.step) (filter (λ t. test t.guard) (t ∷ ts)))
    decide (inl e) rest = rw e (All-cons (λ (step : Step). step.target < n) t.step (map (λ t. t.step) (filter (λ t. test t.guard) ts)) (All-head (λ (t : Transition Guard). t.step.target < n) t ts h) rest)
    decide (inr e) rest = rw e rest

pub closed_product : (system : System Guard) → IsClosedFamily system → (set : List Bool) → IsClosedSystem (product_system (truth set) system)
closed_product system closed set = closed_steps system.states (truth set) system.transitions closed

pub decided : (system : PlainSystem) (form : NormalForm) (places : List Situation) (game : Game) → IsClosedSystem system → HasPriorities 0 [] form → IsGameOfSituations Even 0 system places game →
    (s v : ℕ) → s < system.states → v < length game → situation_at places v ≡ situation s form [] → IsDecided (Satisfies system [] form s) game v
decided system form places game closed ranked arena s v s_inside v_inside at = record {
  won = (win, λ w. stable (λ fails. clash w (lose fails)));
  lost = (lose, λ w h. clash (win h) w);
  hopeless = λ none h. refuted none (win h);
  sure = λ none. stable (λ fails. refuted_odd none (lose fails));
}
  where
    win : Satisfies system [] form s → (strategy : Strategy) × Wins game Even strategy v
    win h = what_holds_is_won system form places game closed ranked arena s v s_inside v_inside at h

    lose : (Satisfies system [] form s → ⊥) → (strategy : Strategy) × Wins game Odd strategy v
    lose fails = what_fails_is_lost system form places game closed ranked arena s v s_inside v_inside at fails

    clash : (strategy : Strategy) × Wins game Even strategy v → (strategy : Strategy) × Wins game Odd strategy v → ⊥
    clash a b = not_both game a.0 b.0 v a.1 b.1

    refuted : ((strategy : Strategy) → Wins game Even strategy v → ⊥) → (strategy : Strategy) × Wins game Even strategy v → ⊥
    refuted none w = none w.0 w.1

    refuted_odd : ((strategy : Strategy) → Wins game Odd strategy v → ⊥) → (strategy : Strategy) × Wins game Odd strategy v → ⊥
    refuted_odd none w = none w.0 w.1

    -- whether it holds is decided
    stable : ((Satisfies system [] form s → ⊥) → ⊥) → Satisfies system [] form s
    stable twice = decide (cases_Bool (holds system [] form s))
      where
        decide : (holds system [] form s ≡ true) ⊎ (holds system [] form s ≡ false) → Satisfies system [] form s
        decide (inl t) = holds_means system closed form [] s s_inside t
        decide (inr f) = absurd (twice (λ h. both (meaning_holds system closed form [] s s_inside h)))
          where
            both : holds system [] form s ≡ true → ⊥
            both t = cc (t, f)

pub game_decides : GameDecides
game_decides system form places game closed ranked built s v s_inside v_inside at set =
    decided (product_system (truth set) system) form places (product_game (truth set) game) (closed_product system closed set) ranked (built_is_game Even 0 system places game built set) s v s_inside inside at
  where
    inside : v < length (product_game (truth set) game)
    inside = omega (arith, (built_is_game Even 0 system places game built set).count, zip_length set Even 0 system places places game built)

-- ---- formulas

-- each variable of the normal form has a fixpoint
closed_form : (f : Formula) (sign : Bool) (signs : List Bool) → IsPositive signs sign f → IsClosedBelow (length signs) (positive_form sign f)
closed_form everywhere false signs p = tt
closed_form everywhere true signs p = tt
closed_form nowhere false signs p = tt
closed_form nowhere true signs p = tt
closed_form (negation f) sign signs p = closed_form f (not sign) signs p
closed_form (conjunction f g) false signs p = (closed_form f false signs p.0, closed_form g false signs p.1)
closed_form (conjunction f g) true signs p = (closed_form f true signs p.0, closed_form g true signs p.1)
closed_form (disjunction f g) false signs p = (closed_form f false signs p.0, closed_form g false signs p.1)
closed_form (disjunction f g) true signs p = (closed_form f true signs p.0, closed_form g true signs p.1)
closed_form (implication f g) false signs p = (closed_form f true signs p.0, closed_form g false signs p.1)
closed_form (implication f g) true signs p = (closed_form f false signs p.0, closed_form g true signs p.1)
closed_form (diamond x f) false signs p = closed_form f false signs p
closed_form (diamond x f) true signs p = closed_form f true signs p
closed_form (box x f) false signs p = closed_form f false signs p
closed_form (box x f) true signs p = closed_form f true signs p
closed_form (binding kind f) false signs p = closed_form f false (false ∷ signs) p
closed_form (binding kind f) true signs p = closed_form f true (true ∷ signs) p
closed_form (bound i) sign signs p = p.0

same_fact : (P Q : Type 0) (game : Game) (v : ℕ) → P ↔ Q → IsDecided P game v → IsDecided Q game v
same_fact P Q game v h d = record {
  won = (λ q. d.won.0 (h.1 q), λ w. h.0 (d.won.1 w));
  lost = (λ n. d.lost.0 (λ p. n (h.0 p)), λ w q. d.lost.1 w (h.1 q));
  hopeless = λ none q. d.hopeless none (h.1 q);
  sure = λ none. h.0 (d.sure none);
}

pub formula_decides : FormulaDecides
formula_decides system formula places game closed positive_formula built s v s_inside v_inside at set =
    same_fact (Satisfies plain [] (normal_form formula) s) (Means plain [] formula s) (product_game (truth set) game) v
    (λ h. means.0 ((right.1 plain s).0 h), λ m. (right.1 plain s).1 (means.1 m))
    (game_decides system (normal_form formula) places game closed right.0 built s v s_inside v_inside at set)
  where
    plain : PlainSystem
    plain = product_system (truth set) system

    right : HasPriorities 0 [] (normal_form formula) × ((system : PlainSystem) (s : ℕ) → Satisfies system [] (normal_form formula) s ↔ Satisfies system [] (positive_form false formula) s)
    right = priorities_are_right (positive_form false formula) (closed_form formula false [] positive_formula)

    means : Satisfies plain [] (positive_form false formula) s ↔ Means plain [] formula s
    means = positive_form_means_the_same plain formula (closed_product system closed set) positive_formula s s_inside

-- From each situation that holds Even has a good move where it is Even's turn, and Odd has no other where it is Odd's.
use Rattle.std.proofs.Common.{◌≡◌, ℕ, zero, suc, ◌⊎◌, inl, inr, true, false, List, [], ◌∷◌, Option, Some, None, refl, sym, subst, Contains, arith}
use Rattle.std.proofs.lemmas.Bool.{and_parts, or_cases}
use Rattle.vpg_hope.proofs.Edges.{Contains-first, Contains-later, Contains-cases, not_in_nil}
use Rattle.vpg_sides.specs.declared.player.Player.{Player}
use Rattle.vpg_sides.specs.declared.player.Player.TheVariants.{Even, Odd}
use Rattle.vpg_requirement.specs.Actions.{ActionFormula}
use Rattle.vpg_requirement.specs.Systems.{PlainSystem, IsClosedSystem, successors}
use Rattle.vpg_requirement.specs.NormalForms.{NormalForm, met, unmet, both, either, some_step, every_step, fixpoint, variable}
use Rattle.vpg_requirement.specs.Situations.{Binder, Situation, situation, moves_of, part_owner}
use Rattle.vpg_requirement.proofs.Evaluation.{any_gives, all_gives, holds, successor_inside}
use Rattle.vpg_requirement.proofs.Signatures.{values, signature, IsHeld, IsRankedAt, situation_ranked}
use Rattle.vpg_requirement.proofs.Steps.{IsFit, IsGoodMove, plain_move, fixpoint_move, mapped_contains, contains_mapped}

pub record Choice (moves : List Situation) : Type 0 where
  pub to : Situation
  pub is_move : Contains moves to

module _ (system : PlainSystem) where
  -- what Even chooses, by what holds
  abbrev pub chosen_either : (s : ℕ) (f g : NormalForm) (scope : List Binder) (n : ℕ) → (holds system (values system scope n) f s ≡ true) ⊎ (holds system (values system scope n) g s ≡ true) → Choice (moves_of system s (either f g) scope)
  chosen_either s f g scope n (inl e) = record { to = situation s f scope; is_move = Contains-first (situation s f scope) (situation s g scope ∷ []) }
  chosen_either s f g scope n (inr e) = record { to = situation s g scope; is_move = Contains-later (situation s f scope) (situation s g scope ∷ []) (situation s g scope) (Contains-first (situation s g scope) []) }

  abbrev pub chosen_step : (s t : ℕ) (x : ActionFormula) (f : NormalForm) (scope : List Binder) → Contains (successors system x s) t → Choice (moves_of system s (some_step x f) scope)
  chosen_step s t x f scope c = record { to = situation t f scope; is_move = contains_mapped (λ u. situation u f scope) (successors system x s) t c }

  abbrev pub choice : (s : ℕ) (g : NormalForm) (scope : List Binder) (n : ℕ) → holds system (values system scope n) g s ≡ true → Option (Choice (moves_of system s g scope))
  choice s met scope n e = None
  choice s unmet scope n e = None
  choice s (both f g) scope n e = None
  choice s (either f g) scope n e = Some (chosen_either s f g scope n (or_cases (holds system (values system scope n) f s) (holds system (values system scope n) g s) e))
  choice s (some_step x f) scope n e = Some (chosen_step s (any_gives (holds system (values system scope n) f) (successors system x s) e).0 x f scope (any_gives (holds system (values system scope n) f) (successors system x s) e).1)
  choice s (every_step x f) scope n e = None
  choice s (fixpoint kind p f) scope n e = None
  choice s (variable i) [] n e = None
  choice s (variable i) (binder ∷ scope) n e = Some (record { to = situation s binder.body (binder ∷ scope); is_move = Contains-first (situation s binder.body (binder ∷ scope)) [] })

module _ (system : PlainSystem) (closed : IsClosedSystem system) (mover : Player) (low depth wide : ℕ) where
  abbrev pub here : ℕ → NormalForm → List Binder → Situation
  here s g scope = record { state = s; part = g; scope = scope }

  abbrev pub IsGood : Situation → Situation → Type 0
  IsGood p q = IsGoodMove system low depth wide p q

  abbrev pub Fits : Situation → Type 0
  Fits q = IsFit system low depth wide q

  pub record IsGoodChoice (s : ℕ) (g : NormalForm) (scope : List Binder) (c : Option (Choice (moves_of system s g scope))) : Type 0 where
    pub chosen : Choice (moves_of system s g scope)
    pub is_choice : c ≡ Some chosen
    pub good : IsGood (here s g scope) chosen.to

  pub chosen_good : (s : ℕ) (g : NormalForm) (scope : List Binder) (e : holds system (values system scope (signature system (here s g scope))) g s ≡ true) → IsHeld system (here s g scope) → IsRankedAt low (here s g scope) → Fits (here s g scope) →
      ((q : Situation) → Contains (moves_of system s g scope) q → Fits q) → part_owner mover g ≡ Even → IsGoodChoice s g scope (choice system s g scope (signature system (here s g scope)) e)
  chosen_good s met scope e held ranked fit fits even = absurd (clash even)
    where
      clash : Odd ≡ Even → ⊥
      clash e = cc
  chosen_good s unmet scope e held ranked fit fits even = absurd (clash e)
    where
      clash : false ≡ true → ⊥
      clash e = cc
  chosen_good s (both f g) scope e held ranked fit fits even = absurd (clash even)
    where
      clash : Odd ≡ Even → ⊥
      clash e = cc
  chosen_good s (either f g) scope e held ranked fit fits even = record { chosen = chosen_either system s f g scope n d; is_choice = refl; good = of d }
    where
      n : ℕ
      n = signature system (here s (either f g) scope)

      d : (holds system (values system scope n) f s ≡ true) ⊎ (holds system (values system scope n) g s ≡ true)
      d = or_cases (holds system (values system scope n) f s) (holds system (values system scope n) g s) e

      of : (d : (holds system (values system scope n) f s ≡ true) ⊎ (holds system (values system scope n) g s ≡ true)) → IsGood (here s (either f g) scope) (chosen_either system s f g scope n d).to
      of (inl h) = plain_move system low depth wide s s (either f g) f scope held held.is_state ranked.part.0 (fits (situation s f scope) (chosen_either system s f g scope n (inl h)).is_move) fit.short h (omega arith) (λ m. refl) refl
      of (inr h) = plain_move system low depth wide s s (either f g) g scope held held.is_state ranked.part.1 (fits (situation s g scope) (chosen_either system s f g scope n (inr h)).is_move) fit.short h (omega arith) (λ m. refl) refl
  chosen_good s (some_step x f) scope e held ranked fit fits even = record { chosen = chosen_step system s t.0 x f scope t.1; is_choice = refl; good = of }
    where
      n : ℕ
      n = signature system (here s (some_step x f) scope)

      t : (t : ℕ) × Contains (successors system x s) t × (holds system (values system scope n) f t ≡ true)
      t = any_gives (holds system (values system scope n) f) (successors system x s) e

      of : IsGood (here s (some_step x f) scope) (chosen_step system s t.0 x f scope t.1).to
      of = plain_move system low depth wide s t.0 (some_step x f) f scope held (successor_inside system closed x s t.0 t.1) ranked.part (fits (situation t.0 f scope) (chosen_step system s t.0 x f scope t.1).is_move) fit.short t.2 (omega arith) (λ m. refl) refl
  chosen_good s (every_step x f) scope e held ranked fit fits even = absurd (clash even)
    where
      clash : Odd ≡ Even → ⊥
      clash e = cc
  chosen_good s (fixpoint kind p f) scope e held ranked fit fits even = absurd ranked.normal
  chosen_good s (variable (suc i)) scope e held ranked fit fits even = absurd ranked.normal
  chosen_good s (variable zero) [] e held ranked fit fits even = absurd (omega (arith, ranked.part.0))
  chosen_good s (variable zero) (binder ∷ scope) e held ranked fit fits even = record {
    chosen = record { to = situation s binder.body (binder ∷ scope); is_move = Contains-first (situation s binder.body (binder ∷ scope)) [] };
    is_choice = refl;
    good = fixpoint_move system low depth wide closed s binder.priority binder.body scope binder.kind held ranked fit (fits (situation s binder.body (binder ∷ scope)) (Contains-first (situation s binder.body (binder ∷ scope)) []));
  }

  -- and every move of Odd is good
  pub moved_good : (s : ℕ) (g : NormalForm) (scope : List Binder) (q : Situation) → IsHeld system (here s g scope) → IsRankedAt low (here s g scope) → Fits (here s g scope) → Fits q → part_owner mover g ≡ Odd → Contains (moves_of system s g scope) q → IsGood (here s g scope) q
  moved_good s met scope q held ranked fit fit_q odd c = absurd (not_in_nil q c)
  moved_good s unmet scope q held ranked fit fit_q odd c = absurd (not_in_nil q c)
  moved_good s (both f g) scope q held ranked fit fit_q odd c = first (Contains-cases (situation s f scope) (situation s g scope ∷ []) q c)
    where
      n : ℕ
      n = signature system (here s (both f g) scope)

      parts : (holds system (values system scope n) f s ≡ true) × (holds system (values system scope n) g s ≡ true)
      parts = and_parts (holds system (values system scope n) f s) (holds system (values system scope n) g s) held.passing

      second : (situation s g scope ≡ q) ⊎ Contains [] q → IsGood (here s (both f g) scope) q
      second (inl e) = subst (IsGood (here s (both f g) scope)) e (plain_move system low depth wide s s (both f g) g scope held held.is_state ranked.part.1 (subst Fits (sym e) fit_q) fit.short parts.1 (omega arith) (λ m. refl) refl)
      second (inr c) = absurd (not_in_nil q c)

      first : (situation s f scope ≡ q) ⊎ Contains (situation s g scope ∷ []) q → IsGood (here s (both f g) scope) q
      first (inl e) = subst (IsGood (here s (both f g) scope)) e (plain_move system low depth wide s s (both f g) f scope held held.is_state ranked.part.0 (subst Fits (sym e) fit_q) fit.short parts.0 (omega arith) (λ m. refl) refl)
      first (inr c) = second (Contains-cases (situation s g scope) [] q c)
  moved_good s (either f g) scope q held ranked fit fit_q odd c = absurd (clash odd)
    where
      clash : Even ≡ Odd → ⊥
      clash e = cc
  moved_good s (some_step x f) scope q held ranked fit fit_q odd c = absurd (clash odd)
    where
      clash : Even ≡ Odd → ⊥
      clash e = cc
  moved_good s (every_step x f) scope q held ranked fit fit_q odd c = of (mapped_contains (λ t. situation t f scope) (successors system x s) q c)
    where
      n : ℕ
      n = signature system (here s (every_step x f) scope)

      of : (t : ℕ) × Contains (successors system x s) t × (situation t f scope ≡ q) → IsGood (here s (every_step x f) scope) q
      of t = subst (IsGood (here s (every_step x f) scope)) t.2 (plain_move system low depth wide s t.0 (every_step x f) f scope held (successor_inside system closed x s t.0 t.1) ranked.part (subst Fits (sym t.2) fit_q) fit.short
          (all_gives (holds system (values system scope n) f) (successors system x s) held.passing t.0 t.1) (omega arith) (λ m. refl) refl)
  moved_good s (fixpoint kind p f) scope q held ranked fit fit_q odd c = absurd ranked.normal
  moved_good s (variable (suc i)) scope q held ranked fit fit_q odd c = absurd ranked.normal
  moved_good s (variable zero) [] q held ranked fit fit_q odd c = absurd (omega (arith, ranked.part.0))
  moved_good s (variable zero) (binder ∷ scope) q held ranked fit fit_q odd c = first (Contains-cases (situation s binder.body (binder ∷ scope)) [] q c)
    where
      first : (situation s binder.body (binder ∷ scope) ≡ q) ⊎ Contains [] q → IsGood (here s (variable zero) (binder ∷ scope)) q
      first (inl e) = subst (IsGood (here s (variable zero) (binder ∷ scope))) e (fixpoint_move system low depth wide closed s binder.priority binder.body scope binder.kind held ranked fit (subst Fits (sym e) fit_q))
      first (inr c) = absurd (not_in_nil q c)

-- moves keep the fixpoints ranked
pub moves_ranked : (system : PlainSystem) (low s : ℕ) (g : NormalForm) (scope : List Binder) (q : Situation) → IsRankedAt low (record { state = s; part = g; scope = scope }) → Contains (moves_of system s g scope) q → IsRankedAt low q
moves_ranked system low s met scope q ranked c = absurd (not_in_nil q c)
moves_ranked system low s unmet scope q ranked c = absurd (not_in_nil q c)
moves_ranked system low s (both f g) scope q ranked c = first (Contains-cases (situation s f scope) (situation s g scope ∷ []) q c)
  where
    second : (situation s g scope ≡ q) ⊎ Contains [] q → IsRankedAt low q
    second (inl e) = subst (IsRankedAt low) e (situation_ranked low s g scope ranked.part.1 ranked.scope)
    second (inr c) = absurd (not_in_nil q c)

    first : (situation s f scope ≡ q) ⊎ Contains (situation s g scope ∷ []) q → IsRankedAt low q
    first (inl e) = subst (IsRankedAt low) e (situation_ranked low s f scope ranked.part.0 ranked.scope)
    first (inr c) = second (Contains-cases (situation s g scope) [] q c)
moves_ranked system low s (either f g) scope q ranked c = first (Contains-cases (situation s f scope) (situation s g scope ∷ []) q c)
  where
    second : (situation s g scope ≡ q) ⊎ Contains [] q → IsRankedAt low q
    second (inl e) = subst (IsRankedAt low) e (situation_ranked low s g scope ranked.part.1 ranked.scope)
    second (inr c) = absurd (not_in_nil q c)

    first : (situation s f scope ≡ q) ⊎ Contains (situation s g scope ∷ []) q → IsRankedAt low q
    first (inl e) = subst (IsRankedAt low) e (situation_ranked low s f scope ranked.part.0 ranked.scope)
    first (inr c) = second (Contains-cases (situation s g scope) [] q c)
moves_ranked system low s (some_step x f) scope q ranked c = of (mapped_contains (λ t. situation t f scope) (successors system x s) q c)
  where
    of : (t : ℕ) × Contains (successors system x s) t × (situation t f scope ≡ q) → IsRankedAt low q
    of t = subst (IsRankedAt low) t.2 (situation_ranked low t.0 f scope ranked.part ranked.scope)
moves_ranked system low s (every_step x f) scope q ranked c = of (mapped_contains (λ t. situation t f scope) (successors system x s) q c)
  where
    of : (t : ℕ) × Contains (successors system x s) t × (situation t f scope ≡ q) → IsRankedAt low q
    of t = subst (IsRankedAt low) t.2 (situation_ranked low t.0 f scope ranked.part ranked.scope)
moves_ranked system low s (fixpoint kind p f) scope q ranked c = absurd ranked.normal
moves_ranked system low s (variable i) [] q ranked c = absurd (not_in_nil q c)
moves_ranked system low s (variable i) (binder ∷ scope) q ranked c = first (Contains-cases (situation s binder.body (binder ∷ scope)) [] q c)
  where
    first : (situation s binder.body (binder ∷ scope) ≡ q) ⊎ Contains [] q → IsRankedAt low q
    first (inl e) = subst (IsRankedAt low) e (situation_ranked low s binder.body (binder ∷ scope) ranked.scope.2 ranked.scope)
    first (inr c) = absurd (not_in_nil q c)

-- Where a requirement holds Even wins its game.
use Rattle.std.proofs.Common.{◌≡◌, ℕ, zero, suc, ◌+◌, ◌<◌, ◌≤◌, ◌⊎◌, inl, inr, true, false, List, [], ◌∷◌, length, Option, Some, None, sym, ◌∙◌, subst, ap, Contains, arith}
use Rattle.std.proofs.lemmas.Bool.{cases_Bool, cases_lt}
use Rattle.vpg_sides.specs.declared.player.Player.{Player}
use Rattle.vpg_sides.specs.declared.player.Player.TheVariants.{Even, Odd}
use Rattle.vpg_hope.specs.Games.{Game, HasEdge, owner_of, priority_of}
use Rattle.vpg_hope.specs.Strategies.{Strategy, AllowsMove, Wins}
use Rattle.vpg_hope.proofs.Edges.{AreEdgesInside, edges_inside}
use Rattle.vpg_hope.proofs.Reach.{cases_player}
use Rattle.vpg_requirement.specs.Systems.{PlainSystem, IsClosedSystem}
use Rattle.vpg_requirement.specs.NormalForms.{NormalForm, HasPriorities}
use Rattle.vpg_requirement.specs.Situations.{Situation, situation, moves_from, part_owner, part_priority, situation_at, IsGameOfSituations}
use Rattle.vpg_requirement.specs.Laws.{WhatHoldsIsWon}
use Rattle.vpg_requirement.proofs.Evaluation.{holds}
use Rattle.vpg_requirement.proofs.Fixpoints.{meaning_holds}
use Rattle.vpg_requirement.proofs.Signatures.{signature, passes, IsHeld, IsRankedAt, situation_ranked, situation_entered}
use Rattle.vpg_requirement.proofs.Steps.{size, value, IsFit, IsGoodMove}
use Rattle.vpg_requirement.proofs.Chosen.{Choice, choice, IsGoodChoice, chosen_good, moved_good, moves_ranked}
use Rattle.vpg_requirement.proofs.Cycles.{IsLowered, lowered_wins}

-- ---- how deep and how wide situations are

deepest : List Situation → ℕ
deepest [] = 0
deepest (q ∷ places) = length q.scope + deepest places

widest : List Situation → ℕ
widest [] = 1
widest (q ∷ places) = size q.part + widest places

deep : (places : List Situation) (v : ℕ) → length (situation_at places v).scope ≤ deepest places
unfolding deepest
deep [] v = omega arith
deep (q ∷ places) zero = omega arith
deep (q ∷ places) (suc v) = omega (arith, deep places v)

some_width : (places : List Situation) → 0 < widest places
unfolding widest
some_width [] = omega arith
some_width (q ∷ places) = omega (arith, some_width places)

wide_enough : (places : List Situation) (v : ℕ) → size (situation_at places v).part < widest places
unfolding widest
wide_enough [] v = omega arith
wide_enough (q ∷ places) zero = omega (arith, some_width places)
wide_enough (q ∷ places) (suc v) = omega (arith, wide_enough places v)

module _ (system : PlainSystem) (closed : IsClosedSystem system) (mover : Player) (low : ℕ) (places : List Situation) (game : Game) (arena : IsGameOfSituations mover low system places game) where
  depth : ℕ
  depth = deepest places

  wide : ℕ
  wide = widest places

  abbrev place : ℕ → Situation
  place v = situation_at places v

  fit : (v : ℕ) → IsFit system low depth wide (place v)
  unfolding depth wide
  fit v = record { short = deep places v; small = wide_enough places v }

  pub record IsGoodPlace (v : ℕ) : Type 0 where
    pub is_held : IsHeld system (place v)
    pub ranked : IsRankedAt low (place v)

  moved : (v : ℕ) → v < length game → Option (Choice (moves_from system (place v))) → Option ℕ
  moved v l None = None
  moved v l (Some c) = Some (arena.complete v l c.to c.is_move).0

  picked : (v : ℕ) → (v < length game) ⊎ (length game ≤ v) → (passes system (place v) (signature system (place v)) ≡ true) ⊎ (passes system (place v) (signature system (place v)) ≡ false) → Option ℕ
  picked v (inl l) (inl e) = moved v l (choice system (place v).state (place v).part (place v).scope (signature system (place v)) e)
  picked v (inl l) (inr e) = None
  picked v (inr l) d = None

  -- Even keeps to what holds
  strategy : Strategy
  strategy v = picked v (cases_lt v (length game)) (cases_Bool (passes system (place v) (signature system (place v))))

  record IsGoodPick (v : ℕ) (o : Option ℕ) : Type 0 where
    to : ℕ
    is_pick : o ≡ Some to
    edge : HasEdge game v to
    good : IsGoodMove system low depth wide (place v) (place to)

  fits : (v : ℕ) → v < length game → (q : Situation) → Contains (moves_from system (place v)) q → IsFit system low depth wide q
  fits v l q c = of (arena.complete v l q c)
    where
      of : (w : ℕ) × HasEdge game v w × (place w ≡ q) → IsFit system low depth wide q
      of w = subst (IsFit system low depth wide) w.2 (fit w.0)

  good_pick : (v : ℕ) → v < length game → IsGoodPlace v → part_owner mover (place v).part ≡ Even → (d : (v < length game) ⊎ (length game ≤ v)) (b : (passes system (place v) (signature system (place v)) ≡ true) ⊎ (passes system (place v) (signature system (place v)) ≡ false)) → IsGoodPick v (picked v d b)
  unfolding picked moved
  good_pick v l good even (inr past) b = absurd (omega arith)
  good_pick v l good even (inl k) (inr fails) = absurd (clash good.is_held.passing)
    where
      clash : passes system (place v) (signature system (place v)) ≡ true → ⊥
      clash t = cc (t, fails)
  good_pick v l good even (inl k) (inl e) = of (choice system (place v).state (place v).part (place v).scope (signature system (place v)) e)
      (chosen_good system closed mover low depth wide (place v).state (place v).part (place v).scope e good.is_held good.ranked (fit v) (fits v k) even)
    where
      of : (o : Option (Choice (moves_from system (place v)))) → IsGoodChoice system closed mover low depth wide (place v).state (place v).part (place v).scope o → IsGoodPick v (moved v k o)
      of o c = record {
        to = (arena.complete v k c.chosen.to c.chosen.is_move).0;
        is_pick = ap (moved v k) c.is_choice;
        edge = (arena.complete v k c.chosen.to c.chosen.is_move).1;
        good = subst (IsGoodMove system low depth wide (place v)) (sym (arena.complete v k c.chosen.to c.chosen.is_move).2) c.good;
      }

  closed_game : AreEdgesInside game
  closed_game = edges_inside game arena.inside

  abbrev number : ℕ → ℕ → ℕ
  number m v = value system low depth wide m (place v)

  lowered : (v w : ℕ) → v < length game → IsGoodPlace v → Contains (moves_from system (place v)) (place w) → IsGoodMove system low depth wide (place v) (place w) → IsGoodPlace w × IsLowered game number v w
  lowered v w l good c move = (
    record { is_held = move.is_held; ranked = moves_ranked system low (place v).state (place v).part (place v).scope (place w) good.ranked c },
    λ m odd le. of m (move.better m odd (omega (arith, arena.priorities v l, le))),
  )
    where
      of : (m : ℕ) → (number m w ≤ number m v) × (part_priority low (place v).part (place v).scope ≡ m → number m w < number m v) → (number m w ≤ number m v) × (priority_of game v ≡ m → number m w < number m v)
      of m h = (h.0, λ e. h.1 (sym (arena.priorities v l) ∙ e))

  chooses : (v : ℕ) → v < length game → IsGoodPlace v → owner_of game v ≡ Even → (w : ℕ) × AllowsMove game Even strategy v w
  unfolding strategy
  chooses v l good even = of (good_pick v l good (sym (arena.owners v l) ∙ even) (cases_lt v (length game)) (cases_Bool (passes system (place v) (signature system (place v)))))
    where
      of : IsGoodPick v (strategy v) → (w : ℕ) × AllowsMove game Even strategy v w
      of p = (p.to, (p.edge, λ e. p.is_pick))

  keeps : (v w : ℕ) → v < length game → IsGoodPlace v → AllowsMove game Even strategy v w → IsGoodPlace w × IsLowered game number v w
  unfolding strategy
  keeps v w l good a = lowered v w l good (arena.sound v w a.0) (decide (cases_player (owner_of game v) Even))
    where
      decide : (owner_of game v ≡ Even) ⊎ (owner_of game v ≡ Odd) → IsGoodMove system low depth wide (place v) (place w)
      decide (inl even) = of (good_pick v l good (sym (arena.owners v l) ∙ even) (cases_lt v (length game)) (cases_Bool (passes system (place v) (signature system (place v)))))
        where
          of : IsGoodPick v (strategy v) → IsGoodMove system low depth wide (place v) (place w)
          of p = subst (λ u. IsGoodMove system low depth wide (place v) (place u)) same p.good
            where
              taken : strategy v ≡ Some w
              taken = a.1 even

              chosen : strategy v ≡ Some p.to
              chosen = p.is_pick

              same : p.to ≡ w
              same = cc (taken, chosen)
      decide (inr odd) = moved_good system closed mover low depth wide (place v).state (place v).part (place v).scope (place w) good.is_held good.ranked (fit v) (fit w) (sym (arena.owners v l) ∙ odd) (arena.sound v w a.0)

  pub good_wins : (v : ℕ) → v < length game → IsGoodPlace v → (strategy : Strategy) × Wins game Even strategy v
  good_wins v l good = (strategy, lowered_wins game strategy closed_game IsGoodPlace number chooses keeps v l good)

  pub holding_is_good : (s v : ℕ) (form : NormalForm) → s < system.states → HasPriorities low [] form → place v ≡ situation s form [] → holds system [] form s ≡ true → IsGoodPlace v
  holding_is_good s v form inside ranked at e = record {
    is_held = subst (IsHeld system) (sym at) (situation_entered system depth low s form [] 0 inside (omega arith) ranked (subst (λ q. length q.scope ≤ depth) at (fit v).short) (omega arith) e).is_held;
    ranked = subst (IsRankedAt low) (sym at) (situation_ranked low s form [] ranked tt);
  }

pub what_holds_is_won : WhatHoldsIsWon
what_holds_is_won system form places game closed ranked arena s v s_inside v_inside at h =
    good_wins system closed Even 0 places game arena v v_inside
    (holding_is_good system closed Even 0 places game arena s v form s_inside ranked at (meaning_holds system closed form [] s s_inside h))

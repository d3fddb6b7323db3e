-- Moves that a play can come to win as all of them do.
use Rattle.std.proofs.Common.{◌≡◌, ℕ, ◌+◌, ◌<◌, ◌≤◌, ◌⊎◌, inl, inr, Bool, true, false, List, [], ◌∷◌, ◌++◌, length, get_or, Option, Some, None, refl, sym, ap, ◌∙◌, subst, arith}
use Rattle.std.proofs.lemmas.Bool.{cases_eq, cases_lt}
use Rattle.std.specs.Prelude.{All, IfSome}
use Rattle.std.proofs.lemmas.List.Elements.{All-from_get_or}
use Rattle.std.proofs.lemmas.List.{length-append, get_or_append_left, get_or_past}
use Rattle.std.proofs.Math.Seq.{get_or-append_seam}
use Rattle.vpg_sides.specs.declared.player.Player.{Player}
use Rattle.vpg_sides.specs.declared.player.Player.TheVariants.{Even, Odd}
use Rattle.vpg_hope.specs.Games.{Game, HasEdge, owner_of}
use Rattle.vpg_hope.specs.Strategies.{AllowsMove, Reaches, here, onward, Walk, move, moves, Wins}
use Rattle.vpg_measure.specs.Views.{strategy_of}
use Rattle.vpg_hope.proofs.Edges.{AreEdgesInside}
use Rattle.vpg_why.specs.Played.{AreReached, ArePlayed, move_if}

abbrev or_zero : Option ℕ → ℕ
or_zero None = 0
or_zero (Some n) = n

some_injective : {x y : ℕ} → Some x ≡ Some y → x ≡ y
some_injective e = ap or_zero e

module _ (game : Game) (all : List (Option ℕ)) (first : ℕ) (some : List (Option ℕ)) (is : ArePlayed game all first some) where
  allowed : (v w : ℕ) → AllowsMove game Even (strategy_of some) v w → AllowsMove game Even (strategy_of all) v w
  allowed v w a = (a.0, λ e. ((is.played v w).0 (a.1 e)).2)

  comes : {v w : ℕ} → Reaches game Even (strategy_of some) v w → Reaches game Even (strategy_of all) v w
  comes here = here
  comes (onward {v} {w} {u} a r) = onward (allowed v w a) (comes r)

  walks : {v w m : ℕ} → Walk game Even (strategy_of some) v w m → Walk game Even (strategy_of all) v w m
  walks (move {v} {w} a) = move (allowed v w a)
  walks (moves {v} {w} {u} a r) = moves (allowed v w a) (walks r)

  pub played_wins : Wins game Even (strategy_of all) first → Wins game Even (strategy_of some) first
  played_wins wins = record {
    can_move = λ u r own. at u (comes r) own (wins.can_move u (comes r) own);
    cycles = λ u m r walk. wins.cycles u m (comes r) (walks walk);
  }
    where
      at : (u : ℕ) → Reaches game Even (strategy_of all) first u → owner_of game u ≡ Even → (w : ℕ) × AllowsMove game Even (strategy_of all) u w → (w : ℕ) × AllowsMove game Even (strategy_of some) u w
      at u r own (w, a) = (w, (a.0, λ e. (is.played u w).1 (r, own, a.1 own)))

  -- each leads to a vertex of the game
  pub played_inside : AreEdgesInside game → Wins game Even (strategy_of all) first → All (λ m. IfSome m (λ w. w < length game)) some
  played_inside closed wins = All-from_get_or (λ m. IfSome m (λ w. w < length game)) some None (λ v l. at v (get_or some v None) refl)
    where
      at : (v : ℕ) (m : Option ℕ) → get_or some v None ≡ m → IfSome m (λ w. w < length game)
      at v None e = tt
      at v (Some w) e = along ((is.played v w).0 e)
        where
          along : Reaches game Even (strategy_of all) first v × (owner_of game v ≡ Even) × (strategy_of all v ≡ Some w) → w < length game
          along h = closed v w (edge (wins.can_move v h.0 h.1))
            where
              edge : (u : ℕ) × AllowsMove game Even (strategy_of all) v u → HasEdge game v w
              edge (u, a) = subst (λ x. HasEdge game v x) (some_injective (sym (a.1 h.1) ∙ h.2)) a.0

-- ---- the list of them

move_is : (owner : Player) (is_reached : Bool) (choice : Option ℕ) (w : ℕ) → move_if owner is_reached choice ≡ Some w → (is_reached ≡ true) × (owner ≡ Even) × (choice ≡ Some w)
move_is Even true choice w e = (refl, refl, e)
move_is Even false choice w e = absurd (cc e)
move_is Odd is_reached choice w e = absurd (cc e)

is_move : (owner : Player) (is_reached : Bool) (choice : Option ℕ) (w : ℕ) → is_reached ≡ true → owner ≡ Even → choice ≡ Some w → move_if owner is_reached choice ≡ Some w
is_move owner is_reached choice w r o c = ap (λ b. move_if owner b choice) r ∙ ap (λ p. move_if p true choice) o ∙ c

-- the vertices so far
pub record ArePlayedBelow (game : Game) (moves : List (Option ℕ)) (marks : List Bool) (n : ℕ) (played : List (Option ℕ)) : Type 0 where
  pub count : length played ≡ n
  pub each : (v : ℕ) → v < n → get_or played v None ≡ move_if (owner_of game v) (get_or marks v false) (get_or moves v None)

module _ (game : Game) (moves : List (Option ℕ)) (marks : List Bool) where
  pub played_none : ArePlayedBelow game moves marks 0 []
  played_none = record { count = refl; each = λ v l. absurd (omega arith) }

  pub played_next : (n : ℕ) (played : List (Option ℕ)) (x : Option ℕ) → ArePlayedBelow game moves marks n played → x ≡ move_if (owner_of game n) (get_or marks n false) (get_or moves n None) →
      ArePlayedBelow game moves marks (n + 1) (played ++ x ∷ [])
  played_next n played x is this = record {
    count = length-append played (x ∷ []) ∙ ap (λ k. k + 1) is.count;
    each = λ v l. at v l (cases_eq v n);
  }
    where
      at : (v : ℕ) → v < n + 1 → (v ≡ n) ⊎ (v ≡ n → ⊥) → get_or (played ++ x ∷ []) v None ≡ move_if (owner_of game v) (get_or marks v false) (get_or moves v None)
      at v l (inl e) = ap (λ k. get_or (played ++ x ∷ []) k None) (e ∙ sym is.count) ∙ get_or-append_seam played x [] None ∙ this
          ∙ ap (λ k. move_if (owner_of game k) (get_or marks k false) (get_or moves k None)) (sym e)
      at v l (inr ne) = get_or_append_left played (x ∷ []) None v (omega (arith, l, is.count, smaller l ne)) ∙ is.each v (smaller l ne)
        where
          smaller : v < n + 1 → (v ≡ n → ⊥) → v < n
          smaller a b = omega arith

  pub played_all : (first n : ℕ) (played : List (Option ℕ)) → n ≡ length game → AreReached game moves first marks → ArePlayedBelow game moves marks n played → ArePlayed game moves first played
  played_all first n played all reached is = record {
    count = is.count ∙ all;
    played = λ v w. (to v w, from v w);
  }
    where
      there : (v : ℕ) → (v < n) ⊎ (n ≤ v) → (w : ℕ) → get_or played v None ≡ Some w → v < n
      there v (inl l) w e = l
      there v (inr m) w e = absurd (cc (sym (get_or_past played v None (omega (arith, is.count, m))) ∙ e))

      to : (v w : ℕ) → get_or played v None ≡ Some w → Reaches game Even (strategy_of moves) first v × (owner_of game v ≡ Even) × (strategy_of moves v ≡ Some w)
      to v w e =
          let m = move_is (owner_of game v) (get_or marks v false) (get_or moves v None) w (sym (is.each v (there v (cases_lt v n) w e)) ∙ e) in
          ((reached.1 v).0 m.0, m.1, m.2)

      within : (v : ℕ) → (v < length marks) ⊎ (length marks ≤ v) → get_or marks v false ≡ true → v < length marks
      within v (inl l) m = l
      within v (inr p) m = absurd (cc (sym (get_or_past marks v false p) ∙ m))

      from : (v w : ℕ) → Reaches game Even (strategy_of moves) first v × (owner_of game v ≡ Even) × (strategy_of moves v ≡ Some w) → get_or played v None ≡ Some w
      from v w h =
          let m = (reached.1 v).1 h.0 in
          is.each v (omega (arith, within v (cases_lt v (length marks)) m, reached.0, all))
          ∙ is_move (owner_of game v) (get_or marks v false) (get_or moves v None) w m h.1 h.2

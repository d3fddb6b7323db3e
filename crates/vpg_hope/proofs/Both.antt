-- No vertex is won by both players.
use Rattle.std.proofs.Common.{◌≡◌, ℕ, zero, suc, ◌*◌, ◌≤◌, ◌%◌, ◌⊎◌, inl, inr, true, length, max, refl, count_by, Some, arith}
use Rattle.std.proofs.lemmas.List.Sums.{sum_by-le}
use Rattle.vpg_sides.specs.declared.player.Player.TheVariants.{Even, Odd}
use Rattle.vpg_hope.specs.Games.{Game, Vertex, isolated, owner_of, priority_of}
use Rattle.vpg_hope.specs.Strategies.{Strategy, AllowsMove, Reaches, Walk, Wins, here, move, moves}
use Rattle.vpg_hope.proofs.Reach.{cases_player, reaches_move}
use Rattle.vpg_hope.proofs.Trails.{Way, nowhere, further, Trail, stop, meet, trail_bound}
use Rattle.vpg_hope.proofs.Edges.{edge_inside}

module _ (game : Game) (for_even for_odd : Strategy) (start : ℕ) (even_wins : Wins game Even for_even start) (odd_wins : Wins game Odd for_odd start) where
  abbrev AreReached : ℕ → Type 0
  AreReached v = Reaches game Even for_even start v × Reaches game Odd for_odd start v

  -- a move that both strategies allow
  abbrev Step : ℕ → ℕ → Type 0
  Step v w = AreReached v × AllowsMove game Even for_even v w × AllowsMove game Odd for_odd v w

  abbrev Counted : ℕ → Type 0
  Counted v = Unit {0}

  next : (v : ℕ) → AreReached v → (w : ℕ) × Step v w
  next v r = of (cases_player (owner_of game v) Even)
    where
      of : (owner_of game v ≡ Even) ⊎ (owner_of game v ≡ Odd) → (w : ℕ) × Step v w
      of (inl even) = with (even_wins.can_move v r.0 even)
        where
          with : (w : ℕ) × AllowsMove game Even for_even v w → (w : ℕ) × Step v w
          with w = (w.0, (r, w.1, (w.1.0, λ odd. clash odd)))
            where
              clash : owner_of game v ≡ Odd → for_odd v ≡ Some w.0
              clash odd = cc (even, odd)
      of (inr odd) = with (odd_wins.can_move v r.1 odd)
        where
          with : (w : ℕ) × AllowsMove game Odd for_odd v w → (w : ℕ) × Step v w
          with w = (w.0, (r, (w.1.0, λ even. clash even), w.1))
            where
              clash : owner_of game v ≡ Even → for_even v ≡ Some w.0
              clash even = cc (even, odd)

  -- the play never ends
  trail : (k v : ℕ) → AreReached v → Trail Step Counted v k
  trail zero v r = stop
  trail (suc k) v r = longer (next v r) (λ w q. trail k w q)
    where
      longer : (w : ℕ) × Step v w → ((w : ℕ) → AreReached w → Trail Step Counted w k) → Trail Step Counted v (suc k)
      longer w rest = meet tt w.1 (rest w.0 (reaches_move game Even for_even w.1.0.0 w.1.1, reaches_move game Odd for_odd w.1.0.1 w.1.2))

  record IsWalkOfBoth (v u : ℕ) : Type 0 where
    greatest_priority : ℕ
    even_walk : Walk game Even for_even v u greatest_priority
    odd_walk : Walk game Odd for_odd v u greatest_priority

  way_walk : {v w u : ℕ} → Step v w → Way Step w u → IsWalkOfBoth v u
  way_walk {v} s nowhere = record { greatest_priority = priority_of game v; even_walk = move s.1; odd_walk = move s.2 }
  way_walk {v} {w} {u} s (further s' way) = longer (way_walk s' way)
    where
      longer : IsWalkOfBoth w u → IsWalkOfBoth v u
      longer h = record { greatest_priority = max (priority_of game v) h.greatest_priority; even_walk = moves s.1 h.even_walk; odd_walk = moves s.2 h.odd_walk }

  acyclic : (v w : ℕ) → Counted v → Step v w → Way Step w v → ⊥
  acyclic v w c s way = clash (way_walk s way)
    where
      clash : IsWalkOfBoth v v → ⊥
      clash h = parities h.greatest_priority (even_wins.cycles v h.greatest_priority s.0.0 h.even_walk) (odd_wins.cycles v h.greatest_priority s.0.1 h.odd_walk)
        where
          parities : (n : ℕ) → n % 2 ≡ 0 → n % 2 ≡ 1 → ⊥
          parities n a b = omega arith

  pub not_both : ⊥
  not_both = too_long (trail_bound Step Counted acyclic (λ x. true) game isolated (λ v w s. edge_inside game v w s.1.0) (λ v l c. refl) start (suc (length game)) (trail (suc (length game)) start (here, here)))
    where
      at_most : count_by (λ (x : Vertex). true) game ≤ length game * 1
      at_most = sum_by-le (λ x. 1) 1 game (λ k d l. omega arith)

      too_long : suc (length game) ≤ count_by (λ (x : Vertex). true) game → ⊥
      too_long h = omega (arith, at_most)

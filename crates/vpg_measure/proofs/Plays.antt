-- A winning strategy wins every infinite play that it allows.
use Rattle.std.proofs.Common.{◌≡◌, ℕ, zero, suc, ◌+◌, ◌-◌, ◌≤◌, ◌%◌, ◌==◌, ◌⊎◌, inl, inr, get_or, max, ◌∙◌, subst, eq-eqb, count_by, add-zero, arith}
use Rattle.std.proofs.lemmas.List.{get_or-map, length-map}
use Rattle.vpg_sides.specs.declared.player.Player.{Player}
use Rattle.vpg_sides.specs.declared.player.Player.TheVariants.{Even, Odd}
use Rattle.vpg_sides.specs.Players.{WinsAt}
use Rattle.vpg_hope.specs.Games.{Game, Vertex, isolated, priority_of, priorities}
use Rattle.vpg_hope.specs.Strategies.{Strategy, AllowsMove, Reaches, Walk, Wins, IsPlay, IsGreatestRecurring, here, move, moves}
use Rattle.vpg_hope.proofs.Edges.{edge_inside}
use Rattle.vpg_hope.proofs.Reach.{reaches_move}
use Rattle.vpg_hope.proofs.Trails.{Way, nowhere, further, Trail, stop, meet, pass, trail_bound}
use Rattle.vpg_measure.proofs.Winning.{cases_parity}

wins_or_not : (player : Player) (p : ℕ) → WinsAt player p ⊎ (WinsAt player p → ⊥)
wins_or_not Even p = of (cases_parity p)
  where
    of : (p % 2 ≡ 0) ⊎ (p % 2 ≡ 1) → (p % 2 ≡ 0) ⊎ (p % 2 ≡ 0 → ⊥)
    of (inl e) = inl e
    of (inr o) = inr (λ e. omega arith)
wins_or_not Odd p = of (cases_parity p)
  where
    of : (p % 2 ≡ 0) ⊎ (p % 2 ≡ 1) → (p % 2 ≡ 1) ⊎ (p % 2 ≡ 1 → ⊥)
    of (inl e) = inr (λ o. omega arith)
    of (inr o) = inl o

module _ (game : Game) (player : Player) (strategy : Strategy) (play : ℕ → ℕ) (is_play : IsPlay game player strategy play) (p : ℕ) where
  -- a move of the play from a vertex of priority at most p
  abbrev Step : ℕ → ℕ → Type 0
  Step v w = Reaches game player strategy (play 0) v × AllowsMove game player strategy v w × (priority_of game v ≤ p)

  abbrev HasPriority : ℕ → Type 0
  HasPriority v = priority_of game v ≡ p

  reached : (i : ℕ) → Reaches game player strategy (play 0) (play i)
  reached zero = here
  reached (suc i) = reaches_move game player strategy (reached i) (is_play i)

  -- the play passes on from i to i + d
  pass_on : (d i k : ℕ) → ((j : ℕ) → i ≤ j → priority_of game (play j) ≤ p) → Trail Step HasPriority (play (i + d)) k → Trail Step HasPriority (play i) k
  pass_on zero i k low t = subst (λ j. Trail Step HasPriority (play j) k) (add-zero i) t
  pass_on (suc d) i k low t = pass (reached i, is_play i, low i (omega arith)) (pass_on d (suc i) k (λ j l. low j (omega arith)) (subst (λ j. Trail Step HasPriority (play j) k) same t))
    where
      same : i + suc d ≡ suc i + d
      same = omega arith

  -- it meets priority p any number of times
  meets : IsGreatestRecurring game play p → (k i : ℕ) → ((j : ℕ) → i ≤ j → priority_of game (play j) ≤ p) → Trail Step HasPriority (play i) k
  meets recurring zero i low = stop
  meets recurring (suc k) i low = next (recurring.again i) (λ j l. meets recurring k (suc j) (λ n m. low n (omega arith)))
    where
      next : (j : ℕ) × (i ≤ j) × (priority_of game (play j) ≡ p) → ((j : ℕ) → i ≤ j → Trail Step HasPriority (play (suc j)) k) → Trail Step HasPriority (play i) (suc k)
      next j rest = pass_on (j.0 - i) i (suc k) low (subst (λ n. Trail Step HasPriority (play n) (suc k)) same (meet j.2 (reached j.0, is_play j.0, low j.0 j.1) (rest j.0 j.1)))
        where
          same : j.0 ≡ i + (j.0 - i)
          same = omega (arith, j.1)

  -- a way through priorities of at most p from a vertex of priority p is a walk whose greatest priority is p
  record IsWalk (v u : ℕ) : Type 0 where
    greatest_priority : ℕ
    walk : Walk game player strategy v u greatest_priority
    bounded : greatest_priority ≤ p
    attained : HasPriority v → greatest_priority ≡ p

  way_walk : {v w u : ℕ} → Step v w → Way Step w u → IsWalk v u
  way_walk {v} s nowhere = record { greatest_priority = priority_of game v; walk = move s.1; bounded = s.2; attained = λ e. e }
  way_walk {v} {w} {u} s (further s' way) = longer (way_walk s' way)
    where
      longer : IsWalk w u → IsWalk v u
      longer h = record { greatest_priority = max (priority_of game v) h.greatest_priority; walk = moves s.1 h.walk; bounded = both s.2 h.bounded; attained = λ e. attained e h.bounded }
        where
          both : priority_of game v ≤ p → h.greatest_priority ≤ p → max (priority_of game v) h.greatest_priority ≤ p
          both a b = omega arith

          attained : priority_of game v ≡ p → h.greatest_priority ≤ p → max (priority_of game v) h.greatest_priority ≡ p
          attained a b = omega arith

  pub play_won : Wins game player strategy (play 0) → IsGreatestRecurring game play p → WinsAt player p
  play_won wins recurring = of (wins_or_not player p)
    where
      of : WinsAt player p ⊎ (WinsAt player p → ⊥) → WinsAt player p
      of (inl h) = h
      of (inr n) = absurd (too_long (trail_bound Step HasPriority acyclic (λ q. q == p) (priorities game) 0
          (λ v w s. rw length-map (edge_inside game v w s.1.0))
          (λ v inside e. eq-eqb (get_or (priorities game) v 0) p (get_or-map (λ (vertex : Vertex). vertex.priority) game v isolated 0 (rw length-map at inside) ∙ e))
          (play recurring.greatest.0) (suc (count_by (λ q. q == p) (priorities game))) (meets recurring (suc (count_by (λ q. q == p) (priorities game))) recurring.greatest.0 recurring.greatest.1)))
        where
          acyclic : (v w : ℕ) → HasPriority v → Step v w → Way Step w v → ⊥
          acyclic v w e s way = clash (way_walk s way)
            where
              clash : IsWalk v v → ⊥
              clash h = n (subst (λ x. WinsAt player x) (h.attained e) (wins.cycles v h.greatest_priority s.0 h.walk))

          too_long : suc (count_by (λ q. q == p) (priorities game)) ≤ count_by (λ q. q == p) (priorities game) → ⊥
          too_long h = omega arith

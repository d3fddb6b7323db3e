-- A player wins a game where the opponent wins its dual.
use Rattle.std.proofs.Common.{◌≡◌, ℕ, zero, suc, ◌<◌, [], ◌∷◌, length, max, refl, sym, ap, ◌∙◌, subst, arith}
use Rattle.vpg_sides.specs.declared.player.Player.{Player}
use Rattle.vpg_sides.specs.declared.player.Player.TheVariants.{Even, Odd}
use Rattle.vpg_sides.specs.Players.{WinsAt, opponent}
use Rattle.vpg_hope.specs.Games.{Game, HasEdge, owner_of, priority_of, successors_of}
use Rattle.vpg_hope.specs.Strategies.{Strategy, AllowsMove, Reaches, Walk, Wins, here, onward, move, moves}
use Rattle.vpg_hope.specs.Comparison.{dual_game}
use Rattle.vpg_hope.proofs.Reach.{reaches_inside}
use Rattle.vpg_hope.proofs.Edges.{AreEdgesInside, edge_inside}

dual_owner : (game : Game) (v : ℕ) → v < length game → owner_of (dual_game game) v ≡ opponent (owner_of game v)
dual_owner [] v l = absurd (omega arith)
dual_owner (x ∷ game) zero l = refl
dual_owner (x ∷ game) (suc v) l = dual_owner game v (omega arith)

dual_priority : (game : Game) (v : ℕ) → v < length game → priority_of (dual_game game) v ≡ suc (priority_of game v)
dual_priority [] v l = absurd (omega arith)
dual_priority (x ∷ game) zero l = refl
dual_priority (x ∷ game) (suc v) l = dual_priority game v (omega arith)

dual_successors : (game : Game) (v : ℕ) → successors_of (dual_game game) v ≡ successors_of game v
dual_successors [] v = refl
dual_successors (x ∷ game) zero = refl
dual_successors (x ∷ game) (suc v) = dual_successors game v

pub opponent_twice : (p : Player) → opponent (opponent p) ≡ p
opponent_twice Even = refl
opponent_twice Odd = refl

parity_up : (p : Player) (n : ℕ) → WinsAt p n → WinsAt (opponent p) (suc n)
parity_up Even n h = omega arith
parity_up Odd n h = omega arith

parity_down : (p : Player) (n : ℕ) → WinsAt (opponent p) (suc n) → WinsAt p n
parity_down Even n h = omega arith
parity_down Odd n h = omega arith

module _ (game : Game) (player : Player) (strategy : Strategy) where
  to_dual_edge : (v w : ℕ) → HasEdge game v w → HasEdge (dual_game game) v w
  to_dual_edge v w e = rw (dual_successors game v) e

  from_dual_edge : (v w : ℕ) → HasEdge (dual_game game) v w → HasEdge game v w
  from_dual_edge v w e = rw (dual_successors game v) at e

  owner_back : (v : ℕ) → v < length game → owner_of (dual_game game) v ≡ opponent player → owner_of game v ≡ player
  owner_back v l e = sym (opponent_twice (owner_of game v)) ∙ ap opponent (sym (dual_owner game v l) ∙ e) ∙ opponent_twice player

  owner_forth : (v : ℕ) → v < length game → owner_of game v ≡ player → owner_of (dual_game game) v ≡ opponent player
  owner_forth v l e = dual_owner game v l ∙ ap opponent e

  to_dual : (v w : ℕ) → AllowsMove game player strategy v w → AllowsMove (dual_game game) (opponent player) strategy v w
  to_dual v w a = (to_dual_edge v w a.0, λ e. a.1 (owner_back v (edge_inside game v w a.0) e))

  from_dual : (v w : ℕ) → AllowsMove (dual_game game) (opponent player) strategy v w → AllowsMove game player strategy v w
  from_dual v w a = (from_dual_edge v w a.0, λ e. a.1 (owner_forth v (edge_inside game v w (from_dual_edge v w a.0)) e))

  reaches_to_dual : {v u : ℕ} → Reaches game player strategy v u → Reaches (dual_game game) (opponent player) strategy v u
  reaches_to_dual here = here
  reaches_to_dual (onward {v} {w} a r) = onward (to_dual v w a) (reaches_to_dual r)

  reaches_from_dual : {v u : ℕ} → Reaches (dual_game game) (opponent player) strategy v u → Reaches game player strategy v u
  reaches_from_dual here = here
  reaches_from_dual (onward {v} {w} a r) = onward (from_dual v w a) (reaches_from_dual r)

  walk_to_dual : {v u m : ℕ} → Walk game player strategy v u m → Walk (dual_game game) (opponent player) strategy v u (suc m)
  walk_to_dual (move {v} {w} a) = subst (λ n. Walk (dual_game game) (opponent player) strategy v w n) (dual_priority game v (edge_inside game v w a.0)) (move (to_dual v w a))
  walk_to_dual (moves {v} {w} {u} {m} a q) = subst (λ n. Walk (dual_game game) (opponent player) strategy v u n) (up (dual_priority game v (edge_inside game v w a.0))) (moves (to_dual v w a) (walk_to_dual q))
    where
      up : priority_of (dual_game game) v ≡ suc (priority_of game v) → max (priority_of (dual_game game) v) (suc m) ≡ suc (max (priority_of game v) m)
      up e = omega arith

  -- a walk of the dual and one of the game, one priority apart
  record IsRaised (v u m : ℕ) : Type 0 where
    base : ℕ
    walk : Walk game player strategy v u base
    raised : m ≡ suc base

  walk_from_dual : {v u m : ℕ} → Walk (dual_game game) (opponent player) strategy v u m → IsRaised v u m
  walk_from_dual (move {v} {w} a) = record { base = priority_of game v; walk = move (from_dual v w a); raised = dual_priority game v (edge_inside game v w (from_dual_edge v w a.0)) }
  walk_from_dual (moves {v} {w} {u} {m} a q) = longer (walk_from_dual q) (dual_priority game v (edge_inside game v w (from_dual_edge v w a.0)))
    where
      longer : IsRaised w u m → priority_of (dual_game game) v ≡ suc (priority_of game v) → IsRaised v u (max (priority_of (dual_game game) v) m)
      longer h e = record { base = max (priority_of game v) h.base; walk = moves (from_dual v w a) h.walk; raised = omega (arith, h.raised) }

  pub wins_to_dual : (start : ℕ) → AreEdgesInside game → start < length game → Wins game player strategy start → Wins (dual_game game) (opponent player) strategy start
  wins_to_dual start closed inside wins = record { can_move = can_move; cycles = cycles }
    where
      can_move : (u : ℕ) → Reaches (dual_game game) (opponent player) strategy start u → owner_of (dual_game game) u ≡ opponent player → (w : ℕ) × AllowsMove (dual_game game) (opponent player) strategy u w
      can_move u r e = chosen (wins.can_move u (reaches_from_dual r) (owner_back u (reaches_inside game player strategy closed inside (reaches_from_dual r)) e))
        where
          chosen : (w : ℕ) × AllowsMove game player strategy u w → (w : ℕ) × AllowsMove (dual_game game) (opponent player) strategy u w
          chosen w = (w.0, to_dual u w.0 w.1)

      cycles : (u m : ℕ) → Reaches (dual_game game) (opponent player) strategy start u → Walk (dual_game game) (opponent player) strategy u u m → WinsAt (opponent player) m
      cycles u m r q = of (walk_from_dual q)
        where
          of : IsRaised u u m → WinsAt (opponent player) m
          of h = rw h.raised (parity_up player h.base (wins.cycles u h.base (reaches_from_dual r) h.walk))

  pub wins_from_dual : (start : ℕ) → AreEdgesInside game → start < length game → Wins (dual_game game) (opponent player) strategy start → Wins game player strategy start
  wins_from_dual start closed inside wins = record { can_move = can_move; cycles = λ u m r q. parity_down player m (wins.cycles u (suc m) (reaches_to_dual r) (walk_to_dual q)) }
    where
      can_move : (u : ℕ) → Reaches game player strategy start u → owner_of game u ≡ player → (w : ℕ) × AllowsMove game player strategy u w
      can_move u r e = chosen (wins.can_move u (reaches_to_dual r) (owner_forth u (reaches_inside game player strategy closed inside r) e))
        where
          chosen : (w : ℕ) × AllowsMove (dual_game game) (opponent player) strategy u w → (w : ℕ) × AllowsMove game player strategy u w
          chosen w = (w.0, from_dual u w.0 w.1)

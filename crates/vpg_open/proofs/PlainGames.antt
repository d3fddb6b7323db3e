-- Plain games in which vertices with a known winner are won at once: who wins elsewhere stays the same.
use Rattle.std.proofs.Common.{◌≡◌, ℕ, ◌⊎◌, inl, inr, [], max, Option, Some, None, get_or, refl, sym, ◌∙◌, ap, subst, Contains}
use Rattle.vpg_sides.specs.declared.player.Player.{Player}
use Rattle.vpg_sides.specs.declared.player.Player.TheVariants.{Even, Odd}
use Rattle.vpg_sides.specs.Players.{opponent}
use Rattle.vpg_hope.specs.Games.{Game, Vertex, isolated, HasEdge, owner_of, priority_of}
use Rattle.vpg_hope.specs.Strategies.{Strategy, AllowsMove, Reaches, Walk, Wins, here, onward, move, moves}
use Rattle.vpg_hope.proofs.Both.{not_both}
use Rattle.vpg_hope.proofs.Edges.{not_in_nil}
use Rattle.vpg_hope.proofs.Reach.{reaches_trans}
use Rattle.vpg_determined.specs.Determined.{HasWin}

-- a vertex that is won at once, if it has a winner
abbrev pub won_vertex : Vertex → Option Player → Vertex
won_vertex vertex None = vertex
won_vertex vertex (Some winner) =
    record { owner = opponent winner; priority = vertex.priority; successors = [] }

-- no vertex is won by both
one_winner : (game : Game) (player : Player) (v : ℕ) → HasWin game player v → HasWin game (opponent player) v → ⊥
one_winner game Even v h k = not_both game h.0 k.0 v h.1 k.1
one_winner game Odd v h k = not_both game k.0 h.0 v k.1 h.1

-- a strategy that wins from a vertex wins from each one that its plays reach
pub wins_there : (game : Game) (player : Player) (strategy : Strategy) (v u : ℕ) → Wins game player strategy v →
    Reaches game player strategy v u → Wins game player strategy u
wins_there game player strategy v u wins r = record {
  can_move = λ x q. wins.can_move x (reaches_trans game player strategy r q);
  cycles = λ x m q. wins.cycles x m (reaches_trans game player strategy r q);
}

cases_winner : (winner : Option Player) → (winner ≡ None) ⊎ ((player : Player) × (winner ≡ Some player))
cases_winner None = inl refl
cases_winner (Some player) = inr (player, refl)

module _ (game made : Game) (winners : ℕ → Option Player)
    (is : (v : ℕ) → get_or made v isolated ≡ won_vertex (get_or game v isolated) (winners v))
    (right : (v : ℕ) (player : Player) → winners v ≡ Some player → HasWin game player v) where
  -- ---- what stays

  priority_stays : (v : ℕ) → priority_of made v ≡ priority_of game v
  priority_stays v = ap (λ (x : Vertex). x.priority) (is v) ∙ of (winners v)
    where
      of : (w : Option Player) → (won_vertex (get_or game v isolated) w).priority ≡ priority_of game v
      of None = refl
      of (Some player) = refl

  open_stays : (v : ℕ) → winners v ≡ None → get_or made v isolated ≡ get_or game v isolated
  open_stays v e = is v ∙ ap (won_vertex (get_or game v isolated)) e

  won_owner : (v : ℕ) (player : Player) → winners v ≡ Some player → owner_of made v ≡ opponent player
  won_owner v player e =
      ap (λ (x : Vertex). x.owner) (is v ∙ ap (won_vertex (get_or game v isolated)) e)

  -- a vertex that is won at once has no edge
  leaves_open : (v w : ℕ) → HasEdge made v w → winners v ≡ None
  leaves_open v w e = of (cases_winner (winners v))
    where
      of : (winners v ≡ None) ⊎ ((player : Player) × (winners v ≡ Some player)) → winners v ≡ None
      of (inl n) = n
      of (inr p) = absurd (not_in_nil w (subst (λ (x : Vertex). Contains x.successors w)
          (is v ∙ ap (won_vertex (get_or game v isolated)) p.1) e))

  module _ (player : Player) (strategy : Strategy) where
    -- moves of the new game are moves of the old one, and back at open vertices
    move_back : (v w : ℕ) → AllowsMove made player strategy v w → AllowsMove game player strategy v w
    move_back v w a =
        subst (λ (x : Vertex). Contains x.successors w × (x.owner ≡ player → strategy v ≡ Some w))
        (open_stays v (leaves_open v w a.0)) a

    move_there : (v w : ℕ) → winners v ≡ None → AllowsMove game player strategy v w →
        AllowsMove made player strategy v w
    move_there v w e a =
        subst (λ (x : Vertex). Contains x.successors w × (x.owner ≡ player → strategy v ≡ Some w))
        (sym (open_stays v e)) a

    reaches_back : {v u : ℕ} → Reaches made player strategy v u → Reaches game player strategy v u
    reaches_back here = here
    reaches_back (onward {v} {w} a r) = onward (move_back v w a) (reaches_back r)

    walk_back : {v u m : ℕ} → Walk made player strategy v u m → Walk game player strategy v u m
    walk_back (move {v} {w} a) =
        subst (Walk game player strategy v w) (sym (priority_stays v)) (move (move_back v w a))
    walk_back (moves {v} {w} {u} {m} a q) =
        subst (λ (n : ℕ). Walk game player strategy v u (max n m)) (sym (priority_stays v))
        (moves (move_back v w a) (walk_back q))

    -- A strategy that wins the old game wins the new one. A vertex that its plays reach and that is won at once is won
    -- by its player, so the opponent has to move there, and cannot.
    pub wins_stay : (v : ℕ) → Wins game player strategy v → Wins made player strategy v
    wins_stay v wins = record { can_move = can; cycles = λ u m r q. wins.cycles u m (reaches_back r) (walk_back q) }
      where
        can : (u : ℕ) → Reaches made player strategy v u → owner_of made u ≡ player →
            (w : ℕ) × AllowsMove made player strategy u w
        can u r own = of (cases_winner (winners u))
          where
            of : (winners u ≡ None) ⊎ ((other : Player) × (winners u ≡ Some other)) →
                (w : ℕ) × AllowsMove made player strategy u w
            of (inl e) = with (wins.can_move u (reaches_back r)
                (subst (λ (x : Vertex). x.owner ≡ player) (open_stays u e) own))
              where
                with : (w : ℕ) × AllowsMove game player strategy u w → (w : ℕ) × AllowsMove made player strategy u w
                with x = (x.0, move_there u x.0 e x.1)
            of (inr p) = absurd (one_winner game p.0 u (right u p.0 p.1)
                (subst (λ (q : Player). HasWin game q u) (sym own ∙ won_owner u p.0 p.1)
                (strategy, wins_there game player strategy v u wins (reaches_back r))))

  -- so where one player wins the old game, only that player wins the new one
  pub winner_stays : (player : Player) (v : ℕ) → HasWin game Even v ⊎ HasWin game Odd v → HasWin made player v →
      HasWin game player v
  winner_stays player v one h = of player one h
    where
      of : (player : Player) → HasWin game Even v ⊎ HasWin game Odd v → HasWin made player v → HasWin game player v
      of Even (inl k) h = k
      of Even (inr k) h = absurd (not_both made h.0 k.0 v h.1 (wins_stay Odd k.0 v k.1))
      of Odd (inl k) h = absurd (not_both made k.0 h.0 v (wins_stay Even k.0 v k.1) h.1)
      of Odd (inr k) h = k

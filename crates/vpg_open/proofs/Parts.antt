-- A plain game that is a part of another one, with places of its own for its vertices: who wins stays the same.
use Rattle.std.proofs.Common.{◌≡◌, ℕ, ◌<◌, ◌⊎◌, ◌↔◌, inl, inr, List, [], ◌∷◌, length, map, max, Option, Some, None, get_or, refl, sym, ◌∙◌, ap, subst, Contains}
use Rattle.vpg_sides.specs.declared.player.Player.{Player}
use Rattle.vpg_sides.specs.declared.player.Player.TheVariants.{Even, Odd}
use Rattle.vpg_sides.specs.Players.{WinsAt}
use Rattle.vpg_game.proofs.Parts.{some_is}
use Rattle.vpg_hope.specs.Games.{Game, Vertex, isolated, HasEdge, owner_of, priority_of, successors_of}
use Rattle.vpg_hope.specs.Strategies.{Strategy, AllowsMove, Reaches, Walk, Wins, here, onward, move, moves}
use Rattle.vpg_hope.proofs.Both.{not_both}
use Rattle.vpg_hope.proofs.Edges.{not_in_nil, Contains-first, Contains-later, Contains-cases}
use Rattle.vpg_determined.specs.Determined.{HasWin}
use Rattle.vpg_open.proofs.PlainGames.{wins_there}

-- ---- what a list's image contains

pub map_there : {X Y : Type 0} (f : X → Y) (xs : List X) (x : X) → Contains xs x → Contains (map f xs) (f x)
map_there {X = X} {Y = Y} f [] x c = absurd (not_in_nil x c)
map_there {X = X} {Y = Y} f (y ∷ ys) x c = of (Contains-cases y ys x c) (map_there f ys x)
  where
    of : (y ≡ x) ⊎ Contains ys x → (Contains ys x → Contains (map f ys) (f x)) → Contains (map f (y ∷ ys)) (f x)
    of (inl e) rest = subst (λ z. Contains (map f (y ∷ ys)) (f z)) e (Contains-first (f y) (map f ys))
    of (inr d) rest = Contains-later (f y) (map f ys) (f x) (rest d)

pub map_back : {X Y : Type 0} (f : X → Y) (xs : List X) (y : Y) → Contains (map f xs) y →
    (x : X) × Contains xs x × (y ≡ f x)
map_back {X = X} {Y = Y} f [] y c = absurd (not_in_nil y c)
map_back {X = X} {Y = Y} f (x ∷ xs) y c = of (Contains-cases (f x) (map f xs) y c) (map_back f xs y)
  where
    of : (f x ≡ y) ⊎ Contains (map f xs) y → (Contains (map f xs) y → (z : X) × Contains xs z × (y ≡ f z)) →
        (z : X) × Contains (x ∷ xs) z × (y ≡ f z)
    of (inl e) rest = (x, Contains-first x xs, sym e)
    of (inr d) rest = let r = rest d in (r.0, Contains-later x xs r.0 r.1, r.2)

-- ---- the part

-- the vertex with other places for its successors
abbrev pub renamed : (ℕ → ℕ) → Vertex → Vertex
renamed g v = record { owner = v.owner; priority = v.priority; successors = map g v.successors }

abbrev pub renamed_choice : (ℕ → ℕ) → Option ℕ → Option ℕ
renamed_choice f None = None
renamed_choice f (Some v) = Some (f v)

-- `f` gives the place in the game of a vertex of the part, and `g` the place in the part of what can be reached.
module _ (game part : Game) (f g : ℕ → ℕ)
    (is : (n : ℕ) → n < length part → get_or part n isolated ≡ renamed g (get_or game (f n) isolated))
    (back : (n w : ℕ) → n < length part → HasEdge game (f n) w → (g w < length part) × (f (g w) ≡ w))
    (there : (n : ℕ) → n < length part → g (f n) ≡ n) where
  owner_stays : (n : ℕ) → n < length part → owner_of part n ≡ owner_of game (f n)
  owner_stays n lt = ap (λ (x : Vertex). x.owner) (is n lt)

  priority_stays : (n : ℕ) → n < length part → priority_of part n ≡ priority_of game (f n)
  priority_stays n lt = ap (λ (x : Vertex). x.priority) (is n lt)

  edge_there : (n w : ℕ) → n < length part → HasEdge game (f n) w → HasEdge part n (g w)
  edge_there n w lt e =
      subst (λ (x : Vertex). Contains x.successors (g w)) (sym (is n lt)) (map_there g (successors_of game (f n)) w e)

  edge_back : (n w : ℕ) → n < length part → HasEdge part n w → (y : ℕ) × HasEdge game (f n) y × (w ≡ g y)
  edge_back n w lt e =
      map_back g (successors_of game (f n)) w (subst (λ (x : Vertex). Contains x.successors w) (is n lt) e)

  module _ (player : Player) (strategy : Strategy) where
    abbrev lifted : Strategy
    lifted u = renamed_choice f (strategy (g u))

    -- the strategy's move at a vertex of the player
    own_move : (n : ℕ) → n < length part → Wins part player strategy n → owner_of part n ≡ player →
        (y : ℕ) × HasEdge game (f n) y × (strategy n ≡ Some (g y))
    own_move n lt wins own =
        let m = wins.can_move n here own in
        let b = edge_back n m.0 lt m.1.0 in
        (b.0, b.1, m.1.1 own ∙ ap (λ (k : ℕ). Some k) b.2)

    move_back : (n w : ℕ) → n < length part → Wins part player strategy n → AllowsMove game player lifted (f n) w →
        AllowsMove part player strategy n (g w)
    move_back n w lt wins a = (edge_there n w lt a.0, chosen)
      where
        chosen : owner_of part n ≡ player → strategy n ≡ Some (g w)
        chosen own =
            let m = own_move n lt wins own in
            let at : renamed_choice f (strategy (g (f n))) ≡ Some (f (g m.0)) =
            ap (λ (k : ℕ). renamed_choice f (strategy k)) (there n lt) ∙ ap (renamed_choice f) m.2 in
            let same : f (g m.0) ≡ w = some_is (f (g m.0)) w (sym at ∙ a.1 (sym (owner_stays n lt) ∙ own)) in
            let is_w : m.0 ≡ w = sym (back n m.0 lt m.1).1 ∙ same in
            m.2 ∙ ap (λ (k : ℕ). Some (g k)) is_w

    reached_back : {v u : ℕ} (n : ℕ) → n < length part → v ≡ f n → Wins part player strategy n →
        Reaches game player lifted v u →
        (m : ℕ) × (m < length part) × (u ≡ f m) × Reaches part player strategy n m
    reached_back n lt e wins here = (n, lt, e, here)
    reached_back n lt e wins (onward {v} {w} a r) =
        let a' : AllowsMove game player lifted (f n) w = subst (λ (k : ℕ). AllowsMove game player lifted k w) e a in
        let b : AllowsMove part player strategy n (g w) = move_back n w lt wins a' in
        let next = back n w lt a'.0 in
        let rest = reached_back (g w) next.0 (sym next.1)
        (wins_there part player strategy n (g w) wins (onward b here)) r in
        (rest.0, rest.1, rest.2, onward b rest.3)

    walk_back : {v u k : ℕ} (n : ℕ) → n < length part → v ≡ f n → Wins part player strategy n →
        Walk game player lifted v u k → Walk part player strategy n (g u) k
    walk_back n lt e wins (move {v} {w} a) =
        let b : AllowsMove part player strategy n (g w) = move_back n w lt wins
        (subst (λ (k : ℕ). AllowsMove game player lifted k w) e a) in
        subst (Walk part player strategy n (g w)) (priority_stays n lt ∙ ap (priority_of game) (sym e)) (move b)
    walk_back n lt e wins (moves {v} {w} {u} {m} a q) =
        let a' : AllowsMove game player lifted (f n) w = subst (λ (k : ℕ). AllowsMove game player lifted k w) e a in
        let b : AllowsMove part player strategy n (g w) = move_back n w lt wins a' in
        let next = back n w lt a'.0 in
        let rest : Walk part player strategy (g w) (g u) m = walk_back (g w) next.0 (sym next.1)
        (wins_there part player strategy n (g w) wins (onward b here)) q in
        subst (λ (k : ℕ). Walk part player strategy n (g u) (max k m))
        (priority_stays n lt ∙ ap (priority_of game) (sym e)) (moves b rest)

    -- a strategy that wins the part wins the game
    pub wins_lift : (n : ℕ) → n < length part → Wins part player strategy n → Wins game player lifted (f n)
    wins_lift n lt wins = record { can_move = can; cycles = cycle }
      where
        can : (u : ℕ) → Reaches game player lifted (f n) u → owner_of game u ≡ player →
            (w : ℕ) × AllowsMove game player lifted u w
        can u r own =
            let m = reached_back n lt refl wins r in
            let own' : owner_of part m.0 ≡ player = owner_stays m.0 m.1 ∙ ap (owner_of game) (sym m.2) ∙ own in
            let y = own_move m.0 m.1 (wins_there part player strategy n m.0 wins m.3) own' in
            let at : lifted u ≡ Some y.0 =
            ap (λ (k : ℕ). renamed_choice f (strategy (g k))) m.2
            ∙ ap (λ (k : ℕ). renamed_choice f (strategy k)) (there m.0 m.1)
            ∙ ap (renamed_choice f) y.2
            ∙ ap (λ (k : ℕ). Some k) (back m.0 y.0 m.1 y.1).1 in
            (y.0, (subst (λ (k : ℕ). HasEdge game k y.0) (sym m.2) y.1, λ h. at))

        cycle : (u k : ℕ) → Reaches game player lifted (f n) u → Walk game player lifted u u k →
            WinsAt player k
        cycle u k r q =
            let m = reached_back n lt refl wins r in
            let w : Walk part player strategy m.0 (g u) k =
            walk_back m.0 m.1 m.2 (wins_there part player strategy n m.0 wins m.3) q in
            wins.cycles m.0 k m.3
            (subst (λ (x : ℕ). Walk part player strategy m.0 x k) (ap g m.2 ∙ there m.0 m.1) w)

  -- a player wins the part exactly where it wins the game
  pub winner_is : (player : Player) (n : ℕ) → n < length part → HasWin part Even n ⊎ HasWin part Odd n →
      HasWin part player n ↔ HasWin game player (f n)
  winner_is player n lt one = (λ h. (lifted player h.0, wins_lift player h.0 n lt h.1), of player one)
    where
      of : (player : Player) → HasWin part Even n ⊎ HasWin part Odd n → HasWin game player (f n) →
          HasWin part player n
      of Even (inl k) h = k
      of Even (inr k) h = absurd (not_both game h.0 (lifted Odd k.0) (f n) h.1 (wins_lift Odd k.0 n lt k.1))
      of Odd (inl k) h = absurd (not_both game (lifted Even k.0) h.0 (f n) (wins_lift Even k.0 n lt k.1) h.1)
      of Odd (inr k) h = k

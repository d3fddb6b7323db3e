-- A progress table gives a winning strategy of Even.
use Rattle.std.proofs.Common.{◌≡◌, ◌≢◌, ℕ, ◌<◌, ◌≤◌, ◌%◌, ◌⊎◌, inl, inr, List, length, refl, subst, Some, arith}
use Rattle.std.proofs.lemmas.Bool.{cases_eq}
use Rattle.vpg_sides.specs.declared.player.Player.TheVariants.{Even, Odd}
use Rattle.vpg_sides.specs.Players.{IsOdd, WinsAt}
use Rattle.vpg_hope.specs.Games.{Game, HasEdge, owner_of, priority_of}
use Rattle.vpg_hope.specs.Strategies.{Strategy, AllowsMove, Reaches, Walk, Wins}
use Rattle.vpg_hope.specs.Strategies.{here, onward}
use Rattle.vpg_hope.specs.Strategies.{move, moves}
use Rattle.vpg_measure.specs.Measures.{Shape, Measure, LexBelow, LexAtMost, AtMost, Fits, above, Top, Components}
use Rattle.vpg_measure.specs.Tables.{Table, IsProg, IsProgressMeasure, FitsFor, IsLeastSuccessor, FollowsLeast}
use Rattle.vpg_measure.proofs.Lex.{below_irrefl, at_most_trans, below_at_most, at_most_below}
use Rattle.vpg_measure.proofs.Above.{higher_at_most}
use Rattle.vpg_measure.proofs.MeasureOrder.{Fits-up, AtMost-trans}
use Rattle.vpg_measure.proofs.MeasureProgs.{prog_exists}
use Rattle.vpg_hope.proofs.Reach.{reaches_inside, cases_player}
use Rattle.vpg_hope.proofs.Edges.{AreEdgesInside, edge_inside}

-- at each vertex of Even below Top the strategy chooses a successor over which the value fits
abbrev pub FollowsFitting : Shape → Game → Table → Strategy → Type 0
FollowsFitting shape game table strategy = (v : ℕ) → v < length game → owner_of game v ≡ Even → table v ≢ Top →
    (w : ℕ) × (strategy v ≡ Some w) × HasEdge game v w × Fits shape (priority_of game v) (table v) (table w)

pub cases_parity : (n : ℕ) → (n % 2 ≡ 0) ⊎ (n % 2 ≡ 1)
cases_parity n = decide (cases_eq (n % 2) 0)
  where
    decide : (n % 2 ≡ 0) ⊎ (n % 2 ≡ 0 → ⊥) → (n % 2 ≡ 0) ⊎ (n % 2 ≡ 1)
    decide (inl e) = inl e
    decide (inr e) = inr (omega arith)

pub fits_not_top : (shape : Shape) (p : ℕ) (m value : Measure) → Fits shape p m value → m ≢ Top → value ≢ Top
fits_not_top shape p Top value f h e = h refl
fits_not_top shape p (Components a) Top f h e = f
fits_not_top shape p (Components a) (Components b) f h e = cc

-- a successor of least prog is one over which the value of the vertex fits
pub least_fits : (shape : Shape) (game : Game) (table : Table) (strategy : Strategy) → AreEdgesInside game → IsProgressMeasure shape game table → FollowsLeast shape game table strategy → FollowsFitting shape game table strategy
least_fits shape game table strategy closed progress follows v inside mover low = chosen (follows v inside mover low) (rw mover at (progress.fits v inside))
  where
    p : ℕ
    p = priority_of game v

    has_prog : (w : ℕ) → HasEdge game v w → (m : Measure) × IsProg shape p (table w) m
    has_prog w e = prog_exists shape p (table w) (progress.in_range w (closed v w e))

    compare_progs : (w x : ℕ) → Fits shape p (table v) (table x) → ((m n : Measure) → IsProg shape p (table w) m → IsProg shape p (table x) n → AtMost m n) →
        (m : Measure) × IsProg shape p (table w) m → (n : Measure) × IsProg shape p (table x) n → Fits shape p (table v) (table w)
    compare_progs w x f least m n = Fits-up shape p m.0 (table v) (table w) m.1.fits (AtMost-trans m.0 n.0 (table v) (least m.0 n.0 m.1 n.1) (n.1.least (table v) (progress.in_range v inside) f))

    chosen : (w : ℕ) × (strategy v ≡ Some w) × IsLeastSuccessor shape game table v w → FitsFor Even shape game table v (table v) → (w : ℕ) × (strategy v ≡ Some w) × HasEdge game v w × Fits shape p (table v) (table w)
    chosen w (inl e) = absurd (low e)
    chosen w (inr x) = (w.0, w.1, w.2.is_edge, compare_progs w.0 x.0 x.2 (λ m n. w.2.least x.0 m n x.1) (has_prog w.0 w.2.is_edge) (has_prog x.0 x.1))

-- along an edge over which the value fits, the value does not fall on the greater priorities, and rises where the edge leaves an odd one
module _ (shape : Shape) (p : ℕ) where
  -- not below on priority p and above, both no Top
  pub record IsAtLeast (x y : Measure) : Type 0 where
    pub high : List ℕ
    pub low : List ℕ
    pub high_is : x ≡ Components high
    pub low_is : y ≡ Components low
    pub at_most : LexAtMost (above shape p low) (above shape p high)

  -- above on priority p and above, both no Top
  pub record IsAbove (x y : Measure) : Type 0 where
    pub high : List ℕ
    pub low : List ℕ
    pub high_is : x ≡ Components high
    pub low_is : y ≡ Components low
    pub below : LexBelow (above shape p low) (above shape p high)

  same_tuple : (m : Measure) (a b : List ℕ) → m ≡ Components a → m ≡ Components b → a ≡ b
  same_tuple m a b e f = cc

  pub above_at_least : (x y z : Measure) → IsAbove x y → IsAtLeast y z → IsAbove x z
  above_at_least x y z h k = record { high = h.high; low = k.low; high_is = h.high_is; low_is = k.low_is; below = joined (same_tuple y h.low k.high h.low_is k.high_is) }
    where
      joined : h.low ≡ k.high → LexBelow (above shape p k.low) (above shape p h.high)
      joined e = at_most_below (above shape p k.low) (above shape p k.high) (above shape p h.high) k.at_most (subst (λ l. LexBelow (above shape p l) (above shape p h.high)) e h.below)

  pub at_least_above : (x y z : Measure) → IsAtLeast x y → IsAbove y z → IsAbove x z
  at_least_above x y z h k = record { high = h.high; low = k.low; high_is = h.high_is; low_is = k.low_is; below = joined (same_tuple y h.low k.high h.low_is k.high_is) }
    where
      joined : h.low ≡ k.high → LexBelow (above shape p k.low) (above shape p h.high)
      joined e = below_at_most (above shape p k.low) (above shape p k.high) (above shape p h.high) k.below (subst (λ l. LexAtMost (above shape p l) (above shape p h.high)) e h.at_most)

  pub at_least_trans : (x y z : Measure) → IsAtLeast x y → IsAtLeast y z → IsAtLeast x z
  at_least_trans x y z h k = record { high = h.high; low = k.low; high_is = h.high_is; low_is = k.low_is; at_most = joined (same_tuple y h.low k.high h.low_is k.high_is) }
    where
      joined : h.low ≡ k.high → LexAtMost (above shape p k.low) (above shape p h.high)
      joined e = at_most_trans (above shape p k.low) (above shape p k.high) (above shape p h.high) k.at_most (subst (λ l. LexAtMost (above shape p l) (above shape p h.high)) e h.at_most)

  pub not_above_itself : (x : Measure) → IsAbove x x → ⊥
  not_above_itself x h = below_irrefl (above shape p h.high) (subst (λ l. LexBelow (above shape p l) (above shape p h.high)) (same_tuple x h.low h.high h.low_is h.high_is) h.below)

  pub fits_at_least : (q : ℕ) (x y : Measure) → q ≤ p → x ≢ Top → Fits shape q x y → IsAtLeast x y
  fits_at_least q Top y l n f = absurd (n refl)
  fits_at_least q (Components a) Top l n f = absurd f
  fits_at_least q (Components a) (Components b) l n f = record {
    high = a;
    low = b;
    high_is = refl;
    low_is = refl;
    at_most = higher_at_most shape q p b a l f.0;
  }

  pub fits_above : (x y : Measure) → IsOdd p → x ≢ Top → Fits shape p x y → IsAbove x y
  fits_above Top y odd n f = absurd (n refl)
  fits_above (Components a) Top odd n f = absurd f
  fits_above (Components a) (Components b) odd n f = record { high = a; low = b; high_is = refl; low_is = refl; below = f.1 odd }

module _ (shape : Shape) (game : Game) (table : Table) (strategy : Strategy) (closed : AreEdgesInside game) (progress : IsProgressMeasure shape game table) (follows : FollowsFitting shape game table strategy) where
  -- each move that the strategy allows from below Top goes along an edge over which the value fits
  move_fits : (v w : ℕ) → table v ≢ Top → AllowsMove game Even strategy v w → Fits shape (priority_of game v) (table v) (table w)
  move_fits v w low a = of (cases_player (owner_of game v) Even)
    where
      inside : v < length game
      inside = edge_inside game v w a.0

      of : (owner_of game v ≡ Even) ⊎ (owner_of game v ≡ Odd) → Fits shape (priority_of game v) (table v) (table w)
      of (inr odd) = (rw odd at (progress.fits v inside)) w a.0
      of (inl even) = chosen (follows v inside even low)
        where
          chosen : (x : ℕ) × (strategy v ≡ Some x) × HasEdge game v x × Fits shape (priority_of game v) (table v) (table x) → Fits shape (priority_of game v) (table v) (table w)
          chosen x = subst (λ y. Fits shape (priority_of game v) (table v) (table y)) same x.3
            where
              taken : strategy v ≡ Some w
              taken = a.1 even

              same : x.0 ≡ w
              same = cc (x.1, taken)

  stays_low : (v w : ℕ) → table v ≢ Top → AllowsMove game Even strategy v w → table w ≢ Top
  stays_low v w low a = fits_not_top shape (priority_of game v) (table v) (table w) (move_fits v w low a) low

  reached_low : {v u : ℕ} → table v ≢ Top → Reaches game Even strategy v u → table u ≢ Top
  reached_low low here = low
  reached_low low (onward {v} {w} a r) = reached_low (stays_low v w low a) r

  -- a walk never falls on the priorities from p up if it leaves no greater one
  walk_at_least : {v u m : ℕ} (p : ℕ) → Walk game Even strategy v u m → table v ≢ Top → m ≤ p → IsAtLeast shape p (table v) (table u)
  walk_at_least p (move {v} {w} a) low l = fits_at_least shape p (priority_of game v) (table v) (table w) l low (move_fits v w low a)
  walk_at_least p (moves {v} {w} {u} {m} a walk) low l =
      at_least_trans shape p (table v) (table w) (table u)
      (fits_at_least shape p (priority_of game v) (table v) (table w) (omega arith) low (move_fits v w low a))
      (walk_at_least p walk (stays_low v w low a) (omega arith))

  -- and rises if p is odd and its greatest
  walk_above : {v u m : ℕ} (p : ℕ) → IsOdd p → Walk game Even strategy v u m → table v ≢ Top → m ≡ p → IsAbove shape p (table v) (table u)
  walk_above p odd (move {v} {w} a) low e = fits_above shape p (table v) (table w) odd low (rw e at (move_fits v w low a))
  walk_above p odd (moves {v} {w} {u} {m} a walk) low e = decide (cases_eq (priority_of game v) p) (walk_above p odd walk (stays_low v w low a)) (walk_at_least p walk (stays_low v w low a))
    where
      decide : (priority_of game v ≡ p) ⊎ (priority_of game v ≡ p → ⊥) → (m ≡ p → IsAbove shape p (table w) (table u)) → (m ≤ p → IsAtLeast shape p (table w) (table u)) → IsAbove shape p (table v) (table u)
      decide (inl same) strict weak = above_at_least shape p (table v) (table w) (table u) (fits_above shape p (table v) (table w) odd low (rw same at (move_fits v w low a))) (weak (omega arith))
      decide (inr other) strict weak = at_least_above shape p (table v) (table w) (table u) (fits_at_least shape p (priority_of game v) (table v) (table w) (omega arith) low (move_fits v w low a)) (strict (omega arith))

  -- the strategy wins from every vertex below Top
  pub fitting_wins : (v : ℕ) → v < length game → table v ≢ Top → Wins game Even strategy v
  fitting_wins v inside low = record { can_move = can_move; cycles = cycles }
    where
      can_move : (u : ℕ) → Reaches game Even strategy v u → owner_of game u ≡ Even → (w : ℕ) × AllowsMove game Even strategy u w
      can_move u r even = chosen (follows u (reaches_inside game Even strategy closed inside r) even (reached_low low r))
        where
          chosen : (x : ℕ) × (strategy u ≡ Some x) × HasEdge game u x × Fits shape (priority_of game u) (table u) (table x) → (w : ℕ) × AllowsMove game Even strategy u w
          chosen x = (x.0, (x.2, λ e. x.1))

      cycles : (u m : ℕ) → Reaches game Even strategy v u → Walk game Even strategy u u m → WinsAt Even m
      cycles u m r walk = decide (cases_parity m)
        where
          decide : (m % 2 ≡ 0) ⊎ (m % 2 ≡ 1) → WinsAt Even m
          decide (inl even) = even
          decide (inr odd) = absurd (not_above_itself shape m (table u) (walk_above m odd walk (reached_low low r) refl))

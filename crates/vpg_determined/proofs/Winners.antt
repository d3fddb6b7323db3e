-- What determinacy says of plays and of progress tables.
use Rattle.std.proofs.Common.{◌≡◌, ◌≢◌, ℕ, zero, suc, ◌<◌, ◌⊎◌, ◌↔◌, inl, inr, [], ◌∷◌, length, refl, sym, subst}
use Rattle.std.proofs.lemmas.List.{length-map}
use Rattle.vpg_sides.specs.declared.player.Player.{Player}
use Rattle.vpg_sides.specs.declared.player.Player.TheVariants.{Even, Odd}
use Rattle.vpg_sides.specs.Players.{opponent}
use Rattle.vpg_hope.specs.Comparison.{IsEasier, dual_game}
use Rattle.vpg_hope.specs.Games.{Game, HasEdge, owner_of, priorities, successors_of}
use Rattle.vpg_hope.specs.Strategies.{Strategy, AllowsMove, Reaches, Wins}
use Rattle.vpg_hope.proofs.Both.{not_both}
use Rattle.vpg_hope.proofs.Dual.{wins_to_dual}
use Rattle.vpg_hope.proofs.Edges.{AreEdgesInside}
use Rattle.vpg_hope.proofs.Reach.{cases_player}
use Rattle.vpg_measure.specs.Measures.{Shape, IsShape, Top}
use Rattle.vpg_measure.specs.Tables.{Table, IsBelowAllProgress, IsLeastProgress}
use Rattle.vpg_measure.proofs.Easier.{wins_easier}
use Rattle.vpg_measure.proofs.Plays.{play_won}
use Rattle.vpg_measure.proofs.Signature.{top_refutes}
use Rattle.vpg_measure.proofs.Verdicts.{least_decides, progress_wins}
use Rattle.vpg_determined.specs.Determined.{HasWin}
use Rattle.vpg_determined.specs.Plays.{WinsEachPlay}
use Rattle.vpg_determined.proofs.Winning.{uniformly_determined, determined}

pub wins_each_play : (game : Game) (player : Player) (strategy : Strategy) (v : ℕ) → Wins game player strategy v →
    WinsEachPlay game player strategy v
wins_each_play game player strategy v wins = record {
  infinite = λ play p is_play begins recurring.
      play_won game player strategy play is_play p (subst (Wins game player strategy) (sym begins) wins) recurring;
  ended = λ u r none. of u r none (cases_player (owner_of game u) player);
}
  where
    of : (u : ℕ) → Reaches game player strategy v u → ((w : ℕ) → HasEdge game u w → ⊥) →
        (owner_of game u ≡ player) ⊎ (owner_of game u ≡ opponent player) → owner_of game u ≡ opponent player
    of u r none (inl own) = absurd (moved (wins.can_move u r own))
      where
        moved : (w : ℕ) × AllowsMove game player strategy u w → ⊥
        moved w = none w.0 w.1.0
    of u r none (inr other) = other

-- one player wins from the vertex, and every play
abbrev IsWon : Game → Strategy → ℕ → Type 0
IsWon game strategy v = (player : Player) × Wins game player strategy v × WinsEachPlay game player strategy v

pub plays_are_determined : (game : Game) → AreEdgesInside game → (strategy : Strategy) ×
    ((v : ℕ) → v < length game → IsWon game strategy v)
plays_are_determined game closed = of (uniformly_determined game closed)
  where
    of : (strategy : Strategy) × ((v : ℕ) → v < length game → Wins game Even strategy v ⊎ Wins game Odd strategy v) →
        (strategy : Strategy) × ((v : ℕ) → v < length game → IsWon game strategy v)
    of s = (s.0, λ v l. each v (s.1 v l))
      where
        each : (v : ℕ) → Wins game Even s.0 v ⊎ Wins game Odd s.0 v → IsWon game s.0 v
        each v (inl h) = (Even, h, wins_each_play game Even s.0 v h)
        each v (inr h) = (Odd, h, wins_each_play game Odd s.0 v h)

module _ (shape : Shape) (game : Game) (table : Table) (closed : AreEdgesInside game)
    (is_shape : IsShape (priorities game) shape) (least : IsLeastProgress shape game table) (v : ℕ)
    (inside : v < length game) where
  decides : (table v ≡ Top) ↔ ((strategy : Strategy) → Wins game Even strategy v → ⊥)
  decides = least_decides shape game table closed is_shape least v inside

  pub top_tells : (table v ≡ Top) ↔ HasWin game Odd v
  top_tells = (
    λ e. other e (determined game v closed inside),
    λ s. decides.1 (λ t wins. not_both game t s.0 v wins s.1),
  )
    where
      other : table v ≡ Top → HasWin game Even v ⊎ HasWin game Odd v → HasWin game Odd v
      other e (inl s) = absurd (decides.0 e s.0 s.1)
      other e (inr s) = s

  pub low_tells : (table v ≢ Top) ↔ HasWin game Even v
  low_tells = (λ low. of low (progress_wins shape game table closed least.progress), λ s e. decides.0 e s.0 s.1)
    where
      of : table v ≢ Top → (strategy : Strategy) ×
          ((u : ℕ) → u < length game → table u ≢ Top → Wins game Even strategy u) → HasWin game Even v
      of low s = (s.0, s.1 v inside low)

dual_successors : (game : Game) (v : ℕ) → successors_of (dual_game game) v ≡ successors_of game v
dual_successors [] v = refl
dual_successors (x ∷ game) zero = refl
dual_successors (x ∷ game) (suc v) = dual_successors game v

dual_closed : (game : Game) → AreEdgesInside game → AreEdgesInside (dual_game game)
dual_closed game closed v w edge = rw length-map (closed v w (rw (dual_successors game v) at edge))

-- Even wins the easier game, or Odd the harder one
module _ (easy hard : Game) (shape dual_shape : Shape) (table dual_table : Table) (easier : IsEasier easy hard)
    (closed : AreEdgesInside easy) (hard_closed : AreEdgesInside hard)
    (is_shape : IsShape (priorities easy) shape) (is_dual : IsShape (priorities (dual_game hard)) dual_shape)
    (below : IsBelowAllProgress shape easy table)
    (dual_below : IsBelowAllProgress dual_shape (dual_game hard) dual_table)
    (v : ℕ) (inside : v < length easy) where
  hard_inside : v < length hard
  hard_inside = subst (λ n. v < n) easier.same_count inside

  dual_inside : v < length (dual_game hard)
  dual_inside = rw length-map hard_inside

  pub not_both_top : table v ≡ Top → dual_table v ≡ Top → ⊥
  not_both_top e f = of (determined hard v hard_closed hard_inside)
    where
      of : HasWin hard Even v ⊎ HasWin hard Odd v → ⊥
      of (inl s) =
          top_refutes easy s.0 v (wins_easier easy hard easier s.0 v s.1) closed inside shape is_shape table below e
      of (inr s) =
          top_refutes (dual_game hard) s.0 v (wins_to_dual hard Odd s.0 v hard_closed hard_inside s.1)
          (dual_closed hard hard_closed) dual_inside dual_shape is_dual dual_table dual_below f

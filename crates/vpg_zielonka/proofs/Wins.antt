-- Who wins a set of a part of a game that no edge leads out of has a strategy that wins from its vertices.
use Rattle.std.proofs.Common.{ℕ, ◌⊎◌, inl, inr}
use Rattle.vpg_sides.specs.declared.player.Player.{Player}
use Rattle.vpg_hope.specs.Games.{Game, HasEdge, priority_of}
use Rattle.vpg_hope.specs.Strategies.{Strategy, AllowsMove, Reaches, Walk, Wins, here, onward, move, moves}
use Rattle.vpg_determined.specs.Determined.{HasWin}
use Rattle.vpg_determined.proofs.Masks.{Mask, In}
use Rattle.vpg_determined.proofs.Dominions.{Run, one, more, Stride, HasMove, IsDominion, follows}
use Rattle.vpg_determined.proofs.Solved.{Nowhere}
use Rattle.vpg_zielonka.specs.Solutions.{IsSolution}

module _ (game : Game) (mask : Mask) (closed : (v w : ℕ) → In mask v → HasEdge game v w → In mask w)
    (player : Player) (W : ℕ → Type 0) (s : Strategy) (dominion : IsDominion game player mask Nowhere W s) where
  stays : (v w : ℕ) → W v → AllowsMove game player s v w → W w
  stays v w h a = of (follows game player mask Nowhere W s dominion v w h a.0 (closed v w (dominion.inside v h) a.0) a.1)
    where
      of : ⊥ ⊎ W w → W w
      of (inl e) = absurd e
      of (inr k) = k

  reached : {v u : ℕ} → W v → Reaches game player s v u → W u
  reached h here = h
  reached h (onward {v} {w} a r) = reached (stays v w h a) r

  stride : (v w : ℕ) → W v → AllowsMove game player s v w → Stride game player Nowhere W s v w
  stride v w h a = record { at = h; to = stays v w h a; stays = λ e. e; edge = a.0; taken = a.1 }

  walk_run : {v u m : ℕ} → W v → Walk game player s v u m →
      Run (Stride game player Nowhere W s) (priority_of game) v u m
  walk_run h (move {v} {w} a) = one (stride v w h a)
  walk_run h (moves {v} {w} a q) = more (stride v w h a) (walk_run (stays v w h a) q)

  dominion_wins : (v : ℕ) → W v → Wins game player s v
  dominion_wins v h = record {
    can_move = λ u r own. chosen u (dominion.chosen u (reached h r) own);
    cycles = λ u m r q. dominion.cycles u m (walk_run (reached h r) q);
  }
    where
      chosen : (u : ℕ) → HasMove game player mask Nowhere W s u → (w : ℕ) × AllowsMove game player s u w
      chosen u x = (x.0, (x.2, λ e. x.1))

-- each vertex of a set of a solution is won, if no edge leads out of the part
pub has_win : (game : Game) (mask : Mask) → ((v w : ℕ) → In mask v → HasEdge game v w → In mask w) →
    (wins : Player → Mask) → IsSolution game mask wins → (p : Player) (v : ℕ) → In (wins p) v → HasWin game p v
has_win game mask closed wins s p v h =
    (s.moves, dominion_wins game mask closed p (In (wins p)) s.moves (s.won p) v h)

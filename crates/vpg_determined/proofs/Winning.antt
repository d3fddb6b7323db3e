-- Parity games are determined: a set that is won in the whole game is one from which the player wins.
use Rattle.std.proofs.Common.{◌≡◌, ℕ, ◌<◌, ◌⊎◌, inl, inr, length, nat_lt}
use Rattle.std.proofs.lemmas.Bool.{lt-ltb, ltb-true}
use Rattle.vpg_sides.specs.declared.player.Player.{Player}
use Rattle.vpg_sides.specs.declared.player.Player.TheVariants.{Even, Odd}
use Rattle.vpg_hope.specs.Games.{Game, priority_of}
use Rattle.vpg_hope.specs.Strategies.{Strategy, AllowsMove, Reaches, Walk, Wins, here, onward, move, moves}
use Rattle.vpg_hope.proofs.Edges.{AreEdgesInside}
use Rattle.vpg_hope.proofs.Reach.{cases_player}
use Rattle.vpg_determined.specs.Determined.{HasWin}
use Rattle.vpg_determined.proofs.Masks.{Mask, In}
use Rattle.vpg_determined.proofs.Dominions.{Run, one, more, Stride, HasMove, IsDominion, follows}
use Rattle.vpg_determined.proofs.Solved.{Nowhere, WonBy, Solved}
use Rattle.vpg_determined.proofs.Solving.{solve}

module _ (game : Game) (closed : AreEdgesInside game) (mask : Mask) (whole : (v : ℕ) → v < length game → In mask v)
    (player : Player) (W : ℕ → Type 0) (s : Strategy) (dominion : IsDominion game player mask Nowhere W s) where
  stays : (v w : ℕ) → W v → AllowsMove game player s v w → W w
  stays v w h a = of (follows game player mask Nowhere W s dominion v w h a.0 (whole w (closed v w a.0)) a.1)
    where
      of : ⊥ ⊎ W w → W w
      of (inl e) = absurd e
      of (inr k) = k

  reached : {v u : ℕ} → W v → Reaches game player s v u → W u
  reached h here = h
  reached h (onward {v} {w} a r) = reached (stays v w h a) r

  stride : (v w : ℕ) → W v → AllowsMove game player s v w → Stride game player Nowhere W s v w
  stride v w h a = record { at = h; to = stays v w h a; stays = λ e. e; edge = a.0; taken = a.1 }

  walk_run : {v u m : ℕ} → W v → Walk game player s v u m →
      Run (Stride game player Nowhere W s) (priority_of game) v u m
  walk_run h (move {v} {w} a) = one (stride v w h a)
  walk_run h (moves {v} {w} a q) = more (stride v w h a) (walk_run (stays v w h a) q)

  dominion_wins : (v : ℕ) → W v → Wins game player s v
  dominion_wins v h = record {
    can_move = λ u r own. chosen u (dominion.chosen u (reached h r) own);
    cycles = λ u m r q. dominion.cycles u m (walk_run (reached h r) q);
  }
    where
      chosen : (u : ℕ) → HasMove game player mask Nowhere W s u → (w : ℕ) × AllowsMove game player s u w
      chosen u x = (x.0, (x.2, λ e. x.1))

abbrev IsSplit : Game → Strategy → Type 0
IsSplit game strategy = (v : ℕ) → v < length game → Wins game Even strategy v ⊎ Wins game Odd strategy v

pub uniformly_determined : (game : Game) → AreEdgesInside game → (strategy : Strategy) × IsSplit game strategy
uniformly_determined game closed = of (solve game (length game) vertices (λ v e. ltb-true v (length game) e))
  where
    vertices : Mask
    vertices v = nat_lt v (length game)

    of : Solved game vertices → (strategy : Strategy) × IsSplit game strategy
    of solved = (solved.moves, λ v l. each v l (cases_player (solved.winner v) Even))
      where
        won : (player : Player) (v : ℕ) → v < length game → solved.winner v ≡ player → Wins game player solved.moves v
        won player v l e = dominion_wins game closed vertices (λ w k. lt-ltb w (length game) k) player
            (WonBy vertices solved.winner player) solved.moves (solved.dominion player) v
            (lt-ltb v (length game) l, e)

        each : (v : ℕ) → v < length game → (solved.winner v ≡ Even) ⊎ (solved.winner v ≡ Odd) →
            Wins game Even solved.moves v ⊎ Wins game Odd solved.moves v
        each v l (inl e) = inl (won Even v l e)
        each v l (inr e) = inr (won Odd v l e)

pub determined : (game : Game) (v : ℕ) → AreEdgesInside game → v < length game → HasWin game Even v ⊎ HasWin game Odd v
determined game v closed inside = of (uniformly_determined game closed)
  where
    of : (strategy : Strategy) × IsSplit game strategy → HasWin game Even v ⊎ HasWin game Odd v
    of s = named (s.1 v inside)
      where
        named : Wins game Even s.0 v ⊎ Wins game Odd s.0 v → HasWin game Even v ⊎ HasWin game Odd v
        named (inl h) = inl (s.0, h)
        named (inr h) = inr (s.0, h)

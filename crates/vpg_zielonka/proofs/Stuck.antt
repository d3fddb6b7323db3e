-- Vertices without a move, in the game of one product: who moves there loses.
use Rattle.std.proofs.Common.{◌≡◌, ℕ, ◌<◌, sym, ◌∙◌, None}
use Rattle.vpg_sides.specs.declared.player.Player.{Player}
use Rattle.vpg_sides.specs.Players.{opponent}
use Rattle.vpg_hope.specs.Games.{Game, priority_of}
use Rattle.vpg_hope.proofs.Reach.{not_opponent}
use Rattle.vpg_determined.proofs.Masks.{Mask, In}
use Rattle.vpg_determined.proofs.Dominions.{first_step, Stride, IsDominion}
use Rattle.vpg_determined.proofs.Solved.{Nowhere}
use Rattle.vpg_zielonka.specs.Solutions.{IsSolution}
use Rattle.vpg_zielonka.specs.Attractors.{IsAttractor, IsRest, IsJoined}
use Rattle.vpg_zielonka.specs.Rounds.{AreStuck}
use Rattle.vpg_zielonka.proofs.Solutions.{lifted}

module _ (game : Game) (q : Player) (mask seeds : Mask) (stuck : AreStuck game (opponent q) mask seeds) where
  pub stuck_won : IsDominion game q mask Nowhere (In seeds) (λ v. None)
  stuck_won = record {
    inside = stuck.inside;
    chosen = λ v e o. absurd (not_opponent q (sym (stuck.owner v e) ∙ o));
    answered = λ v e o w edge m. absurd (stuck.none v w e edge m);
    cycles = λ v m r. absurd (never (first_step (Stride game q Nowhere (In seeds) (λ v. None)) (priority_of game) r));
  }
    where
      never : {v : ℕ} → (w : ℕ) × Stride game q Nowhere (In seeds) (λ v. None) v w → ⊥
      never {v} w = stuck.none v w.0 w.1.at w.1.edge (stuck.inside w.0 w.1.to)

  -- the opponent wins them and what it draws to them, and what is left is to be solved
  pub without_stuck : (n : ℕ) (set left : Mask) (wins more : Player → Mask) → ((v : ℕ) → In mask v → v < n) →
      IsAttractor game q mask seeds set → IsRest left mask set → IsJoined (more q) set (wins q) →
      ((v : ℕ) → more (opponent q) v ≡ wins (opponent q) v) → IsSolution game left wins → IsSolution game mask more
  without_stuck n set left wins more below is less mine others solution =
      lifted game n q mask seeds set left wins more (λ v. None) below stuck_won is less mine others solution

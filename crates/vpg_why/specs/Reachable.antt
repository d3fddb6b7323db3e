-- Vertices that can be reached over edges that may be there. This project's own.
use Rattle.std.specs.Prelude.{◌≡◌, ◌≢◌, ◌↔◌, ℕ, Bool, true, false, Contains, List, Option, Some, length, slice_index_or}
use Rattle.vpg_guards.specs.declared.tri.Tri.{Tri}
use Rattle.vpg_guards.specs.Formula.{Formula}
use Rattle.vpg_guards.specs.Known.{kleene}
use Rattle.vpg_sides.specs.declared.player.Player.{Player}
use Rattle.vpg_game.specs.Game.{vertex_in}
use Rattle.vpg_game.specs.Guarded.{GuardedEdge, GuardedGame}
use Rattle.vpg_measure.specs.Views.{strategy_of}

-- some steps, or none, lead from the first vertex to the second
pub data Leads (Step : ℕ → ℕ → Type 0) : ℕ → ℕ → Type 0 where
  here : {v : ℕ} → Leads Step v v
  onward : {v w u : ℕ} → Step v w → Leads Step w u → Leads Step v u

-- A step along an edge that may be there under what is known; at a vertex of the mover it leads to the listed vertex.
-- If there is no mover, nothing is listed.
pub record MayStep (game : GuardedGame Formula) (known : List Tri) (mover : Option Player) (moves : List (Option ℕ))
    (v w : ℕ) : Type 0 where
  pub edge : GuardedEdge Formula
  pub its : Contains (vertex_in game v).edges edge
  pub may_be : kleene known edge.guard ≢ Tri.No
  pub leads : edge.to ≡ w
  pub listed : mover ≡ Some (vertex_in game v).owner → strategy_of moves v ≡ Some w

-- Each vertex is marked that such steps lead to from the first one, and no other.
abbrev pub AreReachable : GuardedGame Formula → (known : List Tri) → (mover : Option Player) →
    (moves : List (Option ℕ)) → (first : ℕ) → (marks : List Bool) → Type 0
AreReachable game known mover moves first marks =
    (length marks ≡ length game)
    × ((v : ℕ) → slice_index_or marks v false ≡ true ↔ Leads (MayStep game known mover moves) first v)

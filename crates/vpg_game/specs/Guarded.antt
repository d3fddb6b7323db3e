-- Guarded games and the dual. The games of FASE 2020, with formulas for sets of configurations; the dual is
-- folklore.
use Rattle.std.specs.Prelude.{ℕ, suc, ◌<◌, List, length, map, All}
use Rattle.vpg_sides.specs.declared.player.Player.{Player}
use Rattle.vpg_sides.specs.Players.{opponent}
pub use Rattle.vpg_game.specs.Edges.{GuardedEdge}

pub record GuardedVertex (Guard : Type 0) : Type 0 where
  pub owner : Player
  pub priority : ℕ
  pub edges : List (GuardedEdge Guard)

-- a list of vertices with owner, priority and guarded edges
abbrev pub GuardedGame : Type 0 → Type 0
GuardedGame Guard = List (GuardedVertex Guard)

-- the priorities, in order
abbrev pub guarded_priorities : {Guard : Type 0} → GuardedGame Guard → List ℕ
guarded_priorities game = map (λ vertex. vertex.priority) game

-- each edge leads to a vertex
abbrev pub IsClosedGuarded : {Guard : Type 0} → GuardedGame Guard → Type 0
IsClosedGuarded game = All (λ vertex. All (λ edge. edge.to < length game) vertex.edges) game

-- owners exchanged, priorities plus one
abbrev pub dual : {Guard : Type 0} → GuardedGame Guard → GuardedGame Guard
dual game = map (λ vertex.
    record { owner = opponent vertex.owner; priority = suc vertex.priority; edges = vertex.edges }) game

abbrev pub AllGuards : {Guard : Type 0} → (Guard → Type 0) → GuardedGame Guard → Type 0
AllGuards P game = All (λ vertex. All (λ edge. P edge.guard) vertex.edges) game

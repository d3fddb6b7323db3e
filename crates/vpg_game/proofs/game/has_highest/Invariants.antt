use Rattle.std.proofs.Common.{◌≡◌, ◌<◌, ℕ, get_or}
use Rattle.vpg_game.specs.Game.{no_vertex}
use Rattle.vpg_game.proofs.game.has_highest.Given as goal

abbrev pub invariant-loop-vertex : goal.invariant-loop-vertex
invariant-loop-vertex l = (k : ℕ) → k < l.vertex-index → (get_or l.vertices k no_vertex).priority ≡ 65536 → ⊥

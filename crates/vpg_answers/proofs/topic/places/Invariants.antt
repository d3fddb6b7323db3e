use Rattle.std.proofs.Common.{◌≡◌, ℕ, ◌<◌, map, take, length, Some, All}
use Rattle.vpg_game.specs.Game.{vertex_ids}
use Rattle.vpg_script.specs.View.{vertex_shown}
use Rattle.vpg_texts.specs.Sights.{vertex_of}
use Rattle.vpg_answers.proofs.topic.places.Given as goal

abbrev pub invariant-loop-vertex : goal.invariant-loop-vertex
invariant-loop-vertex l =
    (map (vertex_of (vertex_ids l.game.vertices)) (map vertex_shown (take l.vertex-index l.vertices)) ≡ map Some l.places.items)
    × All (λ (v : ℕ). v < length l.game.vertices) l.places.items

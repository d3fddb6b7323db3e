-- Two answers to `edges V` are one text.
use Rattle.std.proofs.Common.{◌≡◌, ℕ, List, sym, ap, ◌∙◌}
use Rattle.std.specs.Prelude.{map}
use Rattle.vpg_game.specs.Game.{vertex_in}
use Rattle.vpg_guards.specs.declared.tri.Tri.{Tri}
use Rattle.vpg_partial.specs.Known.{literal_of}
use Rattle.vpg_partial.specs.declared.decision.Decision.{Decision}
use Rattle.vpg_texts.specs.Scene.{Scene}
use Rattle.vpg_texts.proofs.Planned.{known_is_one}
use Rattle.vpg_looks.specs.Edges.{TellsEdges, edges_text}

pub edges_one : (scene : Scene) (vertex : ℕ) (decisions : List Decision) (one other : List ℕ) → TellsEdges scene vertex decisions one →
    TellsEdges scene vertex decisions other → one ≡ other
edges_one scene vertex decisions one other a b =
    a.1.1
    ∙ ap (λ (known : List Tri). edges_text scene.identifiers scene.labels known vertex (vertex_in scene.game vertex).edges)
    (known_is_one scene.lines (map literal_of decisions) a.0 b.0 a.1.0 b.1.0)
    ∙ sym b.1.1

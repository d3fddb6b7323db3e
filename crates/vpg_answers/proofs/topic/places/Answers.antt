use Rattle.std.proofs.Common.{List, map, sym, ap, ◌∙◌, arith}
use Rattle.std.proofs.lemmas.List.{take_all}
use Rattle.vpg_game.specs.Game.{vertex_ids}
use Rattle.vpg_script.specs.View.{vertex_shown}
use Rattle.vpg_script.specs.declared.look.Vertex.{Vertex}
use Rattle.vpg_script.proofs.Commands.{all_named, none_at}
use Rattle.vpg_texts.specs.Sights.{vertex_of}
use Rattle.vpg_answers.proofs.topic.places.Goals as goal

pub returns-in_default-clause-places : goal.returns-in_default-clause-places
returns-in_default-clause-places c =
    sym (none_at vertex_shown (vertex_of (vertex_ids c.args.game.now.vertices)) c.args.vertices.now c.loop-vertex.vertex-index _ c.loop-vertex-test.true (sym c.vertex_at.ensures.vertex ∙ c.in_default.is))

pub returns-clause-places : goal.returns-clause-places
returns-clause-places c =
    sym (all_named vertex_shown (vertex_of (vertex_ids c.args.game.now.vertices)) c.loop-vertex.places.items (map (vertex_of (vertex_ids c.args.game.now.vertices)) (map vertex_shown c.args.vertices.now))
    (ap (λ (vs : List Vertex). map (vertex_of (vertex_ids c.args.game.now.vertices)) (map vertex_shown vs)) (sym (take_all c.loop-vertex.vertex-index c.args.vertices.now (omega (arith, c.loop-vertex-test.false)))) ∙ c.loop-vertex.invariant.0))

pub returns-clause-within : goal.returns-clause-within
returns-clause-within c = c.loop-vertex.invariant.1

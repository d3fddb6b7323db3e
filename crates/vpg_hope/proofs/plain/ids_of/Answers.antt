use Rattle.std.proofs.lemmas.Grind.{common_steps}
use Rattle.std.proofs.Common.{◌≤◌, length, ◌∙◌, arith}
use Rattle.std.proofs.lemmas.List.{length-map, take_all}
use Rattle.vpg_game.specs.Game.{NamedVertex, vertex_ids}
use Rattle.vpg_hope.proofs.PlainTexts.{ids_more}
use Rattle.vpg_hope.proofs.plain.ids_of.Goals as goal

pub loop-v-preserved : goal.loop-v-preserved
loop-v-preserved c =
    ids_more (vertex_ids c.args.game.now.vertices) c.loop-v.ids.items c.push.new.self.items c.loop-v.v c.id.result c.loop-v.invariant c.id.ensures c.in_ok-push.ensures.items

pub returns : goal.returns
returns c =
    let vertices = c.args.game.now.vertices in
    let past : length (vertex_ids vertices) ≤ c.loop-v.v = omega (arith, c.loop-v-test.false, c.vertices-vertices.ensures.count, length-map vertices (λ (x : NamedVertex). x.id)) in
    c.loop-v.invariant ∙ take_all c.loop-v.v (vertex_ids vertices) past

pub id-requires : goal.id-requires
id-requires c = grind (arith, common_steps)

use Rattle.std.proofs.Common.{arith, ap}
use Rattle.std.proofs.lemmas.Grind.{common_steps}
use Rattle.vpg_game.specs.Game.{NamedVertex}
use Rattle.vpg_game.proofs.DualGames.{id_more}
use Rattle.vpg_game.proofs.dual.identifiers.Goals as goal

pub loop-vertex-preserved : goal.loop-vertex-preserved
loop-vertex-preserved c =
    let l = c.loop-vertex in
    id_more c.args.vertices.now l.vertex-index c.vertex.inside.id c.vertex-item.result l.ids.keys _ c.requires l.invariant c.loop-vertex-test.true c.vertex-item.is (ap (λ (v : NamedVertex). v.id) c.vertex.view_is) c.in_ok-insert.ensures.keys

pub returns : goal.returns
returns c = grind (arith, common_steps)

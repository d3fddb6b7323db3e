use Rattle.vpg_draw.proofs.Growing.{grown_by}
use Rattle.std.proofs.Common.{refl}
use Rattle.vpg_draw.specs.GameDrawing.{vertices_text}
use Rattle.vpg_draw.proofs.game.vertices.Goals as goal

pub loop-v-preserved : goal.loop-v-preserved
loop-v-preserved c =
    grown_by (vertices_text c.args.game.now.vertices c.args.names.now.names c.args.verdicts.now) _ c.loop-v.v c.args.out.now.items c.loop-v.out.items c.vertex.new.out.items refl c.loop-v.invariant (rw c.name.ensures at c.in_ok-vertex.ensures)

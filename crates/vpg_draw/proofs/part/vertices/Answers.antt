use Rattle.vpg_draw.proofs.Growing.{grown_by}
use Rattle.std.proofs.Common.{refl}
use Rattle.vpg_draw.specs.PartDrawing.{part_vertices_text}
use Rattle.vpg_draw.proofs.part.vertices.Goals as goal

pub loop-v-preserved : goal.loop-v-preserved
loop-v-preserved c =
    grown_by (part_vertices_text c.args.game.now.vertices c.args.names.now.names c.args.verdicts.now c.args.first c.args.marks.now) _ c.loop-v.v c.args.out.now.items c.loop-v.out.items c.vertex_if.new.out.items refl c.loop-v.invariant (rw c.name.ensures at c.in_ok-vertex_if.ensures)

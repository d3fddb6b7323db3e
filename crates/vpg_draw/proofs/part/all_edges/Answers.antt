use Rattle.vpg_draw.proofs.Growing.{grown_by}
use Rattle.std.proofs.Common.{refl}
use Rattle.vpg_draw.specs.PartDrawing.{all_part_edges_text}
use Rattle.vpg_draw.proofs.part.all_edges.Goals as goal

pub loop-v-preserved : goal.loop-v-preserved
loop-v-preserved c =
    grown_by (all_part_edges_text c.args.features.now c.args.known.now c.args.game.now.vertices c.args.marks.now c.args.mover c.args.moves.now) _ c.loop-v.v c.args.out.now.items c.loop-v.out.items c.edges_if.new.out.items refl c.loop-v.invariant (rw c.move_of-listed.ensures at c.in_ok-edges_if.ensures)

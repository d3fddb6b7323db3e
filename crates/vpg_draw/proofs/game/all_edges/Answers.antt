use Rattle.vpg_draw.proofs.Growing.{grown_by}
use Rattle.std.proofs.Common.{get_or, refl}
use Rattle.vpg_game.specs.Game.{no_vertex}
use Rattle.vpg_draw.specs.GameDrawing.{all_edges_text, edges_text}
use Rattle.vpg_draw.proofs.game.all_edges.Goals as goal

pub loop-v-preserved : goal.loop-v-preserved
loop-v-preserved c =
    grown_by (all_edges_text c.args.features.now c.args.known.now c.args.game.now.vertices) (edges_text c.args.features.now c.args.known.now c.args.game.now.vertices (get_or c.args.game.now.vertices c.loop-v.v no_vertex)) c.loop-v.v c.args.out.now.items c.loop-v.out.items c.edges.new.out.items refl c.loop-v.invariant c.in_ok-edges.ensures

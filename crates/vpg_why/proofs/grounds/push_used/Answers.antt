use Rattle.std.proofs.Common.{sym, subst}
use Rattle.vpg_guards.specs.Formula.{IsBelow}
use Rattle.vpg_why.proofs.Edges.{edge_in}
use Rattle.vpg_why.proofs.grounds.push_used.Goals as goal

pub value_of-requires : goal.value_of-requires
value_of-requires c =
    subst (λ n. IsBelow n c.edge-item.result.guard) (sym c.requires.known)
    (edge_in c.args.game.now c.args.v c.edges-edges.result.now c.loop-edge.edge-index c.edge-item.result c.vertices-count.ensures.game c.requires.vertex c.edges-edges.ensures.value c.loop-edge-test.true c.edge-item.is).1

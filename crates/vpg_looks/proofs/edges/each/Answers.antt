use Rattle.std.proofs.lemmas.Grind.{common_steps}
use Rattle.std.proofs.Common.{arith, subst, sym}
use Rattle.vpg_guards.specs.Formula.{IsBelow}
use Rattle.vpg_why.proofs.Edges.{edge_in}
use Rattle.vpg_looks.proofs.edges.each.Goals as goal

pub line-requires-clause-to : goal.line-requires-clause-to
line-requires-clause-to c =
    (edge_in c.args.order.now.game c.args.vertex c.edges-edges.result.now c.loop-edge.edge-index c.edge-item.result c.game.ensures.order.game c.requires.vertex (grind (arith, common_steps)) c.loop-edge-test.true c.edge-item.is).0

pub line-requires-clause-guard : goal.line-requires-clause-guard
line-requires-clause-guard c =
    subst (λ n. IsBelow n c.edge-item.result.guard) (sym c.requires.known)
    (edge_in c.args.order.now.game c.args.vertex c.edges-edges.result.now c.loop-edge.edge-index c.edge-item.result c.game.ensures.order.game c.requires.vertex (grind (arith, common_steps)) c.loop-edge-test.true c.edge-item.is).1

pub loop-edge-preserved : goal.loop-edge-preserved
loop-edge-preserved c = grind (arith, common_steps)

pub returns : goal.returns
returns c = grind (arith, common_steps)

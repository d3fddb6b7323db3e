use Rattle.std.proofs.Common.{arith}
use Rattle.std.proofs.lemmas.Grind.{common_steps}
use Rattle.vpg_game.specs.Game.{graph_of}
use Rattle.vpg_hope.proofs.StillVertices.{hopeful_unmarked, dual_unmarked}
use Rattle.vpg_hope.proofs.unmarked.concerned_vertices.Goals as goal

pub returns-clause-hopeful : goal.returns-clause-hopeful
returns-clause-hopeful c =
    hopeful_unmarked c.args.before.now c.args.now.now (graph_of c.args.game.now) c.values.result.now c.values-2.result.now c.values.ensures c.values-2.ensures (λ marks. marks.items) c.concerned.result
    c.concerned.ensures.still

pub returns-clause-dual : goal.returns-clause-dual
returns-clause-dual c =
    dual_unmarked c.args.before.now c.args.now.now (graph_of c.args.game.now) c.values.result.now c.values-2.result.now c.values.ensures c.values-2.ensures (λ marks. marks.items) c.concerned.result
    c.concerned.ensures.still

pub concerned-requires-clause-before : goal.concerned-requires-clause-before
concerned-requires-clause-before c = grind (arith, common_steps)

pub concerned-requires-clause-now : goal.concerned-requires-clause-now
concerned-requires-clause-now c = grind (arith, common_steps)

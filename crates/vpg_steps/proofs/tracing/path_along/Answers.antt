use Rattle.vpg_steps.proofs.Paths.{ok_to, path_is}
use Rattle.vpg_trace.specs.Answering.{page_of}
use Rattle.vpg_steps.specs.Steps.{IsPathOf}
use Rattle.vpg_steps.proofs.tracing.path_along.Goals as goal

pub returns : goal.returns
returns c =
    ok_to _ (IsPathOf (page_of c.args.order.now) c.args.behaviour.now c.args.mover c.args.vertex) c.walked.result
    (λ path e. path_is c.args.order.now c.args.behaviour.now c.args.mover c.args.vertex c.args.moves.now c.deref.result.now.known path c.requires.win (rw c.deref.ensures c.games.ensures.known) e) c.walked.ensures

use Rattle.std.proofs.Common.{arith}
use Rattle.std.proofs.lemmas.Grind.{common_steps}
use Rattle.std.proofs.lemmas.Result.{on_ok_weaker}
use Rattle.vpg_partial.specs.Known.{IsClosed}
use Rattle.vpg_partial.proofs.TableSteps.{grows_more, contradicts_before}
use Rattle.vpg_partial.proofs.propagation.start.Goals as goal

pub returns-clause-grows : goal.returns-clause-grows
returns-clause-grows c =
    on_ok_weaker c.propagate.result (grows_more (IsClosed c.args.clauses.now c.args.counts.now) c.args.known.now c.visit_all.new.known c.propagate.new.known c.in_ok-visit_all.ensures.advances.grows) c.propagate.ensures.grows

pub returns-clause-contradiction : goal.returns-clause-contradiction
returns-clause-contradiction c =
    λ e. contradicts_before (IsClosed c.args.clauses.now c.args.counts.now) c.args.known.now c.visit_all.new.known c.in_ok-visit_all.ensures.advances.grows (c.propagate.ensures.contradiction e)

pub propagate-requires-clause-counts : goal.propagate-requires-clause-counts
propagate-requires-clause-counts c = grind (arith, common_steps)

pub propagate-requires-clause-clauses : goal.propagate-requires-clause-clauses
propagate-requires-clause-clauses c = grind (arith, common_steps)

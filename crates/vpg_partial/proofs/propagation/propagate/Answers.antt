use Rattle.std.proofs.lemmas.Grind.{common_steps}
use Rattle.std.proofs.Common.{rules, arith}
use Rattle.std.proofs.lemmas.Result.{err_from_is_err_and}
use Rattle.vpg_partial.specs.Known.{IsClosed}
use Rattle.vpg_partial.specs.declared.propagation.Stop.TheVariants.{Contradiction}
use Rattle.vpg_partial.proofs.TableSteps.{contradicts_before, grows_more}
use Rattle.vpg_partial.proofs.WorklistSteps.{done_without, closed_when_none_waits, passed_on}
use Rattle.vpg_partial.proofs.propagation.propagate.Goals as goal

pub loop-feature-preserved : goal.loop-feature-preserved
loop-feature-preserved c =
    let clauses = c.args.clauses.now in
    let counts = c.args.counts.now in
    record {
      grows = grows_more (IsClosed clauses counts) c.args.known.now c.loop-feature.known c.visit_each.new.known c.loop-feature.invariant.grows c.in_ok-visit_each.ensures.advances.grows;
      done = done_without clauses counts c.loop-feature.known c.visit_each.new.known c.loop-feature.waiting.items c.pop.new.self.items c.visit_each.new.waiting.items c.numbers.result.now c.args.index.now c.in-Some.feature
          c.requires.index c.in-Some.ensures.items c.numbers.ensures c.loop-feature.invariant.done c.in_ok-visit_each.ensures.advances c.in_ok-visit_each.ensures.done;
    }

pub returns-in_err-visit_each-clause-contradiction : goal.returns-in_err-visit_each-clause-contradiction
returns-in_err-visit_each-clause-contradiction c =
    let p = err_from_is_err_and c.from_residual.result c.from_residual.ensures.1 in
    λ e. contradicts_before (IsClosed c.args.clauses.now c.args.counts.now) c.args.known.now c.loop-feature.known c.loop-feature.invariant.grows
    (c.visit_each.ensures.contradiction (passed_on c.from_residual.result c.visit_each.result c.in_err-visit_each.field-0.0 p.0 Contradiction p.1 p.2 c.in_err-visit_each.was e))

pub returns-clause-closed : goal.returns-clause-closed
returns-clause-closed c =
    closed_when_none_waits c.args.clauses.now c.args.counts.now c.loop-feature.known c.loop-feature.waiting.items (search rules) c.loop-feature.invariant.done

pub visit_each-requires-clause-counts : goal.visit_each-requires-clause-counts
visit_each-requires-clause-counts c = grind (arith, common_steps)

pub visit_each-requires-clause-clauses : goal.visit_each-requires-clause-clauses
visit_each-requires-clause-clauses c = grind (arith, common_steps)

pub returns-clause-contradiction : goal.returns-clause-contradiction
returns-clause-contradiction c = grind (arith, common_steps)

pub loop-feature-smaller : goal.loop-feature-smaller
loop-feature-smaller c = grind (arith, common_steps)

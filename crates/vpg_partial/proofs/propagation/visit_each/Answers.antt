use Rattle.std.proofs.lemmas.Grind.{common_steps}
use Rattle.std.proofs.Common.{ℕ, List, Contains, sym, subst, arith}
use Rattle.std.proofs.lemmas.List.{take_all}
use Rattle.std.proofs.lemmas.Result.{err_from_is_err_and}
use Rattle.vpg_partial.specs.Known.{IsClosed}
use Rattle.vpg_partial.specs.declared.propagation.Stop.TheVariants.{Contradiction}
use Rattle.vpg_partial.proofs.TableSteps.{contradicts_before}
use Rattle.vpg_partial.proofs.WorklistSteps.{advances_more, done_each, passed_on}
use Rattle.vpg_partial.proofs.propagation.visit_each.Goals as goal

pub returns-in_err-visit-clause-contradiction : goal.returns-in_err-visit-clause-contradiction
returns-in_err-visit-clause-contradiction c =
    let p = err_from_is_err_and c.from_residual.result c.from_residual.ensures.1 in
    λ e. contradicts_before (IsClosed c.args.clauses.now c.args.counts.now) c.args.known.now c.loop-number.known c.loop-number.invariant.advances.grows
    (c.visit.ensures.contradiction (passed_on c.from_residual.result c.visit.result c.in_err-visit.field-0.0 p.0 Contradiction p.1 p.2 c.in_err-visit.was e))

pub loop-number-preserved : goal.loop-number-preserved
loop-number-preserved c =
    let clauses = c.args.clauses.now in
    let counts = c.args.counts.now in
    record {
      advances = advances_more clauses counts c.args.known.now c.loop-number.known c.visit.new.known c.args.waiting.now.items c.loop-number.waiting.items c.visit.new.waiting.items
          c.loop-number.invariant.advances c.in_ok-visit.ensures.advances;
      done = done_each clauses counts c.loop-number.known c.visit.new.known c.loop-number.waiting.items c.visit.new.waiting.items c.args.numbers.now c.loop-number.number-index 0 c.loop-number-test.true
          c.loop-number.invariant.done c.in_ok-visit.ensures.advances c.in_ok-visit.ensures.done;
    }

pub returns-clause-done : goal.returns-clause-done
returns-clause-done c =
    λ number h. c.loop-number.invariant.done number (subst (λ (xs : List ℕ). Contains xs number) (sym (take_all c.loop-number.number-index c.args.numbers.now c.loop-number-test.false)) h)

pub loop-number-init : goal.loop-number-init
loop-number-init c = grind (arith, common_steps)

pub visit-requires-clause-counts : goal.visit-requires-clause-counts
visit-requires-clause-counts c = grind (arith, common_steps)

pub visit-requires-clause-clauses : goal.visit-requires-clause-clauses
visit-requires-clause-clauses c = grind (arith, common_steps)

pub returns-clause-contradiction : goal.returns-clause-contradiction
returns-clause-contradiction c = grind (arith, common_steps)

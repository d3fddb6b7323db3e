use Rattle.std.proofs.Common.{ℕ, length, take, ap, sym, subst, arith}
use Rattle.vpg_guards.specs.Formula.{IsBelow}
use Rattle.vpg_guards.specs.View.{formula_of}
use Rattle.vpg_system.specs.SystemView.{transition_of}
use Rattle.vpg_system_draw.proofs.Rows.{rows_count, next_rows, all_rows}
use Rattle.vpg_system_draw.proofs.reached.rows_of.Goals as goal

pub add_transition-requires-clause-source : goal.add_transition-requires-clause-source
add_transition-requires-clause-source c =
    omega (arith, c.transition_at.ensures.is.source_below, ap length c.loop-at.invariant, rows_count c.args.known.now c.args.system.now.states (take c.loop-at.at c.args.system.now.transitions))

pub add_transition-requires-clause-guard : goal.add_transition-requires-clause-guard
add_transition-requires-clause-guard c =
    subst (λ (n : ℕ). IsBelow n (formula_of c.transition_at.result.now.guard)) (sym c.requires) c.transition_at.ensures.is.guard_is.below

pub loop-at-preserved : goal.loop-at-preserved
loop-at-preserved c =
    next_rows c.args.known.now c.args.system.now.states c.loop-at.at c.args.system.now.transitions c.loop-at.rows.items c.add_transition.new.rows.items (transition_of c.transition_at.result.now)
    (omega (arith, c.loop-at-test.true, c.transition_count-at-end.ensures)) c.transition_at.ensures.value c.loop-at.invariant c.in_ok-add_transition.ensures

pub returns : goal.returns
returns c =
    all_rows c.args.known.now c.args.system.now.states c.loop-at.at c.args.system.now.transitions c.loop-at.rows.items (omega (arith, c.loop-at-test.false, c.transition_count-at-end.ensures)) c.loop-at.invariant

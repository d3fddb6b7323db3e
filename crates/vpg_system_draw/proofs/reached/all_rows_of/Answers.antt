use Rattle.std.proofs.Common.{length, take, ap, arith}
use Rattle.vpg_system.specs.SystemView.{transition_of}
use Rattle.vpg_system_draw.proofs.AllRows.{all_rows_count, next_of_all, whole_of_all}
use Rattle.vpg_system_draw.proofs.reached.all_rows_of.Goals as goal

pub add_target-requires : goal.add_target-requires
add_target-requires c =
    omega (arith, c.transition_at-transition.ensures.is.source_below, ap length c.loop-at.invariant, all_rows_count c.args.system.now.states (take c.loop-at.at c.args.system.now.transitions))

pub loop-at-preserved : goal.loop-at-preserved
loop-at-preserved c =
    next_of_all c.args.system.now.states c.loop-at.at c.args.system.now.transitions c.loop-at.rows.items c.add_target.new.rows.items (transition_of c.transition_at-transition.result.now)
    (omega (arith, c.loop-at-test.true, c.transition_count-at-end.ensures)) c.transition_at-transition.ensures.value c.loop-at.invariant c.in_ok-add_target.ensures

pub returns : goal.returns
returns c =
    whole_of_all c.args.system.now.states c.loop-at.at c.args.system.now.transitions c.loop-at.rows.items (omega (arith, c.loop-at-test.false, c.transition_count-at-end.ensures)) c.loop-at.invariant

use Rattle.vpg_warnings.proofs.Unreached.{unreached_are}
use Rattle.vpg_warnings.proofs.states.unreached_states.Goals as goal

pub returns : goal.returns
returns c =
    rw (c.in_ok-states.ensures, c.deref-2.ensures.value, c.in_ok-others.ensures, c.deref.ensures.value)
    (unreached_are c.args.system.now c.in_ok-reached.reached.items c.in_ok-reached.ensures)

use Rattle.std.proofs.Common.{◌<◌, length, sym, subst}
use Rattle.vpg_guards.specs.Formula.{IsBelow}
use Rattle.vpg_guards.specs.View.{formula_of}
use Rattle.vpg_system.specs.SystemView.{transition_of}
use Rattle.vpg_system.proofs.Written.{one_of}
use Rattle.vpg_system.proofs.writing.put_transitions.Goals as goal

pub put_transition-requires-clause-action : goal.put_transition-requires-clause-action
put_transition-requires-clause-action c =
    subst (λ t. t.action < length c.args.names.now) (sym c.transition-item.is)
    (one_of (λ t. (t.action < length c.args.names.now) × IsBelow (length c.args.features.now) t.guard) transition_of c.args.transitions.now c.loop-transition.transition-index c.transition-item.result c.loop-transition-test.true c.requires).0

pub put_transition-requires-clause-guard : goal.put_transition-requires-clause-guard
put_transition-requires-clause-guard c =
    subst (λ t. IsBelow (length c.args.features.now) (formula_of t.guard)) (sym c.transition-item.is)
    (one_of (λ t. (t.action < length c.args.names.now) × IsBelow (length c.args.features.now) t.guard) transition_of c.args.transitions.now c.loop-transition.transition-index c.transition-item.result c.loop-transition-test.true c.requires).1

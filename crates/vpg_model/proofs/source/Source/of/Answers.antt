use Rattle.std.proofs.Common.{ℕ, sym, subst}
use Rattle.vpg_model.specs.Pairs.{HaveGuards}
use Rattle.vpg_model.proofs.Sourced.{are_of_system, have_guards}
use Rattle.vpg_model.proofs.source.Source.of.Goals as goal

pub returns-clause-system : goal.returns-clause-system
returns-clause-system c = are_of_system c.args.system.now c.in_ok-states.states.items c.transitions-transitions.ensures.system c.in_ok-states.ensures

pub returns-clause-guards : goal.returns-clause-guards
returns-clause-guards c = subst (λ (n : ℕ). HaveGuards n c.in_ok-states.states.items) (sym c.features.ensures) (have_guards c.args.system.now c.in_ok-states.states.items c.transitions-transitions.ensures.system c.in_ok-states.ensures)

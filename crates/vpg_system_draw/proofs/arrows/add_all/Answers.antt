use Rattle.std.proofs.Common.{ℕ, sym, subst}
use Rattle.vpg_guards.specs.Formula.{IsBelow}
use Rattle.vpg_guards.specs.View.{formula_of}
use Rattle.vpg_system.specs.SystemView.{transition_of}
use Rattle.vpg_system_draw.proofs.Joins.{none_yet, next_arrows}
use Rattle.vpg_system_draw.proofs.arrows.add_all.Goals as goal

pub loop-at-init : goal.loop-at-init
loop-at-init c = none_yet c.args.ends.now.keys c.args.labels.now.items c.requires.ends c.requires.labels

pub add-requires-clause-guard : goal.add-requires-clause-guard
add-requires-clause-guard c =
    subst (λ (n : ℕ). IsBelow n (formula_of c.transition_at-transition.result.now.guard)) (sym c.requires.features) c.transition_at-transition.ensures.is.guard_is.below

pub loop-at-preserved : goal.loop-at-preserved
loop-at-preserved c =
    next_arrows c.args.names.now c.args.known.now c.args.system.now c.args.marks.now c.args.look c.loop-at.at c.loop-at.ends.keys c.add.new.ends.keys c.loop-at.labels.items c.add.new.labels.items
    (transition_of c.transition_at-transition.result.now) c.is_marked-is_marked.result c.transition_at-transition.ensures.value c.is_marked-is_marked.ensures c.loop-at.invariant c.in_ok-add.ensures

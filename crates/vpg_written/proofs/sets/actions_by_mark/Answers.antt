use Rattle.std.proofs.Common.{ℕ, sym, subst, arith}
use Rattle.vpg_written.proofs.Values.{every_mark, label_mark, other_mark, will_mark, both_mark, either_mark, no_action_mark}
use Rattle.vpg_requirement.specs.Actions as numbered
use Rattle.vpg_parts.specs.Sets.{ArePermitted, actions_at}
use Rattle.vpg_formula.specs.declared.mark.Mark.{Mark}
use Rattle.vpg_written.specs.Terms.{IsSetOf}
use Rattle.vpg_written.specs.Actions.{IsActionsOf}
use Rattle.vpg_meaning.specs.Labels.{actions_named}
use Rattle.vpg_written.proofs.sets.actions_by_mark.Goals as goal

pub returns-in-EveryAction : goal.returns-in-EveryAction
returns-in-EveryAction c = λ actions are. (omega (arith, are.enough), subst (λ (m : Mark). IsActionsOf c.args.system.now.actions m actions c.args.first c.args.second (actions_at actions 0)) (sym c.in-EveryAction.is) (every_mark c.args.system.now.actions actions c.args.first c.args.second are.constants))

pub returns-in_ok-named-in-Action : goal.returns-in_ok-named-in-Action
returns-in_ok-named-in-Action c = λ actions are. record {
  formula = actions_named c.in-Action.label 0 c.args.system.now.actions;
  set_is = c.in_ok-named-in-Action.ensures;
  is = subst (λ (m : Mark). IsActionsOf c.args.system.now.actions m actions c.args.first c.args.second (actions_named c.in-Action.label 0 c.args.system.now.actions)) (sym c.in-Action.is) (label_mark c.args.system.now.actions actions c.args.first c.args.second c.in-Action.label);
}

pub returns-in_ok-complement-in-OtherThan : goal.returns-in_ok-complement-in-OtherThan
returns-in_ok-complement-in-OtherThan c = λ actions are. record {
  formula = numbered.other_than (actions_at actions c.args.second);
  set_is = subst (λ (n : ℕ). IsSetOf n c.in_ok-complement-in-OtherThan.field-0 (numbered.other_than (actions_at actions c.args.second))) c.actions-count.ensures.count (c.in_ok-complement-in-OtherThan.ensures (actions_at actions c.args.second) (subst (λ (n : ℕ). ArePermitted n c.args.sets.now c.args.second (actions_at actions c.args.second)) (sym c.actions-count.ensures.count) (are.permitted c.args.second)));
  is = subst (λ (m : Mark). IsActionsOf c.args.system.now.actions m actions c.args.first c.args.second (numbered.other_than (actions_at actions c.args.second))) (sym c.in-OtherThan.is) (other_mark c.args.system.now.actions actions c.args.first c.args.second);
}

pub returns-in_ok-complement-in-Will : goal.returns-in_ok-complement-in-Will
returns-in_ok-complement-in-Will c = λ actions are. record {
  formula = numbered.other_than (actions_at actions c.args.second);
  set_is = subst (λ (n : ℕ). IsSetOf n c.in_ok-complement-in-Will.field-0 (numbered.other_than (actions_at actions c.args.second))) c.actions-count.ensures.count (c.in_ok-complement-in-Will.ensures (actions_at actions c.args.second) (subst (λ (n : ℕ). ArePermitted n c.args.sets.now c.args.second (actions_at actions c.args.second)) (sym c.actions-count.ensures.count) (are.permitted c.args.second)));
  is = subst (λ (m : Mark). IsActionsOf c.args.system.now.actions m actions c.args.first c.args.second (numbered.other_than (actions_at actions c.args.second))) (sym c.in-Will.is) (will_mark c.args.system.now.actions actions c.args.first c.args.second);
}

pub returns-in_ok-joined-in-BothOf : goal.returns-in_ok-joined-in-BothOf
returns-in_ok-joined-in-BothOf c = λ actions are. record {
  formula = numbered.both_of (actions_at actions c.args.first) (actions_at actions c.args.second);
  set_is = subst (λ (n : ℕ). IsSetOf n c.in_ok-joined-in-BothOf.field-0 (numbered.both_of (actions_at actions c.args.first) (actions_at actions c.args.second))) c.actions-count.ensures.count (c.in_ok-joined-in-BothOf.ensures (actions_at actions c.args.first) (actions_at actions c.args.second) (subst (λ (n : ℕ). ArePermitted n c.args.sets.now c.args.first (actions_at actions c.args.first)) (sym c.actions-count.ensures.count) (are.permitted c.args.first)) (subst (λ (n : ℕ). ArePermitted n c.args.sets.now c.args.second (actions_at actions c.args.second)) (sym c.actions-count.ensures.count) (are.permitted c.args.second)));
  is = subst (λ (m : Mark). IsActionsOf c.args.system.now.actions m actions c.args.first c.args.second (numbered.both_of (actions_at actions c.args.first) (actions_at actions c.args.second))) (sym c.in-BothOf.is) (both_mark c.args.system.now.actions actions c.args.first c.args.second);
}

pub returns-in_ok-joined-in-EitherOf : goal.returns-in_ok-joined-in-EitherOf
returns-in_ok-joined-in-EitherOf c = λ actions are. record {
  formula = numbered.either_of (actions_at actions c.args.first) (actions_at actions c.args.second);
  set_is = subst (λ (n : ℕ). IsSetOf n c.in_ok-joined-in-EitherOf.field-0 (numbered.either_of (actions_at actions c.args.first) (actions_at actions c.args.second))) c.actions-count.ensures.count (c.in_ok-joined-in-EitherOf.ensures (actions_at actions c.args.first) (actions_at actions c.args.second) (subst (λ (n : ℕ). ArePermitted n c.args.sets.now c.args.first (actions_at actions c.args.first)) (sym c.actions-count.ensures.count) (are.permitted c.args.first)) (subst (λ (n : ℕ). ArePermitted n c.args.sets.now c.args.second (actions_at actions c.args.second)) (sym c.actions-count.ensures.count) (are.permitted c.args.second)));
  is = subst (λ (m : Mark). IsActionsOf c.args.system.now.actions m actions c.args.first c.args.second (numbered.either_of (actions_at actions c.args.first) (actions_at actions c.args.second))) (sym c.in-EitherOf.is) (either_mark c.args.system.now.actions actions c.args.first c.args.second);
}

pub returns-in_default : goal.returns-in_default
returns-in_default c = λ actions are. (
  omega (arith, are.enough),
  no_action_mark c.args.system.now.actions c.args.mark.now actions c.args.first c.args.second are.constants (record {
    every = c.in_default.not-EveryAction;
    label = c.in_default.not-Action;
    other = c.in_default.not-OtherThan;
    will = c.in_default.not-Will;
    both = c.in_default.not-BothOf;
    either = c.in_default.not-EitherOf;
  }),
)

use Rattle.std.proofs.Common.{◌≡◌, ◌+◌, ◌++◌, ℕ, Bool, List, Vec, Global, drop, sym, ◌∙◌, ap, arith}
use Rattle.std.specs.Bool.{beq}
use Rattle.vpg_part_texts.specs.SetTexts.{listed}
use Rattle.vpg_part_texts.proofs.Listing.{more_here, more_later}
use Rattle.vpg_part_texts.proofs.sets.listed.Goals as goal
use Rattle.vpg_part_texts.proofs.sets.listed.Goals.{then-has-is_in+in_ok-put_action, else-has-is_in}

pub loop-action-preserved : goal.loop-action-preserved
loop-action-preserved c = elim c.if-has-is_in.branch [
  | then-has-is_in+in_ok-put_action w ↦ more_here c.args.is_in c.args.set.now c.args.system.now.actions c.loop-action.action c.loop-action.text.items c.if-has-is_in.text.items (listed c.args.is_in c.args.set.now 0 c.args.system.now.actions)
      (omega (arith, c.loop-action-test.true, c.actions-action-end.ensures.count)) (sym (ap (λ (b : Bool). beq b c.args.is_in) c.has.ensures) ∙ w.if-has-is_in.true) c.loop-action.invariant
      (ap (λ (v : Vec ℕ Global). v.items) w.text-is ∙ w.in_ok-put_action.ensures)
  | else-has-is_in w ↦ ap (λ (v : Vec ℕ Global). v.items ++ listed c.args.is_in c.args.set.now (c.loop-action.action + 1) (drop (c.loop-action.action + 1) c.args.system.now.actions)) w.text-is
      ∙ more_later c.args.is_in c.args.set.now c.args.system.now.actions c.loop-action.action c.loop-action.text.items (listed c.args.is_in c.args.set.now 0 c.args.system.now.actions)
      (omega (arith, c.loop-action-test.true, c.actions-action-end.ensures.count)) (sym (ap (λ (b : Bool). beq b c.args.is_in) c.has.ensures) ∙ w.if-has-is_in.false) c.loop-action.invariant
]

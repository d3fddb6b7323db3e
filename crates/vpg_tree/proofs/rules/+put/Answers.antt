use Rattle.std.proofs.Common.{arith, length, sym, ap, subst, ◌∙◌}
use Rattle.vpg_rules.specs.Constraint.{IsBelow, all, any}
use Rattle.vpg_rules.proofs.Views.{seen_all, seen_any}
use Rattle.vpg_tree.proofs.Sizes.{size}
use Rattle.vpg_tree.proofs.rules.+put.Goals as goal

pub put_rule-put_all-requires : goal.put_rule-put_all-requires
put_rule-put_all-requires t c =
    let parts = c.as_slice.result.now in
    let seen = seen_all c.args.rule.now c.in-All.parts c.in-All.is ∙ ap all (sym c.as_slice.ensures) in (
      omega (arith, ap size seen, c.decreases),
      subst (IsBelow (length c.args.names.now)) seen c.requires,
    )

pub put_rule-put_any-requires : goal.put_rule-put_any-requires
put_rule-put_any-requires t c =
    let parts = c.as_slice-in-Any.result.now in
    let seen = seen_any c.args.rule.now c.in-Any.parts c.in-Any.is ∙ ap any (sym c.as_slice-in-Any.ensures) in (
      omega (arith, ap size seen, c.decreases),
      subst (IsBelow (length c.args.names.now)) seen c.requires,
    )

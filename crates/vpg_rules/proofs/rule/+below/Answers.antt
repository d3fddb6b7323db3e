use Rattle.std.proofs.Common.{ℕ, ◌-◌, ◌≡◌, List, sym, subst, arith}
use Rattle.vpg_rules.specs.Constraint.{Parts, AreBelow}
use Rattle.vpg_rules.proofs.Views.{parts_in-items}
use Rattle.vpg_rules.proofs.Features.{part_below}
use Rattle.vpg_rules.proofs.rule.+below.Goals as goal

pub Rules::are_below-returns-then-not-is_below : goal.Rules::are_below-returns-then-not-is_below
Rules::are_below-returns-then-not-is_below t c =
    let items = c.args.self.now.items.items in
    let lt = c.loop-place-test.true in (
      λ e. absurd cc,
      λ below. let here = part_below c.args.features items (c.loop-place.place - 1) c.index.result.now (omega (arith, c.len-place.ensures, c.args.self.now.items.ok.0)) c.index.ensures (subst (λ (cs : Parts ℕ). AreBelow c.args.features cs) (parts_in-items c.args.self.now) below) in
          let yes = c.is_below.ensures.1 here in cc,
    )

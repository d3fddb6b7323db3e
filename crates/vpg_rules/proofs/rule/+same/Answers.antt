use Rattle.std.proofs.Common.{ℕ, ◌-◌, ◌≡◌, sym, ap, ◌∙◌, arith}
use Rattle.vpg_rules.proofs.Views.{parts_in-items}
use Rattle.vpg_rules.proofs.Same.{as_many, part_same}
use Rattle.vpg_rules.proofs.rule.+same.Goals as goal

pub Rules::are_same-returns-then-len : goal.Rules::are_same-returns-then-len
Rules::are_same-returns-then-len t c = (
  λ e. absurd cc,
  λ same. let many = as_many c.args.self.now.items.items c.args.other.now.items.items (sym (parts_in-items c.args.self.now) ∙ same ∙ parts_in-items c.args.other.now) in
      absurd (c.if-len.true (omega (arith, c.len.ensures, c.len-2.ensures, c.args.self.now.items.ok.0, c.args.other.now.items.ok.0, many))),
)

pub Rules::are_same-returns-then-not-is_same : goal.Rules::are_same-returns-then-not-is_same
Rules::are_same-returns-then-not-is_same t c =
    let items = c.args.self.now.items.items in
    let others = c.args.other.now.items.items in (
      λ e. absurd cc,
      λ same. let here = part_same items others (c.loop-place.place - 1) c.index.result.now c.index-in-loop-place.result.now (omega (arith, c.len-place.ensures, c.args.self.now.items.ok.0)) (omega (arith, c.len.ensures, c.len-2.ensures, c.len-place.ensures, c.if-len.false, c.args.self.now.items.ok.0, c.args.other.now.items.ok.0)) c.index.ensures c.index-in-loop-place.ensures
          (sym (parts_in-items c.args.self.now) ∙ same ∙ parts_in-items c.args.other.now) in
          let yes = c.is_same.ensures.1 here in cc,
    )

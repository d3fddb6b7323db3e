use Rattle.std.proofs.Common.{◌≡◌, false, true}
use Rattle.vpg_sides.specs.declared.which.Which.TheVariants.{Hopeful, Dual}
use Rattle.vpg_measure.proofs.OrderLemmas.{tables_settled}
use Rattle.vpg_measure.proofs.order.Order.looks_settled.Goals as goal

pub returns-then-is_settled : goal.returns-then-is_settled
returns-then-is_settled c = (
  λ settled. tables_settled c.args.self.now (c.is_settled.ensures.0 c.if-is_settled.true) (c.is_settled-then-is_settled.ensures.0 settled),
  λ all. c.is_settled-then-is_settled.ensures.1 (all Dual),
)

pub returns-else-is_settled : goal.returns-else-is_settled
returns-else-is_settled c = (
  λ settled. (let e : false ≡ true = rw c.if-is_settled.false at settled in absurd (cc)),
  λ all. c.is_settled.ensures.1 (all Hopeful),
)

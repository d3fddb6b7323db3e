use Rattle.std.proofs.Common.{◌∙◌, ◌+◌, ℕ, subst, sym, arith}
use Rattle.vpg_measure.specs.Orders.{HarvestView, IsSettledHarvest}
use Rattle.vpg_settle.specs.Sweeping.{IsSweptOrder, AreSweepsAlone, Leave}
use Rattle.vpg_settle.proofs.Often.{left_more, alone_then, one_alone, swept_on}
use Rattle.vpg_settle.proofs.Repeated.{settled_early}
use Rattle.vpg_settle.proofs.sweeping.sweep_often.Goals as goal

pub returns-then-check-clause-swept : goal.returns-then-check-clause-swept
returns-then-check-clause-swept g c =
    let now = c.loop-done.order in
    let harvest = c.sweep-harvest.result in
    subst (IsSweptOrder c.args.order c.args.sweeps) (sym c.noted.ensures)
    (settled_early c.args.order harvest (c.loop-done.done + 1) c.args.sweeps
    (swept_on c.args.lifters c.loop-done.done 1 c.args.order now harvest c.loop-done.invariant.left c.sweep-harvest.ensures.swept) (c.check.ensures.0 c.if-check.true))

pub returns-then-check-clause-settled : goal.returns-then-check-clause-settled
returns-then-check-clause-settled g c = subst IsSettledHarvest (sym c.noted.ensures) (c.check.ensures.0 c.if-check.true)

pub returns-then-check-clause-made : goal.returns-then-check-clause-made
returns-then-check-clause-made g c =
    let now = c.loop-done.order in
    let harvest = c.sweep-harvest.result in
    subst (λ (h : HarvestView). AreSweepsAlone c.args.lifters (c.loop-done.done + 1) c.args.order h) (sym c.noted.ensures)
    (alone_then c.args.lifters c.loop-done.done 1 c.args.order now harvest c.loop-done.invariant.left (one_alone c.args.lifters now harvest c.sweep-harvest.ensures.by))

pub loop-done-preserved : goal.loop-done-preserved
loop-done-preserved g c = record {
  left = left_more c.args.lifters c.loop-done.done c.args.order c.loop-done.order c.again-order.result c.sweep-harvest.result c.loop-done.invariant.left c.sweep-harvest.ensures.by
      (λ settled. absurd (cc (c.check.ensures.1 settled, c.if-check.false))) c.again-order.ensures;
  game = c.again-order.ensures.game ∙ c.sweep-harvest.ensures.swept.page.game ∙ c.loop-done.invariant.game;
}

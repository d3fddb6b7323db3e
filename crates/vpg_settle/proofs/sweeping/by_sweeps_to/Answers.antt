use Rattle.std.proofs.Common.{◌∙◌, ◌+◌, ◌≤◌, ℕ, subst, sym, arith, ◌⊎◌, inl, inr}
use Rattle.std.specs.Prelude.{Some}
use Rattle.vpg_measure.specs.Orders.{IsSettledHarvest}
use Rattle.vpg_settle.specs.Sweeping.{IsSweptOrder, AreSweeps, Leave, EndsBy}
use Rattle.vpg_settle.proofs.Often.{left_more, made_then, one_sweep, swept_on}
use Rattle.vpg_settle.proofs.Repeated.{swept_less, swept_all}
use Rattle.vpg_settle.proofs.sweeping.by_sweeps_to.Goals as goal

pub returns-then-is_enough-clause-swept : goal.returns-then-is_enough-clause-swept
returns-then-is_enough-clause-swept g c =
    let harvest = c.sweep-harvest.result in
    record {
      kept = swept_less c.args.order harvest (c.loop-done.done + 1)
          (swept_on c.args.lifters c.loop-done.done 1 c.args.order c.loop-done.order harvest c.loop-done.invariant.left c.sweep-harvest.ensures.swept);
      enough = λ unsettled. inl (c.is_enough.ensures.enough c.if-is_enough.true unsettled);
    }

pub returns-then-is_enough-clause-made : goal.returns-then-is_enough-clause-made
returns-then-is_enough-clause-made g c =
    let now = c.loop-done.order in
    let harvest = c.sweep-harvest.result in
    made_then c.args.lifters c.loop-done.done 1 c.args.order now harvest c.loop-done.invariant.left (one_sweep c.args.lifters now harvest c.sweep-harvest.ensures.by)

pub returns-then-is_enough-clause-ended : goal.returns-then-is_enough-clause-ended
returns-then-is_enough-clause-ended g c = go (c.is_enough.ensures.late c.if-is_enough.true)
  where
    go : IsSettledHarvest c.sweep-harvest.result ⊎ (16 ≤ c.loop-done.done) → EndsBy (Some c.args.goal) c.args.sweeps (c.loop-done.done + 1) c.sweep-harvest.result
    go (inl settled) = inl settled
    go (inr late) = inr (inr (tt, omega (arith, late)))

pub loop-done-preserved : goal.loop-done-preserved
loop-done-preserved g c = record {
  left = left_more c.args.lifters c.loop-done.done c.args.order c.loop-done.order c.again-order.result c.sweep-harvest.result c.loop-done.invariant.left c.sweep-harvest.ensures.by
      (λ settled. absurd (cc (c.is_enough.ensures.settled settled, c.if-is_enough.false))) c.again-order.ensures;
  game = c.again-order.ensures.game ∙ c.sweep-harvest.ensures.swept.page.game ∙ c.loop-done.invariant.game;
}

pub returns-clause-swept : goal.returns-clause-swept
returns-clause-swept g c =
    let left : Leave c.args.lifters c.args.sweeps c.args.order c.loop-done.order =
    subst (λ (n : ℕ). Leave c.args.lifters n c.args.order c.loop-done.order) (omega (arith, c.loop-done.auto.done-end, c.loop-done-test.false)) c.loop-done.invariant.left in
    swept_all c.args.order c.by_rounds.result c.args.sweeps (Some c.args.goal)
    (subst (λ (n : ℕ). IsSweptOrder c.args.order n c.by_rounds.result) (omega arith)
    (swept_on c.args.lifters c.args.sweeps 0 c.args.order c.loop-done.order c.by_rounds.result left c.by_rounds.ensures.swept))

pub returns-clause-made : goal.returns-clause-made
returns-clause-made g c =
    let left : Leave c.args.lifters c.args.sweeps c.args.order c.loop-done.order =
    subst (λ (n : ℕ). Leave c.args.lifters n c.args.order c.loop-done.order) (omega (arith, c.loop-done.auto.done-end, c.loop-done-test.false)) c.loop-done.invariant.left in
    subst (λ (n : ℕ). AreSweeps c.args.lifters n c.args.order c.by_rounds.result) (omega arith)
    (made_then c.args.lifters c.args.sweeps 0 c.args.order c.loop-done.order c.by_rounds.result left
    (record { page = c.by_rounds.ensures.swept.page; same = c.by_rounds.ensures.tables }))

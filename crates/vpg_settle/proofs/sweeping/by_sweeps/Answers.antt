use Rattle.std.proofs.Common.{◌≡◌, ◌∙◌, ◌+◌, ℕ, ap, subst, sym, arith}
use Rattle.vpg_measure.specs.Orders.{OrderView, order_table}
use Rattle.vpg_settle.specs.Sweeping.{IsSweptOrder, AreSweepsAlone, Leave}
use Rattle.vpg_settle.proofs.Often.{alone_then, swept_on}
use Rattle.vpg_settle.proofs.sweeping.by_sweeps.Goals as goal

pub returns-in-Ok-clause-none : goal.returns-in-Ok-clause-none
returns-in-Ok-clause-none g c = λ none which. absurd (omega (arith, none, c.in-Ok.ensures.some, c.in-Ok.ensures.few))

pub returns-in-Err-clause-swept : goal.returns-in-Err-clause-swept
returns-in-Err-clause-swept g c =
    subst (λ (n : ℕ). IsSweptOrder c.args.order n c.by_rounds.result) (omega arith)
    (swept_on c.args.lifters c.args.sweeps 0 c.args.order c.in-Err.order c.by_rounds.result c.in-Err.ensures.left c.by_rounds.ensures.swept)

pub returns-in-Err-clause-made : goal.returns-in-Err-clause-made
returns-in-Err-clause-made g c =
    subst (λ (n : ℕ). AreSweepsAlone c.args.lifters n c.args.order c.by_rounds.result) (omega arith)
    (alone_then c.args.lifters c.args.sweeps 0 c.args.order c.in-Err.order c.by_rounds.result c.in-Err.ensures.left
    (record { page = c.by_rounds.ensures.swept.page; same = c.by_rounds.ensures.tables }))

pub returns-in-Err-clause-none : goal.returns-in-Err-clause-none
returns-in-Err-clause-none g c = λ none which.
    let same : c.args.order ≡ c.in-Err.order = subst (λ (n : ℕ). Leave c.args.lifters n c.args.order c.in-Err.order) none c.in-Err.ensures.left in
    c.by_rounds.ensures.tables which ∙ ap (λ (order : OrderView). order_table which order) (sym same)

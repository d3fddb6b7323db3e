use Rattle.std.proofs.lemmas.Grind.{common_steps}
use Rattle.std.proofs.Common.{arith, inl}
use Rattle.vpg_measure.specs.Orders.{other_table}
use Rattle.vpg_texts.proofs.Shown.{on_ok}
use Rattle.vpg_looks.proofs.Moving.{table_is}
use Rattle.vpg_looks.proofs.winning.moves_if.Goals as goal

pub winning-requires-clause-verdict : goal.winning-requires-clause-verdict
winning-requires-clause-verdict c = rw c.verdict_for-verdict.ensures at (c.has_top.ensures.0 c.if-has_top.true)

pub returns-then-has_top : goal.returns-then-has_top
returns-then-has_top c =
    let high = rw (c.verdict_for-verdict.ensures, table_is c.args.order.now (other_table c.args.mover)) at (c.has_top.ensures.0 c.if-has_top.true) in
    on_ok c.winning.result _ _ (λ told. (told.0, (inl (high, told.1.0), told.1.1))) c.winning.ensures

pub returns-else-has_top : goal.returns-else-has_top
returns-else-has_top c = grind (arith, common_steps)

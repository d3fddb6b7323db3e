use Rattle.std.proofs.Common.{refl}
use Rattle.vpg_sides.specs.declared.which.Which.TheVariants.{Hopeful, Dual}
use Rattle.vpg_texts.proofs.Settled.{refuted}
use Rattle.vpg_texts.proofs.showing.plans.choices.Goals as goal

pub returns-in-Err-NotSettled-clause-unsettled : goal.returns-in-Err-NotSettled-clause-unsettled
returns-in-Err-NotSettled-clause-unsettled c = (
  λ none all. c.strategy.ensures.not_settled.0 (cc) (rw (c.shape-shape.ensures, c.arena-arena.ensures) (all Hopeful)),
  λ fails. refl,
)

pub returns-then-not-is_settled_table-clause-unsettled :
    goal.returns-then-not-is_settled_table-clause-unsettled
returns-then-not-is_settled_table-clause-unsettled c = (
  λ none all. refuted c.is_settled_table.result _ c.if-not-is_settled_table.true c.is_settled_table.ensures (all Dual),
  λ fails. refl,
)

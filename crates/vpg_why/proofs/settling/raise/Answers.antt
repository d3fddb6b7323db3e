use Rattle.std.proofs.Common.{ℕ, List, sym, subst}
use Rattle.vpg_measure.proofs.Monotone.{after_grows}
use Rattle.vpg_measure.proofs.Rounds.{after_stays}
use Rattle.vpg_measure.specs.Lifts.{IsBelowTable, IsProgressTable, after_rounds}
use Rattle.vpg_why.proofs.Tops.{rounds_settle}
use Rattle.vpg_why.proofs.settling.raise.Goals as goal

pub returns-clause-rounds : goal.returns-clause-rounds
returns-clause-rounds c h = c.is_progress.ensures.1 (subst (λ (t : List ℕ). IsProgressTable c.args.shape.now c.args.arena.now t) (sym c.settle_alone.ensures.after)
    (rounds_settle c.args.shape.now c.args.arena.now c.args.limits.rounds c.args.table.now c.raise_for.new.table c.requires c.raise_for.ensures.table c.raise_for.ensures.above c.raise_for.ensures.below h))

pub returns-clause-below : goal.returns-clause-below
returns-clause-below c other t progress low =
    c.settle_alone.ensures.below other t progress (c.raise_for.ensures.below other t progress low)

pub returns-then-settled-clause-above : goal.returns-then-settled-clause-above
returns-then-settled-clause-above c = after_stays c.args.shape.now c.args.arena.now c.args.limits.rounds c.args.table.now c.raise_for.new.table c.requires c.raise_for.ensures.table (c.in_ok-settled.ensures.settled.0 c.if-settled.true) c.raise_for.ensures.above

pub returns-clause-above : goal.returns-clause-above
returns-clause-above c = subst (λ (t : List ℕ). IsBelowTable (after_rounds c.args.shape.now c.args.arena.now c.args.limits.rounds c.args.table.now) t) (sym c.settle_alone.ensures.after)
    (after_grows c.args.shape.now c.args.arena.now c.args.limits.rounds c.args.table.now c.raise_for.new.table c.requires c.raise_for.ensures.table c.raise_for.ensures.above)

use Rattle.vpg_winners.proofs.joining.joins_at.Goals as goal

pub returns-clause-none : goal.returns-clause-none
returns-clause-none c = λ e can.
    (rw (c.deref.ensures.value, c.deref-2.ensures.value) at c.differ_at.ensures.none) e can.0 can.1.literals

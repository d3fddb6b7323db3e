use Rattle.vpg_winners.proofs.joining.halves.Goals as goal

pub returns-clause-numbers : goal.returns-clause-numbers
returns-clause-numbers c = λ measure ready.
    c.in_ok-put_all.ensures.numbers measure ready.additive
    (c.in_ok-parts.ensures.numbers measure (rw c.deref.ensures.value ready.high)) (rw c.deref-2.ensures.value ready.low)

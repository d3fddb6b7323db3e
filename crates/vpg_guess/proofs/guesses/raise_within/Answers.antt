use Rattle.std.proofs.Common.{ℕ, List, sym, subst}
use Rattle.vpg_measure.specs.Lifts.{IsBelowTable}
use Rattle.vpg_guess.proofs.guesses.raise_within.Goals as goal

pub returns-clause-settled : goal.returns-clause-settled
returns-clause-settled c = rw c.into_table.ensures.same c.raise-settled.ensures.settled

pub returns-clause-below : goal.returns-clause-below
returns-clause-below c other t p h = rw c.into_table.ensures.same (c.raise-settled.ensures.raised.below other t p
    (subst (λ (table : List ℕ). IsBelowTable table other) (sym c.replace.ensures.value) h))

use Rattle.vpg_guess.proofs.Kept.{kept_table}
use Rattle.vpg_guess.proofs.raising.Raising.lift_round.Goals as goal

pub returns-clause-raised : goal.returns-clause-raised
returns-clause-raised c = rw (← c.self.view_is) (kept_table _ c.settle_alone.new.table c.self.invariant
    c.settle_alone.ensures.table c.settle_alone.ensures.above c.settle_alone.ensures.below)

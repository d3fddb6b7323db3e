use Rattle.vpg_guess.proofs.Kept.{kept_table}
use Rattle.vpg_guess.proofs.raising.Raising.take_over.Goals as goal

pub returns : goal.returns
returns c = rw (← c.self.view_is) (kept_table _ c.raise_to_bounds.new.table c.self.invariant
    c.raise_to_bounds.ensures.table c.raise_to_bounds.ensures.above c.raise_to_bounds.ensures.below)

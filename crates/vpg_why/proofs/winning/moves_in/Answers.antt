use Rattle.std.proofs.Common.{refl}
use Rattle.vpg_why.proofs.winning.moves_in.Goals as goal

pub returns-in-None-clause-settled : goal.returns-in-None-clause-settled
returns-in-None-clause-settled c s e = (rw (c.in-None.is, c.deref.ensures, c.game.ensures.game) at c.in_ok-table.ensures.settled) refl s

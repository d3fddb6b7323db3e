use Rattle.std.proofs.Common.{arith}
use Rattle.vpg_board.proofs.Working.{works_split, works_newcomer}
use Rattle.vpg_board.proofs.sweeping.split_off.Goals as goal

pub returns-clause-works : goal.returns-clause-works
returns-clause-works c = grind (arith, works_split, works_newcomer)

use Rattle.std.proofs.Common.{◌+◌, ◌*◌}
use Rattle.vpg_board.proofs.sweeping.+fn-work_together-join+arg3+work_together.Given as goal

abbrev pub decreases-join+arg3 : goal.decreases-join+arg3
decreases-join+arg3 g l = 2 * l.rest + 1

abbrev pub decreases-work_together : goal.decreases-work_together
decreases-work_together g l = 2 * l.lifters

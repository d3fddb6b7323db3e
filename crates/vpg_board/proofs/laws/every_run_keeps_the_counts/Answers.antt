use Rattle.vpg_board.proofs.Known.{counted_of_run}
use Rattle.vpg_board.proofs.laws.every_run_keeps_the_counts.Goals as goal

pub returns : goal.returns
returns c = counted_of_run

use Rattle.vpg_board.proofs.Known.{measures_of_run}
use Rattle.vpg_board.proofs.laws.every_run_keeps_the_measures.Goals as goal

pub returns : goal.returns
returns c order run is = measures_of_run order is run

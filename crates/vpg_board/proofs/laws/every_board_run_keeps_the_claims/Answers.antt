use Rattle.vpg_board.proofs.Known.{claims_of_run, is_run}
use Rattle.vpg_board.proofs.laws.every_board_run_keeps_the_claims.Goals as goal

pub returns-clause-run : goal.returns-clause-run
returns-clause-run c = is_run

pub returns-clause-claims : goal.returns-clause-claims
returns-clause-claims c = claims_of_run

use Rattle.vpg_board.proofs.Joins.{one_run}
use Rattle.vpg_board.proofs.laws.joined_seats_are_of_one_run.Goals as goal

pub returns : goal.returns
returns c = one_run

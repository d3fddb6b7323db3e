use Rattle.vpg_board.proofs.Atomic.{begins, led}
use Rattle.vpg_board.proofs.laws.steps_stay_on_boards.Goals as goal

pub returns-clause-opening : goal.returns-clause-opening
returns-clause-opening c = begins

pub returns-clause-steps : goal.returns-clause-steps
returns-clause-steps c order m s t = led order m s t

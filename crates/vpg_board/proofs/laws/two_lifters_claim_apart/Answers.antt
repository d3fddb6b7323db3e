use Rattle.vpg_board.specs.Run.{ran}
use Rattle.vpg_board.proofs.Known.{claims_of_run, claims_apart}
use Rattle.vpg_board.proofs.laws.two_lifters_claim_apart.Goals as goal

pub returns : goal.returns
returns c = λ order run i j v w may at there apart n. claims_apart order (ran order run) i j v w (claims_of_run order run may) at there apart n

use Rattle.std.proofs.Common.{◌≡◌}
use Rattle.vpg_lifting_tests.proofs.hinted.lifts_answer.Given as goal

abbrev pub invariant-loop-k : goal.invariant-loop-k
invariant-loop-k l = l.seat.board ≡ l.board

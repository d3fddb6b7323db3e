use Rattle.std.proofs.Common.{◌≡◌}
use Rattle.vpg_lifting_tests.proofs.boards.claims_of.Given as goal

abbrev pub invariant-loop : goal.invariant-loop
invariant-loop l = l.seat.board ≡ l.board

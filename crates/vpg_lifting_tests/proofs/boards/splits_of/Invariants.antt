use Rattle.std.proofs.Common.{◌≡◌, ◌≤◌}
use Rattle.vpg_lifting_tests.proofs.boards.splits_of.Given as goal

abbrev pub invariant-loop : goal.invariant-loop
invariant-loop l = record {
  same : l.seat.board ≡ l.board;
  counted : l.splits ≤ l.counter;
}

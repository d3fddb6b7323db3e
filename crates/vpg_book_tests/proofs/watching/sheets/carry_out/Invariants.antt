use Rattle.std.proofs.Common.{◌≤◌}
use Rattle.vpg_book_tests.proofs.watching.sheets.carry_out.Given as goal

-- no more steps are shown than were published
abbrev pub invariant-loop-k : goal.invariant-loop-k
invariant-loop-k g l = l.press.front.count ≤ l.shown

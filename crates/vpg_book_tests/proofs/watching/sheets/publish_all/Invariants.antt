use Rattle.std.proofs.Common.{◌≤◌}
use Rattle.vpg_book_tests.proofs.watching.sheets.publish_all.Given as goal

-- no more steps are shown than were counted
abbrev pub invariant-loop-count : goal.invariant-loop-count
invariant-loop-count g l = l.press.front.count ≤ l.count

use Rattle.std.proofs.Common.{◌≡◌}
use Rattle.vpg_book_tests.proofs.watching.sheets.add_watches.Given as goal

-- the press is as it was
abbrev pub invariant-loop : goal.invariant-loop
invariant-loop g l = l.press ≡ l.initial.press

use Rattle.std.proofs.Common.{◌≤◌}
use Rattle.vpg_text_rows.proofs.text.parts_of.Given as goal

abbrev pub invariant-loop-place : goal.invariant-loop-place
invariant-loop-place l = l.from ≤ l.place

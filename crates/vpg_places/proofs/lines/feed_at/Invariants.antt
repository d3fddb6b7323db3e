use Rattle.std.proofs.Common.{◌≡◌, ◌+◌, length, drop}
use Rattle.vpg_places.specs.Places.{to_line_feed}
use Rattle.vpg_places.proofs.lines.feed_at.Given as goal

abbrev pub invariant-loop-i : goal.invariant-loop-i
invariant-loop-i l = length (to_line_feed l.fn.text) ≡ l.i + length (to_line_feed (drop l.i l.fn.text))

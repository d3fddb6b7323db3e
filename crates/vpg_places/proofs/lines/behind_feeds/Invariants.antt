use Rattle.std.proofs.Common.{◌≡◌, ◌-◌}
use Rattle.vpg_places.specs.Places.{behind_feeds}
use Rattle.vpg_places.proofs.lines.behind_feeds.Given as goal

abbrev pub invariant-loop : goal.invariant-loop
invariant-loop l = behind_feeds l.feeds l.text ≡ behind_feeds (l.feeds - l.counter) l.rest

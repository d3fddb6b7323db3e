use Rattle.std.proofs.Common.{◌≡◌, ◌-◌, ◌∙◌, sym, arith, length, rules}
use Rattle.vpg_places.proofs.Feeds.{feeds_in_nothing, next_feed}
use Rattle.vpg_places.proofs.lines.behind_feeds.Goals as goal

pub loop-preserved : goal.loop-preserved
loop-preserved c = next_feed c.args.feeds c.loop.counter c.args.text.now c.loop.rest.now (omega arith) c.loop.invariant ∙ search rules

pub returns-then-is_empty : goal.returns-then-is_empty
returns-then-is_empty c =
    let none : length c.loop.rest.now ≡ 0 = search rules in
    sym (c.loop.invariant ∙ feeds_in_nothing (c.args.feeds - c.loop.counter) c.loop.rest.now none)

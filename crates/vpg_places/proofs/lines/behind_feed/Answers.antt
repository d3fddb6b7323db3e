use Rattle.vpg_places.proofs.Feeds.{behind_at, behind_none}
use Rattle.vpg_places.proofs.lines.behind_feed.Goals as goal

pub returns-then-end-text : goal.returns-then-end-text
returns-then-end-text c = behind_at c.args.text.now c.feed_at-end.result c.feed_at-end.ensures

pub returns-else-end-text : goal.returns-else-end-text
returns-else-end-text c = behind_none c.args.text.now c.feed_at-end.result c.feed_at-end.ensures c.if-end-text.false

use Rattle.vpg_why.specs.Explained.{choices}
use Rattle.vpg_why.proofs.Rooms.{page_trials}
use Rattle.vpg_why.proofs.seeking.is_small.Goals as goal

pub returns-in-Some : goal.returns-in-Some
returns-in-Some c has = c.has_trials.ensures (page_trials c.args.order.now.diagram.lines (choices c.args.decisions.now) c.in-Some.known c.args.limits.trials (rw c.in-Some.is at c.in_ok-known.ensures.known) has)

use Rattle.std.proofs.Common.{[], append-nil}
use Rattle.vpg_why.specs.Explained.{choices}
use Rattle.vpg_looks.proofs.retracting.cautious_effect.Goals as goal

-- the table of these choices is settled too
pub returns-in-Unsettled : goal.returns-in-Unsettled
returns-in-Unsettled c =
    λ s. c.in_ok-verdict_shown.ensures.settled (rw (append-nil (choices c.args.kept.now)) at (s.0 [])) c.in-Unsettled.is

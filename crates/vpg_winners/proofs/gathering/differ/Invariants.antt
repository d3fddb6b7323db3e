use Rattle.std.proofs.Common.{Bool, List, []}
use Rattle.vpg_partial.specs.KnownLaws.{IsRemaining}
use Rattle.vpg_why.specs.declared.question.Aim.{Aim}
use Rattle.vpg_why.specs.Explained.{choices}
use Rattle.vpg_why.specs.Found.{AllMeet}
use Rattle.vpg_why.specs.Products.{Meets}
use Rattle.vpg_winners.proofs.Learned.{AreForcedTo}
use Rattle.vpg_winners.proofs.gathering.differ.Given as goal

abbrev pub invariant-loop-feature : goal.invariant-loop-feature
invariant-loop-feature l = (aim : Aim) (p : List Bool) →
    IsRemaining l.order.diagram.lines (choices l.order.decisions) p → Meets l.order.game aim p →
    AllMeet l.order.game l.order.diagram aim (choices l.order.decisions) l.products →
    AreForcedTo l.order.game l.order.diagram aim (choices l.order.decisions) [] l.feature

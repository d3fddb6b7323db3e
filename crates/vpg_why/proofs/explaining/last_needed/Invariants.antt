use Rattle.std.proofs.Common.{◌-◌, ◌≤◌, IsTrue}
use Rattle.vpg_why.specs.Explained.{OfFronts}
use Rattle.vpg_why.specs.Suffices.{Suffice, IsSettled}
use Rattle.vpg_why.proofs.Halving.{IsBetween}
use Rattle.vpg_why.proofs.explaining.last_needed.Given as goal

abbrev pub invariant-halving : goal.invariant-halving
invariant-halving l = IsBetween (Suffice l.order.game l.order.diagram l.question) (IsTrue l.is_small × OfFronts (IsSettled l.order.game l.order.diagram l.limits l.question) l.decisions l.kept) l.decisions l.kept l.most l.low l.high l.exact ×
    (l.looks ≤ l.fn.looks) × (l.trials ≤ l.fn.trials)

abbrev pub decreases-halving : goal.decreases-halving
decreases-halving l = l.high - l.low

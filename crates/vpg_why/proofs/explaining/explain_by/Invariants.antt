use Rattle.std.proofs.Common.{◌≤◌, IsTrue}
use Rattle.vpg_why.specs.Explained.{choices}
use Rattle.vpg_why.specs.Suffices.{Suffice, EachIsSettled}
use Rattle.vpg_why.proofs.Next.{IsListed}
use Rattle.vpg_why.proofs.explaining.explain_by.Given as goal

abbrev pub invariant-listing : goal.invariant-listing
invariant-listing l = IsListed (Suffice l.order.game l.order.diagram l.question) (IsTrue l.is_small × EachIsSettled l.order.game l.order.diagram l.limits l.question (choices l.decisions)) l.decisions l.kept.items l.most l.exact ×
    (l.looks ≤ l.fn.looks) × (l.trials ≤ l.fn.trials)

abbrev pub decreases-listing : goal.decreases-listing
decreases-listing l = l.most

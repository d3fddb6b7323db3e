use Rattle.std.proofs.Common.{◌≤◌}
use Rattle.vpg_why.specs.declared.question.Question.TheVariants as asks
use Rattle.vpg_why.specs.Explained.{choices}
use Rattle.vpg_why.specs.Found.{AllMeet}
use Rattle.vpg_why.specs.Suffices.{IsSettled}
use Rattle.vpg_why.proofs.OpenFeatures.{IsForcing}
use Rattle.vpg_why.proofs.forcing.list_forced.Given as goal

abbrev pub invariant-forcing : goal.invariant-forcing
invariant-forcing l = IsForcing (IsSettled l.order.game l.order.diagram l.limits (asks.Lost l.aim) (choices l.order.decisions)) l.order.game l.order.diagram l.aim (choices l.order.decisions) l.literals.items l.feature l.exact ×
    AllMeet l.order.game l.order.diagram l.aim (choices l.order.decisions) l.found.items × (l.trials ≤ l.fn.trials) × (l.looks ≤ l.fn.looks)

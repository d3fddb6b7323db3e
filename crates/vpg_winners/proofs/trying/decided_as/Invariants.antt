use Rattle.std.proofs.Common.{◌≡◌, ◌++◌}
use Rattle.vpg_why.specs.Explained.{choices}
use Rattle.vpg_winners.specs.Sampled.{choices_of}
use Rattle.vpg_winners.proofs.trying.decided_as.Given as goal

abbrev pub invariant-loop-feature : goal.invariant-loop-feature
invariant-loop-feature l =
    choices l.more.items ≡ choices l.order.decisions ++ choices_of l.product l.feature

use Rattle.std.proofs.Common.{◌≡◌, ◌+◌, max, take, reverse}
use Rattle.vpg_normal.proofs.Nearest.{greatest_along}
use Rattle.vpg_normal.proofs.rank.inner_priority.Given as goal

abbrev pub invariant-loop-left : goal.invariant-loop-left
invariant-loop-left l =
    max l.greatest (greatest_along l.scopes l.fixpoints l.priorities l.fixpoint (l.fixpoint + 1 + l.fn.size) (reverse (take l.left l.variables))) ≡
    greatest_along l.scopes l.fixpoints l.priorities l.fixpoint (l.fixpoint + 1 + l.fn.size) (reverse l.variables)

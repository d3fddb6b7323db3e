use Rattle.std.proofs.Common.{◌≡◌, ◌++◌, take}
use Rattle.vpg_why.specs.Explained.{choices}
use Rattle.vpg_looks.proofs.winners.with_all.Given as goal

abbrev pub invariant-loop-l : goal.invariant-loop-l
invariant-loop-l l = choices l.more.items ≡ choices l.decisions ++ take l.l-index l.literals

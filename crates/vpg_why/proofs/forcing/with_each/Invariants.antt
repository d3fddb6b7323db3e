use Rattle.std.proofs.Common.{◌≡◌, ◌++◌, take}
use Rattle.vpg_why.specs.Explained.{choices}
use Rattle.vpg_why.proofs.forcing.with_each.Given as goal

abbrev pub invariant-loop-literal : goal.invariant-loop-literal
invariant-loop-literal l = choices l.more.items ≡ choices l.decisions ++ take l.literal-index l.literals

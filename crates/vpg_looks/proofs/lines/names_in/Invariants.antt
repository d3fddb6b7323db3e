use Rattle.std.proofs.Common.{◌≡◌, ◌++◌}
use Rattle.vpg_looks.specs.Texts.{names_in}
use Rattle.vpg_looks.proofs.lines.names_in.Given as goal

abbrev pub invariant-loop-f : goal.invariant-loop-f
invariant-loop-f l = l.out.items ≡ l.fn.out.items ++ names_in l.names l.product l.f

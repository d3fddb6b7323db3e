use Rattle.std.proofs.Common.{◌≡◌, ◌++◌, replicate}
use Rattle.vpg_uvl.proofs.arrows.put_opened.Given as goal

abbrev pub invariant-loop : goal.invariant-loop
invariant-loop l = l.out.items ≡ l.initial.out.items ++ replicate l.counter 40

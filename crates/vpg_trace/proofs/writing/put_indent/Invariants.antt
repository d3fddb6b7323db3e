use Rattle.std.proofs.Common.{◌≡◌, ◌++◌}
use Rattle.vpg_trace.specs.Texts.{indent}
use Rattle.vpg_trace.proofs.writing.put_indent.Given as goal

abbrev pub invariant-loop : goal.invariant-loop
invariant-loop l = l.out.items ≡ l.fn.out.items ++ indent l.counter

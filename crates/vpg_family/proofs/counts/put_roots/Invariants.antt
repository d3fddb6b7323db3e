use Rattle.std.proofs.Common.{◌≡◌, ◌++◌}
use Rattle.vpg_formula.specs.EntryCode.{earlier_of}
use Rattle.vpg_family.specs.Counts.{root_lines}
use Rattle.vpg_family.proofs.counts.put_roots.Given as goal

abbrev pub invariant-loop-n : goal.invariant-loop-n
invariant-loop-n l = l.out.items ≡ l.fn.out.items ++ root_lines (earlier_of l.entries) l.vertices l.n

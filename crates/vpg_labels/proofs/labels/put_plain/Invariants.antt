use Rattle.std.proofs.Common.{◌≡◌, ◌++◌, take, filter}
use Rattle.vpg_labels.specs.Labels.{is_plain}
use Rattle.vpg_labels.proofs.labels.put_plain.Given as goal

abbrev pub invariant-loop-b : goal.invariant-loop-b
invariant-loop-b l = l.out.items ≡ l.fn.out.items ++ filter is_plain (take l.b-index l.bytes)

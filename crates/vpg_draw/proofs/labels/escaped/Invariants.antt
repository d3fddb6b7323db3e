use Rattle.std.proofs.Common.{◌≡◌, ◌++◌, take}
use Rattle.std.specs.Prelude.{flat_map}
use Rattle.vpg_draw.specs.Labels.{label_byte}
use Rattle.vpg_draw.proofs.labels.escaped.Given as goal

abbrev pub invariant-loop-b : goal.invariant-loop-b
invariant-loop-b l = l.out.items ≡ l.fn.out.items ++ flat_map label_byte (take l.b-index l.bytes)

use Rattle.std.proofs.Common.{◌≡◌, ◌++◌, take, map}
use Rattle.vpg_texts.specs.Labels.{shown_byte}
use Rattle.vpg_texts.proofs.labels.put_shown.Given as goal

abbrev pub invariant-loop-byte : goal.invariant-loop-byte
invariant-loop-byte l = l.out.items ≡ l.fn.out.items ++ map shown_byte (take l.byte-index l.bytes)

use Rattle.std.proofs.Common.{◌≡◌, ◌++◌, take, map}
use Rattle.vpg_lint.specs.Messages.{shown_byte}
use Rattle.vpg_lint.proofs.message.put_text.Given as goal

abbrev pub invariant-loop-b : goal.invariant-loop-b
invariant-loop-b l = l.out.items ≡ l.fn.out.items ++ map shown_byte (take l.b-index l.text)

use Rattle.std.proofs.Common.{◌≡◌, ◌++◌, drop}
use Rattle.vpg_hope.specs.PlainParts.{marked_text}
use Rattle.vpg_hope.proofs.plain.put_successors.Given as goal

abbrev pub invariant-loop-w : goal.invariant-loop-w
invariant-loop-w l = l.text.items ++ marked_text l.mark l.ids (drop l.w-index l.successors) ≡ l.initial.text.items ++ marked_text 32 l.ids l.successors

use Rattle.std.proofs.Common.{◌≡◌, ◌++◌}
use Rattle.vpg_texts.specs.Text.{names_known}
use Rattle.vpg_texts.proofs.text.names_known.Given as goal

abbrev pub invariant-loop-f : goal.invariant-loop-f
invariant-loop-f l = l.out.items ≡ l.fn.out.items ++ names_known l.names l.known l.value l.f

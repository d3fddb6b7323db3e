use Rattle.std.proofs.Common.{◌≡◌, ◌++◌, take}
use Rattle.vpg_texts.specs.Text.{choices_text}
use Rattle.vpg_looks.proofs.winners.literals.Given as goal

abbrev pub invariant-loop-l : goal.invariant-loop-l
invariant-loop-l l = l.out.items ≡ l.fn.out.items ++ choices_text l.names (take l.l-index l.listed)

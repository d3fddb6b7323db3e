use Rattle.std.proofs.Common.{◌≡◌, ◌++◌, take}
use Rattle.std.specs.Prelude.{flat_map}
use Rattle.vpg_looks.specs.Texts.{choice_line}
use Rattle.vpg_looks.proofs.needs.each.Given as goal

abbrev pub invariant-loop-l : goal.invariant-loop-l
invariant-loop-l l = l.out.items ≡ l.fn.out.items ++ flat_map (choice_line l.word l.names) (take l.l-index l.listed)

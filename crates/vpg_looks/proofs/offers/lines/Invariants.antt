use Rattle.std.proofs.Common.{◌≡◌, ◌++◌, take}
use Rattle.std.specs.Prelude.{flat_map}
use Rattle.vpg_looks.specs.Texts.{offer_line}
use Rattle.vpg_looks.proofs.offers.lines.Given as goal

abbrev pub invariant-loop-o : goal.invariant-loop-o
invariant-loop-o l = l.out.items ≡ l.fn.out.items ++ flat_map (offer_line l.names) (take l.o-index l.listed)

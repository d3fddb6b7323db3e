use Rattle.std.proofs.Common.{◌≡◌, ◌++◌, take}
use Rattle.std.specs.Prelude.{flat_map}
use Rattle.vpg_looks.specs.Texts.{line_at}
use Rattle.vpg_looks.proofs.repairs.lines_at.Given as goal

abbrev pub invariant-loop-t : goal.invariant-loop-t
invariant-loop-t l = l.out.items ≡ l.fn.out.items ++ flat_map (line_at l.names l.wanted) (take l.t-index l.tried)

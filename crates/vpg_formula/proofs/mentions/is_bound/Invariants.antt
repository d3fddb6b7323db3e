use Rattle.std.proofs.Common.{◌≡◌, map, drop}
use Rattle.vpg_formula.specs.Naming.{is_bound}
use Rattle.vpg_formula.specs.NamingCode.{open_of, opens}
use Rattle.vpg_formula.proofs.mentions.is_bound.Given as goal

abbrev pub invariant-loop-part : goal.invariant-loop-part
invariant-loop-part l = is_bound (opens l.around) l.name ≡ is_bound (map open_of (drop l.part-index l.around)) l.name

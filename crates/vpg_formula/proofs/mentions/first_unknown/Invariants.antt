use Rattle.std.proofs.Common.{◌≡◌, drop}
use Rattle.vpg_formula.specs.Naming.{first_unknown}
use Rattle.vpg_formula.specs.NamingCode.{pairs}
use Rattle.vpg_formula.proofs.mentions.first_unknown.Given as goal

abbrev pub invariant-loop-mention : goal.invariant-loop-mention
invariant-loop-mention l = first_unknown (pairs l.mentions) ≡ first_unknown (pairs (drop l.mention-index l.mentions))

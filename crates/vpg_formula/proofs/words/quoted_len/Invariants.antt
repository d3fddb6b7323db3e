use Rattle.std.proofs.Common.{◌≡◌, drop, false}
use Rattle.vpg_formula.specs.Words.{quoted_len}
use Rattle.vpg_formula.proofs.Lengths.{shifted}
use Rattle.vpg_formula.proofs.words.quoted_len.Given as goal

abbrev pub invariant-loop-i : goal.invariant-loop-i
invariant-loop-i l = quoted_len false l.text ≡ shifted l.i (quoted_len l.escaped (drop l.i l.text))

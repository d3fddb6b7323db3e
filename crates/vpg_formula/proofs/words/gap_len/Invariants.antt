use Rattle.std.proofs.Common.{◌≡◌, ◌+◌, drop, false}
use Rattle.vpg_formula.specs.Words.{gap_len}
use Rattle.vpg_formula.proofs.words.gap_len.Given as goal

abbrev pub invariant-loop-i : goal.invariant-loop-i
invariant-loop-i l = gap_len false l.text ≡ l.i + gap_len l.comment (drop l.i l.text)

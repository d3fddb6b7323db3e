use Rattle.std.proofs.Common.{◌≡◌, ◌≤◌, drop}
use Rattle.vpg_formula.specs.Words.{action_len}
use Rattle.vpg_formula.proofs.Lengths.{resumed}
use Rattle.vpg_formula.proofs.words.action_len.Given as goal

abbrev pub invariant-loop-at : goal.invariant-loop-at
invariant-loop-at l = record {
  deep : l.depth ≤ 64;
  begun : l.end ≤ l.at;
  reads : action_len 0 l.text ≡ resumed l.depth l.end l.at (action_len l.depth (drop l.at l.text));
}

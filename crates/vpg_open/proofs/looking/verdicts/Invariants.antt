use Rattle.std.proofs.Common.{◌≡◌, ℕ, ◌<◌, length, None, get_or}
use Rattle.vpg_open.specs.OpenVertices.{IsVerdict}
use Rattle.vpg_open.proofs.looking.verdicts.Given as goal

abbrev pub invariant-loop-v : goal.invariant-loop-v
invariant-loop-v l = record {
  count : length l.winners.items ≡ l.v;
  verdicts : (k : ℕ) → k < l.v → IsVerdict l.order k (get_or l.winners.items k None);
}

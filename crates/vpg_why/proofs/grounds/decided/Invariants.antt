use Rattle.std.proofs.Common.{◌≡◌, ℕ, ◌<◌, true, false, length, slice_index_or}
use Rattle.vpg_why.proofs.grounds.decided.Given as goal

abbrev pub invariant-loop-i : goal.invariant-loop-i
invariant-loop-i l = record {
  count : length l.marks.items ≡ length l.decisions;
  first : (k : ℕ) → k < l.begun → k < length l.decisions → slice_index_or l.marks.items k false ≡ true;
}

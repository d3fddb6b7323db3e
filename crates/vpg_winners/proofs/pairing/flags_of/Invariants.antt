use Rattle.std.proofs.Common.{◌≡◌, length}
use Rattle.vpg_winners.proofs.Marking.{AreFirstFlagged}
use Rattle.vpg_winners.proofs.pairing.flags_of.Given as goal

abbrev pub invariant-loop-i : goal.invariant-loop-i
invariant-loop-i l = record {
  long : length l.flags.items ≡ l.slots;
  first : AreFirstFlagged l.flags.items l.marks l.slots l.i;
}

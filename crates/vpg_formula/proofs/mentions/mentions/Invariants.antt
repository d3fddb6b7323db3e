use Rattle.std.proofs.Common.{◌≡◌, ◌+◌, ◌<◌, ◌++◌, ◌^◌, length}
use Rattle.vpg_formula.specs.ReadCode.{texts}
use Rattle.vpg_formula.specs.EntryCode.{words_in, earlier_of}
use Rattle.vpg_formula.specs.Naming.{at_first}
use Rattle.vpg_formula.specs.NamingCode.{spot_of, depth_of, pairs, left_mentions}
use Rattle.vpg_formula.proofs.mentions.mentions.Given as goal

abbrev pub invariant-loop-next : goal.invariant-loop-next
invariant-loop-next l = record {
  counted : l.left ≡ length (words_in l.next);
  deep : depth_of l.spot.region + length (words_in l.next) < 2 ^ 64;
  reads : pairs l.out.items ++ left_mentions (earlier_of l.entries) (spot_of l.spot) l.end (words_in l.next) ≡ left_mentions (earlier_of l.entries) at_first l.end (texts l.words);
}

abbrev pub decreases-loop-next : goal.decreases-loop-next
decreases-loop-next l = length (words_in l.next)

use Rattle.std.proofs.Common.{◌≡◌, ◌+◌, ◌<◌, ◌++◌, ◌^◌, length, map}
use Rattle.vpg_formula.specs.Words.{words_of}
use Rattle.vpg_formula.specs.EntryCode.{words_in}
use Rattle.vpg_formula.specs.ActionWords.{action_words, action_words_from, placed, placed_words}
use Rattle.vpg_formula.specs.NamingCode.{region_of, depth_of}
use Rattle.vpg_formula.proofs.acts.action_words.Given as goal

abbrev pub invariant-loop-next : goal.invariant-loop-next
invariant-loop-next l = record {
  counted : l.index + length (words_in l.next) ≡ length (words_of l.text);
  deep : depth_of l.region + length (words_in l.next) < 2 ^ 64;
  reads : placed_words l.found.items ++ map (placed l.text) (action_words_from (region_of l.region) l.index (words_in l.next)) ≡ action_words l.text;
}

abbrev pub decreases-loop-next : goal.decreases-loop-next
decreases-loop-next l = length (words_in l.next)

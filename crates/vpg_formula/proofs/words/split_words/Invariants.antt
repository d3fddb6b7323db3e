use Rattle.std.proofs.Common.{◌≡◌, ◌≤◌, ◌++◌, length}
use Rattle.vpg_formula.specs.Words.{words_of}
use Rattle.vpg_formula.specs.ReadCode.{texts}
use Rattle.vpg_formula.proofs.Places.{HasPlaces}
use Rattle.vpg_formula.proofs.words.split_words.Given as goal

abbrev pub invariant-loop-word : goal.invariant-loop-word
invariant-loop-word l = record {
  reads : texts l.words.items ++ words_of l.rest ≡ words_of l.text;
  within : length l.rest ≤ length l.text;
  placed : HasPlaces l.text (length l.words.items) l.places.items l.rest;
}

abbrev pub decreases-loop-word : goal.decreases-loop-word
decreases-loop-word l = length l.rest

use Rattle.std.proofs.Common.{◌≡◌, ◌++◌, drop, take}
use Rattle.vpg_diagram.specs.DiagramReading.{are_new}
use Rattle.vpg_diagram.specs.FormView.{texts}
use Rattle.vpg_diagram.proofs.reading.are_unseen.Given as goal

-- the words so far are seen, and the rest decides
abbrev pub invariant-loop-word : goal.invariant-loop-word
invariant-loop-word l = record {
  seen : texts l.seen.keys ≡ texts (take l.word-index l.words);
  rest : are_new (l.names ++ texts (take l.word-index l.words)) (texts (drop l.word-index l.words)) ≡ are_new l.names (texts l.words);
}

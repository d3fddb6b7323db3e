use Rattle.std.proofs.Common.{◌≡◌, ◌++◌, drop}
use Rattle.vpg_diagram.specs.FormView.{texts}
use Rattle.vpg_diagram.proofs.reading.add_names.Given as goal

abbrev pub invariant-loop-word : goal.invariant-loop-word
invariant-loop-word l = l.names ++ texts (drop l.word-index l.words) ≡ l.fn.names ++ texts l.words

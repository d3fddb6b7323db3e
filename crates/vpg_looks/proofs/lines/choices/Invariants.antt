use Rattle.std.proofs.Common.{◌≡◌, ◌++◌, take, map}
use Rattle.vpg_partial.specs.Known.{literal_of}
use Rattle.vpg_texts.specs.Text.{choices_text}
use Rattle.vpg_looks.proofs.lines.choices.Given as goal

abbrev pub invariant-loop-d : goal.invariant-loop-d
invariant-loop-d l = l.out.items ≡ l.fn.out.items ++ choices_text l.names (map literal_of (take l.d-index l.ds))

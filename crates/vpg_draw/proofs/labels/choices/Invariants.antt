use Rattle.std.proofs.Common.{◌≡◌, ◌++◌, take, map}
use Rattle.vpg_partial.specs.Known.{literal_of}
use Rattle.vpg_draw.specs.Labels.{choices_text}
use Rattle.vpg_draw.proofs.labels.choices.Given as goal

abbrev pub invariant-loop-d : goal.invariant-loop-d
invariant-loop-d l = l.out.items ≡ l.fn.out.items ++ choices_text l.names (map literal_of (take l.d-index l.decisions))

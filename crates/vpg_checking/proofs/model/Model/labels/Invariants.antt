use Rattle.std.proofs.Common.{◌≡◌, map, take}
use Rattle.vpg_formula.specs.EntryCode.{earlier_of}
use Rattle.vpg_checking.specs.Texts.{vertex_name}
use Rattle.vpg_checking.proofs.model.Model.labels.Given as goal

abbrev pub invariant-loop-pair : goal.invariant-loop-pair
invariant-loop-pair l = l.labels.items ≡ map (vertex_name (earlier_of l.self.requirements.entries.items) l.self.places.items l.self.source.parts.items l.self.sets.items) (take l.pair-index l.pairs)

use Rattle.std.proofs.Common.{◌≡◌, drop}
use Rattle.vpg_formula.specs.EntryCode.{earlier_of}
use Rattle.vpg_checking.specs.Checking.{vertex_named}
use Rattle.vpg_checking.proofs.model.Model.vertex_of.Given as goal

abbrev pub invariant-loop-n : goal.invariant-loop-n
invariant-loop-n l = vertex_named (earlier_of l.self.requirements.entries.items) l.self.roots.items l.name ≡ vertex_named (drop l.n (earlier_of l.self.requirements.entries.items)) (drop l.n l.self.roots.items) l.name

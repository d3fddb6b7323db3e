use Rattle.std.proofs.Common.{◌||◌}
use Rattle.vpg_zielonka.specs.Universes.{has, IsGrown}
use Rattle.vpg_zielonka.specs.Parts.{set_at}
use Rattle.vpg_zielonka.proofs.Filling.{AreMade}
use Rattle.vpg_zielonka.proofs.parts.joined.Given as goal

abbrev pub invariant-loop-v : goal.invariant-loop-v
invariant-loop-v l =
    IsGrown l.fn.sets l.sets × AreMade l.sets
    (λ v p. has l.fn.sets (set_at l.part v) p || has l.fn.sets (set_at l.other v) p) l.v l.both.items

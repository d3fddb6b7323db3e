use Rattle.std.proofs.Common.{◌&&◌}
use Rattle.vpg_zielonka.specs.Universes.{has}
use Rattle.vpg_zielonka.specs.Reached.{flagged}
use Rattle.vpg_zielonka.proofs.Filling.{AreMade}
use Rattle.vpg_zielonka.proofs.parts.set_for.Given as goal

abbrev pub invariant-loop-v : goal.invariant-loop-v
invariant-loop-v l =
    AreMade l.sets (λ v p. flagged l.wanted v && has l.sets l.set p) l.v l.part.items

use Rattle.vpg_zielonka.specs.Universes.{IsInside, IsGrown}
use Rattle.vpg_zielonka.proofs.Confining.{IsConfinedTo}
use Rattle.vpg_zielonka.proofs.attracting.confined.Given as goal

abbrev pub invariant-loop-number : goal.invariant-loop-number
invariant-loop-number l =
    IsGrown l.fn.sets l.sets × IsInside l.sets l.kept ×
    IsConfinedTo l.fn.sets l.sets l.edges.list.items l.part l.drawn l.fn.set l.kept l.number-items l.number-index

use Rattle.vpg_hope.specs.Arena.{vertex_at}
use Rattle.vpg_measure.specs.Views.{strategy_of}
use Rattle.vpg_why.proofs.SearchSteps.{HaveNoted}
use Rattle.vpg_why.proofs.reaching.visit.Given as goal

-- the successors so far
abbrev pub invariant-loop-w : goal.invariant-loop-w
invariant-loop-w l =
    HaveNoted l.successors (vertex_at l.arena l.v).owner (strategy_of l.moves l.v) l.initial.marks.items l.initial.queue.items
    l.w-index l.marks.items l.queue.items

use Rattle.vpg_board.specs.Alone.{Rises}
use Rattle.vpg_settle.proofs.sweeping.climb_table.Given as goal

abbrev pub invariant-vertices : goal.invariant-vertices
invariant-vertices l = record { rises : Rises l.fn.harvest l.harvest }

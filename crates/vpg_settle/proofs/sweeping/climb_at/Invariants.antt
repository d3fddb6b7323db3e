use Rattle.vpg_board.specs.Alone.{Rises}
use Rattle.vpg_settle.proofs.sweeping.climb_at.Given as goal

abbrev pub invariant-climbing : goal.invariant-climbing
invariant-climbing l = record { rises : Rises l.fn.harvest l.harvest }

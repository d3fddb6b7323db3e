use Rattle.vpg_board.specs.Alone.{Rises}
use Rattle.vpg_board.proofs.alone.raise_hinted.Given as goal

abbrev pub invariant-hinted : goal.invariant-hinted
invariant-hinted g l = record { rises : Rises l.fn.harvest l.harvest }

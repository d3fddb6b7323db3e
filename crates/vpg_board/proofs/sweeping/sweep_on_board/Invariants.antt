use Rattle.vpg_board.specs.Places.{vertices}
use Rattle.vpg_board.proofs.sweeping.sweep_on_board.Given as goal

abbrev pub ghosts-work_with_hints : goal.ghosts-work_with_hints
ghosts-work_with_hints g a = record { vertices = vertices a.board.now.order }

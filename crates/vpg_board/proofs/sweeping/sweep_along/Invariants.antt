use Rattle.vpg_board.specs.Places.{vertices}
use Rattle.vpg_board.proofs.sweeping.sweep_along.Given as goal

abbrev pub ghosts-sweep_alone : goal.ghosts-sweep_alone
ghosts-sweep_alone g a = record { vertices = vertices a.order }

use Rattle.std.specs.Arc.{arc_value}
use Rattle.vpg_report.proofs.leaving.left_by.Given as goal

-- the row and the ledger that were just made
abbrev pub ghosts-left_there-L-Terms : goal.ghosts-left_there-L-Terms
ghosts-left_there-L-Terms g a = record { shelves = a.site.row; game = arc_value a.game; diagram = arc_value a.diagram; limit = 1048576 }

abbrev pub ghosts-left_there-L-Ledger : goal.ghosts-left_there-L-Ledger
ghosts-left_there-L-Ledger g a = record { name = a.site.name; parts = a.site.parts }

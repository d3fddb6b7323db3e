use Rattle.std.specs.Arc.{arc_value}
use Rattle.vpg_report.proofs.running.run_script.Given as goal

-- the row and the ledger that were just made
abbrev pub ghosts-run_there-L-Terms : goal.ghosts-run_there-L-Terms
ghosts-run_there-L-Terms g a = record { shelves = a.site.row; game = arc_value a.game; diagram = arc_value a.diagram; limit = 1048576 }

abbrev pub ghosts-run_there-L-Ledger : goal.ghosts-run_there-L-Ledger
ghosts-run_there-L-Ledger g a = record { name = a.site.name; parts = a.site.parts }

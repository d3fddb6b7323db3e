use Rattle.std.specs.Arc.{arc_value}
use Rattle.vpg_book_tests.proofs.offices.threads.rush_once.Given as goal

-- the row and the ledger that were just made
abbrev pub ghosts-open_and_run-L-Terms : goal.ghosts-open_and_run-L-Terms
ghosts-open_and_run-L-Terms g a = record { shelves = a.site.row; game = arc_value a.game; diagram = arc_value a.diagram; limit = a.room }

abbrev pub ghosts-open_and_run-L-Ledger : goal.ghosts-open_and_run-L-Ledger
ghosts-open_and_run-L-Ledger g a = record { name = a.site.name; parts = a.site.parts }

use Rattle.std.specs.Arc.{arc_value}
use Rattle.vpg_bench.proofs.offices.told_on.Given as goal

-- the row and the ledger that were just made
abbrev pub ghosts-open_and_work-L-Terms : goal.ghosts-open_and_work-L-Terms
ghosts-open_and_work-L-Terms g a = record { shelves = a.site.row; game = arc_value a.game; diagram = arc_value a.diagram; limit = a.room }

abbrev pub ghosts-open_and_work-L-Ledger : goal.ghosts-open_and_work-L-Ledger
ghosts-open_and_work-L-Ledger g a = record { name = a.site.name; parts = a.site.parts }

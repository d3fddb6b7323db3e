use Rattle.std.specs.Arc.{arc_value}
use Rattle.vpg_office.proofs.work.with_office.Given as goal

-- the row and the ledger that were just made
abbrev pub ghosts-with_site-L-Terms : goal.ghosts-with_site-L-Terms
ghosts-with_site-L-Terms g a = record { shelves = a.site.row; game = arc_value a.game; diagram = arc_value a.diagram; limit = a.room }

abbrev pub ghosts-with_site-L-Ledger : goal.ghosts-with_site-L-Ledger
ghosts-with_site-L-Ledger g a = record { name = a.site.name; parts = a.site.parts }

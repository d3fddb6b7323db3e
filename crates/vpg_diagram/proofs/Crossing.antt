-- A diagram may go to another thread, and may be shared between threads. A search by itself takes too many steps: a
-- diagram holds formulas, which hold formulas.
use denote.Param.Send.{IsSend, IsSync, sendable}
use Rattle.std.proofs.Crossing.{crosses}
use Rattle.vpg_rules.proofs.rule.Rule.TheLaws.TheKnot as formulas
use Rattle.vpg_diagram.specs.contracts.diagram.Diagram as Diagram

pub diagram_send : IsSend Diagram.the_row
diagram_send = search (crosses, formulas.crosses, sendable) depth 60 fits 20000

pub diagram_sync : IsSync Diagram.the_row
diagram_sync = search (crosses, formulas.crosses, sendable) depth 60 fits 20000

use Rattle.vpg_report.proofs.drawing.traced.Goals as goal

pub returns-in-Ok : goal.returns-in-Ok
returns-in-Ok c = record { vertex = c.in_ok-vertex.vertex; asked = c.in_ok-vertex.ensures.asked; trail = c.in_ok-path.path; found = c.in_ok-path.ensures; drawn = c.in-Ok.ensures.drawn }

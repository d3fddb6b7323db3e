use Rattle.vpg_family.specs.Pictures.{TellsContradiction}
use Rattle.vpg_family.specs.Systems.{IsSystemUndrawn}
use Rattle.vpg_family.proofs.Told.{if_err_to}
use Rattle.vpg_family.proofs.Shown.{undrawn_of_diagram, undrawn_of_system, undrawn_contradiction}
use Rattle.vpg_family.proofs.systems.system_drawn.Goals as goal

pub returns-in-Err-clause-refused : goal.returns-in-Err-clause-refused
returns-in-Err-clause-refused c = undrawn_of_diagram c.args.diagram_text.now c.args.system_text.now c.in-Err.fault c.in-Err.ensures.refused

pub returns-in-Err-read_system-clause-refused : goal.returns-in-Err-read_system-clause-refused
returns-in-Err-read_system-clause-refused c =
    undrawn_of_system c.args.diagram_text.now c.args.system_text.now c.in-Ok.diagram c.in-Err-read_system.fault c.in-Ok.ensures.found c.in-Err-read_system.ensures.refused

pub returns-clause-refused : goal.returns-clause-refused
returns-clause-refused c =
    if_err_to (TellsContradiction c.in-Ok.diagram) (IsSystemUndrawn c.args.diagram_text.now c.args.system_text.now) c.drawn_alone.result
    (λ fault. undrawn_contradiction c.args.diagram_text.now c.args.system_text.now c.in-Ok.diagram fault c.in-Ok.ensures.found) c.drawn_alone.ensures.refused

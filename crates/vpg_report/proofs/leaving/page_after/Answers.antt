use Rattle.std.specs.Arc.{arc_value}
use Rattle.std.proofs.Common.{Some, refl, subst}
use Rattle.std.proofs.lemmas.Result.{err_from_is_err_and}
use Rattle.vpg_diagram.specs.DiagramText.{NamedDiagram}
use Rattle.vpg_report.specs.Runs.{TellsStop}
use Rattle.vpg_report.proofs.Left.{left_on_copies, of_copies, root_of, unleft_full, unleft_memory, unleft_stop}
use Rattle.vpg_report.proofs.leaving.page_after.Goals as goal

pub returns-in_err-game-clause-refused : goal.returns-in_err-game-clause-refused
returns-in_err-game-clause-refused g c =
    let p = err_from_is_err_and c.from_residual.result c.from_residual.ensures.1 in
    rw (p.1, p.2) (unleft_memory (arc_value c.args.family.now.diagram) (arc_value c.args.family.now.game) c.args.context.now c.args.script.now)

pub returns-in_err-diagram-clause-refused : goal.returns-in_err-diagram-clause-refused
returns-in_err-diagram-clause-refused g c =
    let p = err_from_is_err_and c.from_residual-in_err-diagram.result c.from_residual-in_err-diagram.ensures.1 in
    rw (p.1, p.2) (unleft_memory (arc_value c.args.family.now.diagram) (arc_value c.args.family.now.game) c.args.context.now c.args.script.now)

pub stopped-requires : goal.stopped-requires
stopped-requires g c = record {
  root = root_of (arc_value c.args.family.now.diagram) (arc_value c.args.family.now.game) c.args.context.now c.args.script.now c.in-Err.stop
      (of_copies (arc_value c.args.family.now.diagram) (arc_value c.args.family.now.game) c.args.context.now c.args.script.now (arc_value c.in_ok-diagram.diagram) (arc_value c.in_ok-game.game) c.in-Err.stop c.in-Err.stop c.in_ok-diagram.ensures.cases c.in_ok-game.ensures.cases refl c.in-Err.ensures.stopped);
}

pub returns-in-Err-clause-refused : goal.returns-in-Err-clause-refused
returns-in-Err-clause-refused g c =
    unleft_stop (arc_value c.args.family.now.diagram) (arc_value c.args.family.now.game) c.args.context.now c.args.script.now c.in-Err.stop c.stopped.result
    (of_copies (arc_value c.args.family.now.diagram) (arc_value c.args.family.now.game) c.args.context.now c.args.script.now (arc_value c.in_ok-diagram.diagram) (arc_value c.in_ok-game.game) c.in-Err.stop c.in-Err.stop c.in_ok-diagram.ensures.cases c.in_ok-game.ensures.cases refl c.in-Err.ensures.stopped)
    (subst (λ (d : NamedDiagram). TellsStop d.names c.in-Err.stop c.stopped.result) c.deref.ensures c.stopped.ensures)

pub returns-in-Some-clause-left : goal.returns-in-Some-clause-left
returns-in-Some-clause-left g c =
    left_on_copies (arc_value c.args.family.now.diagram) (arc_value c.args.family.now.game) c.args.context.now c.args.script.now (arc_value c.in_ok-diagram.diagram) (arc_value c.in_ok-game.game) c.in-Ok.ending c.in-Ok.found (Some c.in-Some.order) c.in_ok-diagram.ensures.cases c.in_ok-game.ensures.cases c.in-Some.is c.in-Ok.ensures.left

pub returns-in-None-clause-refused : goal.returns-in-None-clause-refused
returns-in-None-clause-refused g c =
    unleft_full (arc_value c.args.family.now.diagram) (arc_value c.args.family.now.game) c.args.context.now c.args.script.now (arc_value c.in_ok-diagram.diagram) (arc_value c.in_ok-game.game) c.in-Ok.ending c.in-Ok.found c.in_ok-diagram.ensures.cases c.in_ok-game.ensures.cases c.in-None.is c.in-Ok.ensures.left

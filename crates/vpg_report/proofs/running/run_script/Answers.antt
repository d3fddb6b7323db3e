use Rattle.std.proofs.Common.{Err, subst, ◌∙◌}
use Rattle.std.specs.Arc.{arc_value}
use Rattle.std.proofs.lemmas.Result.{err_from_is_err_and}
use Rattle.vpg_diagram.specs.DiagramText.{NamedDiagram}
use Rattle.vpg_report.specs.Runs.{TellsStop}
use Rattle.vpg_report.proofs.RunEnds.{nothing_ran, root_of_run, run_of_stop}
use Rattle.vpg_report.proofs.running.run_script.Goals as goal

pub returns-in_err-diagram-clause-output : goal.returns-in_err-diagram-clause-output
returns-in_err-diagram-clause-output g c =
    let p = err_from_is_err_and c.from_residual.result c.from_residual.ensures.1 in
    rw (p.1, p.2) (nothing_ran c.args.manner (arc_value c.args.family.diagram) (arc_value c.args.family.game) c.args.context.now c.args.lifters (g.R.Source.remaining c.args.reader.now) (g.W.Sink.contents c.args.writer.now))

pub returns-in_default-clause-output : goal.returns-in_default-clause-output
returns-in_default-clause-output g c =
    nothing_ran c.args.manner (arc_value c.args.family.diagram) (arc_value c.args.family.game) c.args.context.now c.args.lifters (g.R.Source.remaining c.args.reader.now) (g.W.Sink.contents c.args.writer.now)

pub stopped-requires : goal.stopped-requires
stopped-requires g c = record {
  root = root_of_run c.args.manner (arc_value c.args.family.diagram) (arc_value c.args.family.game) c.args.context.now c.args.lifters
      (g.R.Source.remaining c.args.reader.now) (g.R.Source.remaining c.run_there.new.reader) (g.W.Sink.contents c.args.writer.now) (g.W.Sink.contents c.run_there.new.writer)
      c.in-Err.stop (record { answered = c.in-Err.ensures.output; opened = c.in-Err.ensures.opened });
}

pub returns-clause-output : goal.returns-clause-output
returns-clause-output g c =
    run_of_stop c.args.manner (arc_value c.args.family.diagram) (arc_value c.args.family.game) c.args.context.now c.args.lifters
    (g.R.Source.remaining c.args.reader.now) (g.R.Source.remaining c.run_there.new.reader) (g.W.Sink.contents c.args.writer.now) (g.W.Sink.contents c.run_there.new.writer)
    c.in-Err.stop c.stopped.result (record { answered = c.in-Err.ensures.output; opened = c.in-Err.ensures.opened })
    (subst (λ (d : NamedDiagram). TellsStop d.names c.in-Err.stop c.stopped.result) (c.deref.ensures ∙ c.in_ok-diagram.ensures.cases) c.stopped.ensures)

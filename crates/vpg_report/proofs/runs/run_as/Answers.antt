use Rattle.std.specs.Arc.{arc_value}
use Rattle.vpg_report.proofs.Results.{uncalled}
use Rattle.vpg_report.proofs.runs.run_as.Goals as goal

pub returns-clause-output : goal.returns-clause-output
returns-clause-output g c =
    uncalled c.args.manner (arc_value c.args.game) (arc_value c.args.diagram) c.none-context.result c.args.lifters (g.R.Source.remaining c.args.reader.now) (g.R.Source.remaining c.run_called.new.reader)
    (g.W.Sink.contents c.args.writer.now) (g.W.Sink.contents c.run_called.new.writer) c.run_called.result c.none-context.ensures.callings c.none-context.ensures.behaviour c.none-context.ensures.labels c.run_called.ensures.output

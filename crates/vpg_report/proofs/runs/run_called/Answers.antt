use Rattle.std.proofs.Common.{[]}
use Rattle.std.specs.Arc.{arc_value}
use Rattle.std.specs.Io.KnownBytes.{prepend_known}
use Rattle.vpg_script.proofs.MannerLemmas.{went_nothing}
use Rattle.vpg_engine.specs.Line.{begun}
use Rattle.vpg_report.specs.Run.{answering_called, called_in}
use Rattle.vpg_report.proofs.runs.run_called.Goals as goal

pub returns-in_default-clause-output : goal.returns-in_default-clause-output
returns-in_default-clause-output g c =
    let input = g.R.Source.remaining c.args.reader.now in
    ([], [], begun, prepend_known [] input, went_nothing c.args.manner (answering_called (called_in (arc_value c.args.game) (arc_value c.args.diagram) c.args.context.now) c.args.lifters) begun input (g.W.Sink.contents c.args.writer.now))

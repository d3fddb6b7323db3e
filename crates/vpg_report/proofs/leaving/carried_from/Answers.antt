use Rattle.vpg_engine.specs.Engine.{between_of}
use Rattle.vpg_report.specs.Run.{answering_called, called_by}
use Rattle.vpg_report.proofs.Left.{stopped_of}
use Rattle.vpg_report.proofs.leaving.carried_from.Goals as goal

pub returns-clause-left : goal.returns-clause-left
returns-clause-left g c = c.answer_script_as.ensures.left

pub returns-clause-stopped : goal.returns-clause-stopped
returns-clause-stopped g c =
    let first = c.args.server.now in
    stopped_of (answering_called (called_by first.engine first.context.now) 1) (between_of first.engine) (g.R.Source.remaining c.args.reader.now) (g.R.Source.remaining c.answer_script_as.new.reader)
    (g.W.Sink.contents c.args.writer.now) (g.W.Sink.contents c.answer_script_as.new.writer) c.answer_script_as.result c.answer_script_as.ensures.output

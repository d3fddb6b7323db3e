use Rattle.std.proofs.Common.{refl, false, None, Ok, Err, []}
use Rattle.std.specs.Arc.{arc_value}
use Rattle.vpg_texts.specs.Scene.{scene_of}
use Rattle.vpg_report.specs.Results.{IsOpenRefusal}
use Rattle.vpg_engine.specs.Line.{begun}
use Rattle.vpg_report.specs.Run.{answering}
use Rattle.vpg_script.specs.declared.framing.Form.TheVariants.{Plain}
use Rattle.vpg_script.specs.declared.serving.Ending.{Ending}
use Rattle.vpg_script.specs.declared.fault.RunFault.TheVariants as stops
use Rattle.vpg_report.proofs.Results.{not_stopped, outcome_plain, stopped_alike}
use Rattle.vpg_report.proofs.runs.run.Goals as goal

pub returns-in-Ok-clause-output : goal.returns-in-Ok-clause-output
returns-in-Ok-clause-output g c =
    outcome_plain (record { is_strict = false; goes_on = false; form = Plain }) (answering None (scene_of [] (arc_value c.args.game) (arc_value c.args.diagram)) c.args.lifters) (IsOpenRefusal (arc_value c.args.game) (arc_value c.args.diagram)) begun
    (g.R.Source.remaining c.args.reader.now) (g.R.Source.remaining c.run_as.new.reader) (g.W.Sink.contents c.args.writer.now) (g.W.Sink.contents c.run_as.new.writer)
    (Ok c.in-Ok.field-0) refl refl refl c.in-Ok.ensures.output

pub returns-in-Err-clause-output : goal.returns-in-Err-clause-output
returns-in-Err-clause-output g c =
    outcome_plain (record { is_strict = false; goes_on = false; form = Plain }) (answering None (scene_of [] (arc_value c.args.game) (arc_value c.args.diagram)) c.args.lifters) (IsOpenRefusal (arc_value c.args.game) (arc_value c.args.diagram)) begun
    (g.R.Source.remaining c.args.reader.now) (g.R.Source.remaining c.run_as.new.reader) (g.W.Sink.contents c.args.writer.now) (g.W.Sink.contents c.run_as.new.writer)
    (Err c.in-Err.fault) refl refl refl c.in-Err.ensures.output

pub returns-in-Ok-clause-read : goal.returns-in-Ok-clause-read
returns-in-Ok-clause-read g c = λ is. absurd (not_stopped (Unit {0}) tt stops.Read is)

pub returns-in-Err-clause-read : goal.returns-in-Err-clause-read
returns-in-Err-clause-read g c = λ is. c.in-Err.ensures.read (stopped_alike (Unit {0}) Ending c.in-Err.fault stops.Read is)

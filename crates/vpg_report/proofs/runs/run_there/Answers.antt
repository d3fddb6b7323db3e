use Rattle.std.proofs.Common.{[], subst}
use Rattle.std.specs.Arc.{arc_value}
use Rattle.std.specs.Io.KnownBytes.{prepend_known}
use Rattle.vpg_script.specs.Manners.{MannerOutcome}
use Rattle.vpg_script.proofs.MannerLemmas.{went_nothing}
use Rattle.vpg_engine.specs.Engine.{EngineState, between_of}
use Rattle.vpg_report.specs.Results.{IsOpenRefusal}
use Rattle.vpg_engine.specs.Line.{begun}
use Rattle.vpg_report.specs.Run.{answering_called, called_by, called_in}
use Rattle.vpg_report.proofs.Results.{outcome_as}
use Rattle.vpg_report.proofs.runs.run_there.Goals as goal

pub returns-in-Err-Memory-clause-output : goal.returns-in-Err-Memory-clause-output
returns-in-Err-Memory-clause-output g c =
    let input = g.R.Source.remaining c.args.reader.now in
    ([], [], begun, prepend_known [] input, went_nothing c.args.manner (answering_called (called_in (arc_value c.args.game) (arc_value c.args.diagram) c.args.context.now) c.args.lifters) begun input (g.W.Sink.contents c.args.writer.now))

pub returns-clause-output : goal.returns-clause-output
returns-clause-output g c =
    let input = g.R.Source.remaining c.args.reader.now in
    let left = g.R.Source.remaining c.answer_script_as-result.new.reader in
    let before = g.W.Sink.contents c.args.writer.now in
    let after = g.W.Sink.contents c.answer_script_as-result.new.writer in
    outcome_as c.args.manner (answering_called (called_in (arc_value c.args.game) (arc_value c.args.diagram) c.args.context.now) c.args.lifters) (IsOpenRefusal (arc_value c.args.game) (arc_value c.args.diagram)) begun input left before after
    c.answer_script_as-result.result
    (subst (λ (e : EngineState). MannerOutcome c.args.manner (answering_called (called_by e c.args.context.now) c.args.lifters) (between_of e) input left before after c.answer_script_as-result.result) c.in-Ok.ensures.opened c.answer_script_as-result.ensures.output)

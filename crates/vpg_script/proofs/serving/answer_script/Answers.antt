use Rattle.std.proofs.Common.{false, Ok, Err, refl}
use Rattle.vpg_script.specs.declared.framing.Form.TheVariants as forms
use Rattle.vpg_script.proofs.MannerLemmas.{plain_outcome}
use Rattle.vpg_script.proofs.serving.answer_script.Goals as goal

pub returns-in-Ok-clause-output : goal.returns-in-Ok-clause-output
returns-in-Ok-clause-output g c =
    plain_outcome (record { is_strict = false; goes_on = false; form = forms.Plain }) (g.V.Server.answering (g.V.Server.scene c.args.server.now) c.args.lifters) (g.V.Server.state c.args.server.now)
    (g.R.Source.remaining c.args.reader.now) (g.R.Source.remaining c.answer_script_as.new.reader) (g.W.Sink.contents c.args.writer.now) (g.W.Sink.contents c.answer_script_as.new.writer)
    (Ok c.in-Ok.field-0) refl refl refl c.in-Ok.ensures.output

pub returns-in-Err-clause-output : goal.returns-in-Err-clause-output
returns-in-Err-clause-output g c =
    plain_outcome (record { is_strict = false; goes_on = false; form = forms.Plain }) (g.V.Server.answering (g.V.Server.scene c.args.server.now) c.args.lifters) (g.V.Server.state c.args.server.now)
    (g.R.Source.remaining c.args.reader.now) (g.R.Source.remaining c.answer_script_as.new.reader) (g.W.Sink.contents c.args.writer.now) (g.W.Sink.contents c.answer_script_as.new.writer)
    (Err c.in-Err.fault) refl refl refl c.in-Err.ensures.output

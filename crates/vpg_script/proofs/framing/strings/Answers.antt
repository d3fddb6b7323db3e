use Rattle.std.proofs.Common.{◌∙◌}
use Rattle.serde_json.proofs.Views.{view-Array}
use Rattle.vpg_script.proofs.Framed.{strings_are}
use Rattle.vpg_script.proofs.framing.strings.Goals as goal

pub returns : goal.returns
returns c =
    view-Array c.loop-line.list ∙ strings_are (λ w. w.now) c.args.lines.now c.loop-line.line-index c.loop-line.list.items c.loop-line-test.false c.loop-line.invariant

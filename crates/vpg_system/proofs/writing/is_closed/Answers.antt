use Rattle.std.proofs.Common.{sym, ap, ◌∙◌}
use Rattle.std.specs.Prelude.{is_some}
use Rattle.vpg_system.specs.SystemView.{text_in}
use Rattle.vpg_system.proofs.Cuts.{closed_is}
use Rattle.vpg_system.proofs.writing.is_closed.Goals as goal

pub returns-in-Some : goal.returns-in-Some
returns-in-Some c = sym (closed_is c.args.text.now ∙ ap is_some (sym c.before_end.ensures ∙ ap text_in c.in-Some.is))

pub returns-in-None : goal.returns-in-None
returns-in-None c = sym (closed_is c.args.text.now ∙ ap is_some (sym c.before_end.ensures ∙ ap text_in c.in-None.is))

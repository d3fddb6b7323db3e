use Rattle.std.proofs.Common.{ap, ◌∙◌}
use Rattle.std.specs.Prelude.{option_map}
use Rattle.std.specs.List.{find}
use Rattle.vpg_script.specs.Forms.{form_shown, is_named}
use Rattle.vpg_script.proofs.Commands.{find_shown}
use Rattle.vpg_script.proofs.forms.form_named.Goals as goal

pub returns : goal.returns
returns c =
    ap (option_map form_shown) c.named_in.ensures
    ∙ (find_shown form_shown (is_named c.args.word.now) _ ∙ ap (find (is_named c.args.word.now)) c.all_forms.ensures)

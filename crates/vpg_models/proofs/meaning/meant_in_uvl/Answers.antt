-- meaning/meant_in_uvl
use Rattle.std.proofs.Common.{ℕ, List, sym, ap, ◌∙◌}
use Rattle.vpg_tree.specs.DiagramText.{diagram_text}
use Rattle.vpg_models.specs.declared.form.Form.TheVariants as forms
use Rattle.vpg_models.proofs.Joined as joined
use Rattle.vpg_models.proofs.meaning.meant_in_uvl.Goals as goal

pub returns-in-Err-clause-only : goal.returns-in-Err-clause-only
returns-in-Err-clause-only c =
    λ (meant : List ℕ) h. c.in-Err.ensures.only h.tree h.spelled

pub returns-in-Ok-written-clause-only : goal.returns-in-Ok-written-clause-only
returns-in-Ok-written-clause-only c =
    λ (meant : List ℕ) h.
    c.in-Ok-written.ensures.text ∙ ap diagram_text (c.in-Ok.ensures.only h.tree h.spelled) ∙ sym h.meant_is

pub returns-in-Ok-written-clause-configurations : goal.returns-in-Ok-written-clause-configurations
returns-in-Ok-written-clause-configurations c =
    joined.configurations forms.Uvl c.args.text.now _ _ c.in-Ok-written.ensures.tree c.in-Ok-written.ensures.text c.in-Ok.ensures.only

pub returns-in-Ok-written-clause-limits : goal.returns-in-Ok-written-clause-limits
returns-in-Ok-written-clause-limits c =
    joined.limits forms.Uvl c.args.text.now _ _ c.in-Ok-written.ensures.tree c.in-Ok-written.ensures.text c.in-Ok.ensures.only

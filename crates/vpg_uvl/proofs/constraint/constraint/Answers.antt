use Rattle.std.proofs.Common.{◌≡◌, List, ℕ, sym, subst, ◌∙◌}
use Rattle.vpg_uvl.specs.Quotes.{unquoted}
use Rattle.vpg_uvl.specs.Model.{SpellsGrouped}
use Rattle.vpg_uvl.specs.Views.{row_of}
use Rattle.vpg_uvl.proofs.RowFaults.{row_is_faulty}
use Rattle.vpg_uvl.proofs.constraint.constraint.Goals as goal

pub returns-in-Err-clause-refused : goal.returns-in-Err-clause-refused
returns-in-Err-clause-refused c =
    let text : c.deref.result.now ≡ unquoted c.args.row.bytes.now = c.deref.ensures.value ∙ c.in-Ok.ensures in
    row_is_faulty c.args.names.now (row_of c.args.row) c.deref.result.now c.in-Err.fault text c.in-Err.ensures.refused

pub returns-in-Err-clause-only : goal.returns-in-Err-clause-only
returns-in-Err-clause-only c d spells =
    let text : c.deref.result.now ≡ unquoted c.args.row.bytes.now = c.deref.ensures.value ∙ c.in-Ok.ensures in
    c.in-Err.ensures.only spells.rule (subst (λ (t : List ℕ). SpellsGrouped t spells.rule) (sym text) spells.spelled)

use Rattle.std.proofs.Common.{List, ℕ, [], sym, ap, ◌∙◌}
use Rattle.std.specs.Prelude.{slice_index_or}
use Rattle.vpg_formula.specs.declared.requirement.Entry as code
use Rattle.vpg_formula.specs.EntryCode.{earlier_of}
use Rattle.vpg_checking.proofs.Found.{name_of}
use Rattle.vpg_checking.proofs.model.Model.name_of.Goals as goal

pub returns-in-Some : goal.returns-in-Some
returns-in-Some c =
    c.as_bytes.ensures
    ∙ sym (name_of c.deref.result.now c.args.entry c.in-Some.entry.now c.in-Some.ensures.lookup.3.0 c.in-Some.ensures.lookup.1)
    ∙ ap (λ (es : List code.Entry). slice_index_or (earlier_of es) c.args.entry []) c.deref.ensures.value

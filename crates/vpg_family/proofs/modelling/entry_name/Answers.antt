use Rattle.std.proofs.Common.{◌≡◌, List, length, Some, refl, subst, ◌∙◌}
use Rattle.std.specs.Prelude.{slice_get}
use Rattle.std.proofs.lemmas.Option.{slice_get_read}
use Rattle.vpg_formula.specs.declared.requirement.Entry.{Entry}
use Rattle.vpg_family.proofs.Models.{entry_named}
use Rattle.vpg_family.proofs.modelling.entry_name.Goals as goal

pub returns-in-Some-clause-name : goal.returns-in-Some-clause-name
returns-in-Some-clause-name c =
    let at : slice_get c.in-Ok.requirements.entries.items c.args.entry ≡ Some c.in-Some.it.now =
    subst (λ (l : List Entry). slice_get l c.args.entry ≡ Some c.in-Some.it.now) c.deref.ensures.value
    (slice_get_read c.deref.result.now (length c.deref.result.now) c.args.entry c.in-Some.it.now refl c.in-Some.ensures.lookup.3.0 c.in-Some.ensures.lookup.1)
    in
    entry_named c.args.text.now c.in-Ok.requirements.entries.items c.args.entry c.in-Some.it.now c.in_ok-from_slice-in-Some.field-0.items c.in-Ok.ensures.found at
    (c.in_ok-from_slice-in-Some.ensures.items ∙ c.as_bytes.ensures)

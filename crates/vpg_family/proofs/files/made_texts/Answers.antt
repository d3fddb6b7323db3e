use Rattle.std.proofs.Common.{ℕ, List, [], subst}
use Rattle.vpg_family.specs.Families.{IsModelFault}
use Rattle.vpg_family.proofs.Models.{unread_model}
use Rattle.vpg_family.proofs.files.made_texts.Goals as goal

pub no_model-requires : goal.no_model-requires
no_model-requires c =
    let diagram = c.args.diagram.now in
    let fault = c.in-Err.fault in
    unread_model c.args.text.items [] c.args.system.items c.args.requirements.items diagram fault c.requires.diagram
    (subst (λ (t : List ℕ). IsModelFault diagram t c.args.requirements.items fault) c.deref.ensures.value
    (subst (λ (t : List ℕ). IsModelFault diagram c.deref.result.now t fault) c.deref-2.ensures.value c.in-Err.ensures.refused))

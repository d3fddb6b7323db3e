use Rattle.std.proofs.Common.{◌≡◌, Ok, Result, sym, ◌∙◌}
use Rattle.vpg_diagram.specs.DiagramText.{NamedDiagram}
use Rattle.vpg_diagram.specs.DiagramReading.{Fault}
use Rattle.vpg_diagram.proofs.TextLemmas.{reading_from_text}
use Rattle.vpg_diagram.proofs.laws.texts_spell_one.Goals as goal

pub returns : goal.returns
returns c text d e s t =
    let r : ◌≡◌ {A = Result NamedDiagram Fault} (Ok d) (Ok e) = sym (reading_from_text text d s) ∙ reading_from_text text e t in
    (cc)

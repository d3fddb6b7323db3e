use Rattle.std.proofs.Common.{◌∙◌, ap}
use Rattle.vpg_formula.specs.EntryCode.{earlier_of}
use Rattle.vpg_diagram.specs.DiagramText.{NamedDiagram}
use Rattle.vpg_game.specs.Game.{NamedGame, vertex_ids}
use Rattle.vpg_game.specs.SpelledNames.{Told}
use Rattle.vpg_family.specs.Called.{callings_of}
use Rattle.vpg_family.proofs.Models.{spelled_there}
use Rattle.vpg_family.proofs.known.Known.read.Goals as goal

pub returns-in-Ok-callings_of-clause-called : goal.returns-in-Ok-callings_of-clause-called
returns-in-Ok-callings_of-clause-called c = record {
  told = c.in-Ok-read.names.names;
  gives = λ features file is text. ap (λ (t : Told). t.names) (c.in-Ok-read.ensures.told features file is (c.deref-3.ensures.value ∙ text));
  callings_are = c.in-Ok-callings_of.ensures
      ∙ (λ i. callings_of c.in-Ok-read.names.names (vertex_ids (c.deref-4.ensures i).vertices) (earlier_of (c.deref-5.ensures.value i)) (c.deref-6.ensures.value i));
}

pub returns-in-Ok-callings_of-clause-only : goal.returns-in-Ok-callings_of-clause-only
returns-in-Ok-callings_of-clause-only c = λ (d : NamedDiagram) (g : NamedGame) h.
    c.in-Ok.ensures.only d g (spelled_there c.args.texts.now.diagram.items c.args.texts.now.game.items c.deref.result.now c.deref-2.result.now d g c.deref.ensures.value c.deref-2.ensures.value h)

pub returns-in-Ok-callings_of-clause-names : goal.returns-in-Ok-callings_of-clause-names
returns-in-Ok-callings_of-clause-names c = λ features file is text. c.in-Ok-read.ensures.told features file is (c.deref-3.ensures.value ∙ text)

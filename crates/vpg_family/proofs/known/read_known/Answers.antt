use Rattle.std.specs.Arc.{arc_value}
use Rattle.vpg_formula.specs.EntryCode.{earlier_of}
use Rattle.vpg_family.proofs.Models.{family_of_paths}
use Rattle.vpg_family.proofs.known.read_known.Goals as goal

pub returns-in-Ok-read-clause-known : goal.returns-in-Ok-read-clause-known
returns-in-Ok-read-clause-known g c =
    let texts = c.in-Ok.texts in
    let family = c.in-Ok-read.known.family in
    record {
      model_text = texts.model.items;
      diagram_text = texts.diagram.items;
      system_text = texts.system.items;
      requirements_text = texts.requirements.items;
      game_text = texts.game.items;
      names = earlier_of texts.entries.items;
      vertices = texts.vertices.items;
      meant = c.in-Ok.ensures.meant;
      spelled = c.in-Ok-read.ensures.spelled;
      family = family_of_paths c.args.paths.game texts.diagram.items texts.system.items texts.requirements.items texts.game.items (earlier_of texts.entries.items) texts.vertices.items texts.behaviour
          (arc_value family.diagram) (arc_value family.game) c.in-Ok-read.ensures.only c.in-Ok.ensures.model;
      called = c.in-Ok-read.ensures.called;
      told_is = c.in-Ok-read.ensures.names;
    }

use Rattle.vpg_family.proofs.Making.{made, made_of}
use Rattle.vpg_family.proofs.modelling.model_of.Goals as goal

pub returns-in-Err-clause-refused : goal.returns-in-Err-clause-refused
returns-in-Err-clause-refused c = c.told_of.ensures c.args.diagram.now c.args.system.now c.in-Err.ensures.refused

pub returns-clause-found : goal.returns-clause-found
returns-clause-found c =
    made c.args.diagram.now c.args.system.now c.args.requirements.now c.in-Ok.model.game c.in-Ok.model.requirements.entries.items c.in-Ok.model.roots.items c.names.result.now c.new-game.result.items c.write.new.out.items c.of.result
    c.names.ensures.names c.in-Ok.ensures.found c.in-Ok.ensures.below c.in-Ok.ensures.requirements c.new-game.ensures.items c.in_ok-write.ensures.ok
    (made_of c.args.diagram.now c.args.system.now c.args.requirements.now c.in-Ok.model.game c.in-Ok.model.roots.items c.in-Ok.model.places.items
    (record {
      features = c.in-Ok.model.source.features;
      actions = c.in-Ok.model.actions.items;
      states = c.in-Ok.model.source.states.items;
      sets = c.in-Ok.model.source.sets.items;
      parts = c.in-Ok.model.source.parts.items;
      pairs = c.in-Ok.model.pairs.keys;
    })
    c.of.result c.in-Ok.ensures.found c.in-Ok.ensures.over c.in-Ok.ensures.actions c.in-Ok.ensures.system c.in-Ok.ensures.vertices c.of.ensures)

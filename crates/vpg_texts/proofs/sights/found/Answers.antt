use Rattle.std.proofs.Common.{sym}
use Rattle.vpg_game.specs.Game.{vertex_ids}
use Rattle.vpg_texts.proofs.Named.{vertex_found, vertex_within}
use Rattle.vpg_texts.proofs.sights.found.Goals as goal

pub returns-clause-vertex : goal.returns-clause-vertex
returns-clause-vertex c = sym (vertex_found (vertex_ids c.args.game.now.vertices) c.args.identifier c.find.result c.find.ensures.found c.find.ensures.held)

pub returns-clause-within : goal.returns-clause-within
returns-clause-within c = vertex_within c.args.game.now.vertices c.args.identifier c.find.result c.find.ensures.found

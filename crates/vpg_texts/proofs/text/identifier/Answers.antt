use Rattle.std.proofs.Common.{sym}
use Rattle.std.proofs.lemmas.Option.{get_or_from_slice_get}
use Rattle.vpg_game.specs.Game.{vertex_ids}
use Rattle.vpg_texts.proofs.text.identifier.Goals as goal

pub returns : goal.returns
returns c = sym (get_or_from_slice_get (vertex_ids c.args.game.now.vertices) c.args.v c.id.result 0 c.id.ensures)

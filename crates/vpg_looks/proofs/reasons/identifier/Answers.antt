use Rattle.std.proofs.Common.{sym}
use Rattle.std.proofs.lemmas.Option.{get_or_from_slice_get}
use Rattle.vpg_game.specs.Game.{vertex_ids}
use Rattle.vpg_looks.proofs.reasons.identifier.Goals as goal

pub returns : goal.returns
returns c =
    sym (get_or_from_slice_get (vertex_ids c.args.order.now.game.vertices) c.args.vertex c.id.result 0 (rw (c.deref.ensures, c.game.ensures.game) at c.id.ensures))

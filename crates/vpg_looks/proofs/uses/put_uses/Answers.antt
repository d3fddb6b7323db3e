use Rattle.std.proofs.Common.{ap}
use Rattle.vpg_game.specs.Game.{vertex_ids}
use Rattle.vpg_texts.specs.Scene.{scene_of}
use Rattle.vpg_texts.proofs.Shown.{on_ok}
use Rattle.vpg_looks.specs.Uses.{TellsUses, uses_text}
use Rattle.vpg_looks.proofs.Told.{told_done}
use Rattle.vpg_looks.proofs.uses.put_uses.Goals as goal

pub returns : goal.returns
returns c =
    let order = c.args.order.now in
    let labels = c.args.labels.now.names in
    told_done (TellsUses (scene_of labels order.game order.diagram) c.args.feature) c.tell.result
    c.done.result c.done.ensures c.args.out.now.items c.tell.new.out.items
    (on_ok c.tell.result _ _
    (λ items. (
      uses_text (vertex_ids order.game.vertices) labels c.deref.result.now,
      (ap (uses_text (vertex_ids order.game.vertices) labels) (rw c.deref.ensures.value c.in_ok-listed.ensures.uses), items),
    )) c.tell.ensures)

use Rattle.vpg_texts.specs.Scene.{scene_of}
use Rattle.vpg_looks.specs.Parts.{TellsPart}
use Rattle.vpg_looks.proofs.Told.{told_done}
use Rattle.vpg_looks.proofs.drawing.part.Goals as goal

pub returns : goal.returns
returns c =
    let order = c.args.order.now in
    told_done (TellsPart (scene_of c.args.labels.now.names order.game order.diagram) c.args.limits c.args.vertex order.decisions order.hopeful order.dual) c.picture.result c.done.result c.done.ensures c.args.out.now.items c.picture.new.out.items
    c.picture.ensures

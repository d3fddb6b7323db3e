use Rattle.vpg_measure.specs.Orders.{other_table}
use Rattle.vpg_texts.specs.Scene.{scene_of, table_in}
use Rattle.vpg_looks.specs.Answers.{TellsMoves}
use Rattle.vpg_looks.proofs.Told.{told_done}
use Rattle.vpg_looks.proofs.winning.moves.Goals as goal

pub returns : goal.returns
returns c =
    let order = c.args.order.now in
    told_done (TellsMoves (scene_of c.args.labels.now.names order.game order.diagram) c.args.limits c.args.mover c.args.vertex order.decisions (table_in order.hopeful order.dual (other_table c.args.mover))) c.moves_if.result c.done.result c.done.ensures c.args.out.now.items c.moves_if.new.out.items
    c.moves_if.ensures

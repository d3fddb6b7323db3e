use Rattle.std.proofs.Common.{inl, inr, refl}
use Rattle.vpg_texts.proofs.Shown.{on_ok}
use Rattle.vpg_texts.specs.Scene.{scene_of}
use Rattle.vpg_looks.specs.Parts.{DrawsWinning}
use Rattle.vpg_looks.proofs.Told.{appends}
use Rattle.vpg_looks.proofs.drawing.winning.Goals as goal

pub returns-in-Winning : goal.returns-in-Winning
returns-in-Winning c =
    let are = rw c.in-Winning.is at c.in_ok-moves.ensures.found in
    on_ok c.drawn.result _ _ (λ told. (told.0, (inl (c.in-Winning.moves.items, are, told.1.0), told.1.1)))
    (rw (c.player.ensures, c.deref.ensures.value) at c.drawn.ensures)

pub unreachable-requires : goal.unreachable-requires
unreachable-requires c = c.in_ok-moves.ensures.verdict c.requires.verdict c.in-Nothing.is

pub returns-in-Unsettled : goal.returns-in-Unsettled
returns-in-Unsettled c =
    let order = c.args.order.now in
    appends (DrawsWinning (scene_of c.args.labels.now.names order.game order.diagram) c.args.limits c.args.mover c.args.vertex order.decisions order.hopeful order.dual) _
    (inr (λ settles. c.in_ok-moves.ensures.settled settles c.in-Unsettled.is, refl))
    c.unsettled.result c.args.out.now.items c.unsettled.new.out.items c.unsettled.ensures

use Rattle.std.proofs.lemmas.Grind.{common_steps}
use Rattle.std.proofs.Common.{◌≡◌, ◌∙◌, arith, refl}
use Rattle.vpg_game.proofs.Graphs.{same_count}
use Rattle.vpg_texts.specs.Picture.{named_game}
use Rattle.vpg_texts.specs.Scene.{scene_of}
use Rattle.vpg_texts.proofs.Pictured.{named_again, verdict_each}
use Rattle.vpg_texts.proofs.Shown.{named_below}
use Rattle.vpg_looks.specs.Parts.{IsPartDrawn}
use Rattle.vpg_looks.proofs.Told.{appends}
use Rattle.vpg_looks.proofs.drawing.part_over.Goals as goal

pub draw_part-requires-clause-decisions : goal.draw_part-requires-clause-decisions
draw_part-requires-clause-decisions c = named_below c.args.diagram.now.lines c.args.game.now.features c.args.decisions.now c.requires.named c.requires.features

pub draw_part-requires-clause-verdicts : goal.draw_part-requires-clause-verdicts
draw_part-requires-clause-verdicts c =
    verdict_each c.args.game.now c.args.hopeful.now c.args.dual.now c.deref.result.now (c.deref.ensures.value ∙ c.in_ok-verdicts.ensures)

pub draw_part-requires-clause-marks : goal.draw_part-requires-clause-marks
draw_part-requires-clause-marks c =
    rw c.deref-2.ensures.value (c.in_ok-marks.ensures.0 ∙ same_count c.args.game.now)

pub returns : goal.returns
returns c =
    let page = scene_of c.args.labels.now.names c.args.game.now c.args.diagram.now in
    let game : c.args.game.now ≡ named_game page = λ i. record { vertices = named_again c.args.game.now.vertices i; features = c.requires.features i } in
    appends (IsPartDrawn page c.args.vertex c.args.decisions.now c.args.hopeful.now c.args.dual.now c.args.mover c.args.moves.now) _
    (record {
      known = c.args.games.now.known;
      is_known = c.requires.games.known;
      marks = c.in_ok-marks.marks.items;
      reachable = rw c.known.ensures at c.in_ok-marks.ensures;
      drawn = refl;
    })
    c.draw_part.result c.args.out.now.items c.draw_part.new.out.items
    (rw (game, c.names.ensures.names, c.known-2.ensures, c.deref.ensures.value ∙ c.in_ok-verdicts.ensures, c.deref-2.ensures.value) at c.draw_part.ensures.drawn)

pub draw_part-requires-clause-features : goal.draw_part-requires-clause-features
draw_part-requires-clause-features c = grind (arith, common_steps)

pub draw_part-requires-clause-known : goal.draw_part-requires-clause-known
draw_part-requires-clause-known c = grind (arith, common_steps)

pub reachable-requires-clause-known : goal.reachable-requires-clause-known
reachable-requires-clause-known c = grind (arith, common_steps)

pub verdicts_by-requires-clause-hopeful : goal.verdicts_by-requires-clause-hopeful
verdicts_by-requires-clause-hopeful c = grind (arith, common_steps)

pub verdicts_by-requires-clause-dual : goal.verdicts_by-requires-clause-dual
verdicts_by-requires-clause-dual c = grind (arith, common_steps)

use Rattle.std.proofs.Common.{length, sym, ap, ◌∙◌, arith}
use Rattle.std.proofs.lemmas.Grind.{common_steps}
use Rattle.vpg_family.proofs.drawing.game_picture.Goals as goal

pub draw_game-requires-clause-verdicts : goal.draw_game-requires-clause-verdicts
draw_game-requires-clause-verdicts c = grind (arith, common_steps)

pub draw_game-requires-clause-features : goal.draw_game-requires-clause-features
draw_game-requires-clause-features c =
    ap length c.names-features.ensures.names ∙ c.names-features.ensures.diagram.each_named ∙ sym c.requires.features

use Rattle.vpg_family.specs.Pictures.{IsUndrawn, TellsContradiction}
use Rattle.vpg_family.proofs.Told.{if_err_to, undrawn_of_game, undrawn_contradiction}
use Rattle.vpg_family.proofs.drawing.drawn.Goals as goal

pub returns-in-Err-read_game-clause-refused : goal.returns-in-Err-read_game-clause-refused
returns-in-Err-read_game-clause-refused c =
    undrawn_of_game c.args.diagram_text.now c.args.game_text.now c.in-Ok.diagram c.in-Err-read_game.fault c.in-Ok.ensures.found c.in-Err-read_game.ensures.refused

pub returns-clause-refused : goal.returns-clause-refused
returns-clause-refused c =
    if_err_to (TellsContradiction c.in-Ok.diagram) (IsUndrawn c.args.diagram_text.now c.args.game_text.now) c.family_drawn.result
    (λ fault. undrawn_contradiction c.args.diagram_text.now c.args.game_text.now c.in-Ok.diagram c.in-Ok-read_game.game fault
    (record { diagram_spelled = c.in-Ok.ensures.found; game_spelled = c.in-Ok-read_game.ensures.found })) c.family_drawn.ensures.refused

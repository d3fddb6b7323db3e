use Rattle.vpg_family.proofs.Told.{family_of_game}
use Rattle.vpg_family.proofs.linting.linted.Goals as goal

pub returns-in-Err-read_game : goal.returns-in-Err-read_game
returns-in-Err-read_game c =
    rw (← c.deref.ensures.value, ← c.deref-2.ensures.value)
    (family_of_game c.deref.result.now c.deref-2.result.now c.in-Ok.diagram c.in-Err-read_game.fault c.in-Ok.ensures.found c.in-Err-read_game.ensures.refused)

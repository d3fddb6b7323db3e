use Rattle.std.proofs.Common.{sym, subst}
use Rattle.std.proofs.lemmas.Result.{err_from_is_err_and}
use Rattle.vpg_diagram.specs.DiagramText.{NamedDiagram}
use Rattle.vpg_game.specs.Game.{NamedGame, SpellsGame}
use Rattle.vpg_family.proofs.Only.{only_of}
use Rattle.vpg_family.proofs.family.Family.read.Goals as goal

pub returns-in_err-game-clause-only : goal.returns-in_err-game-clause-only
returns-in_err-game-clause-only c =
    λ (d : NamedDiagram) (g : NamedGame) h.
    let p = err_from_is_err_and c.from_residual-in_err-game.result c.from_residual-in_err-game.ensures.1 in
    rw (p.1, p.2) (c.in_err-game.ensures.only g
    (subst (λ (x : NamedDiagram). SpellsGame x.names c.args.game.now g) (sym (c.in_ok-diagram.ensures.only d h.diagram_spelled)) h.game_spelled))

pub returns-clause-only : goal.returns-clause-only
returns-clause-only c =
    λ (d : NamedDiagram) (g : NamedGame) h.
    only_of c.of.result c.in_ok-diagram.diagram d c.in_ok-game.game g (c.in_ok-diagram.ensures.only d h.diagram_spelled)
    (c.in_ok-game.ensures.only g
    (subst (λ (x : NamedDiagram). SpellsGame x.names c.args.game.now g) (sym (c.in_ok-diagram.ensures.only d h.diagram_spelled)) h.game_spelled))
    c.of.ensures.both c.of.ensures.refused

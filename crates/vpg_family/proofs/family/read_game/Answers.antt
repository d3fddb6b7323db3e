use Rattle.std.proofs.Common.{ℕ, List, sym, subst}
use Rattle.vpg_game.specs.Game.{NamedGame, SpellsGame}
use Rattle.vpg_game.specs.Refused.{IsRefused}
use Rattle.vpg_family.proofs.family.read_game.Goals as goal

pub returns-in_default-clause-refused : goal.returns-in_default-clause-refused
returns-in_default-clause-refused c =
    (c.in_default.not-Memory, subst (λ (names : List (List ℕ)). IsRefused names c.args.text.now c.in-Err.fault) c.names.ensures.names c.in-Err.ensures.refused)

pub returns-in-Ok-clause-found : goal.returns-in-Ok-clause-found
returns-in-Ok-clause-found c =
    subst (λ (names : List (List ℕ)). SpellsGame names c.args.text.now c.in-Ok.game) c.names.ensures.names c.in-Ok.ensures.found

pub returns-in-Ok-clause-only : goal.returns-in-Ok-clause-only
returns-in-Ok-clause-only c =
    λ (game : NamedGame) h. c.in-Ok.ensures.only game (subst (λ (names : List (List ℕ)). SpellsGame names c.args.text.now game) (sym c.names.ensures.names) h)

pub returns-in_default-clause-only : goal.returns-in_default-clause-only
returns-in_default-clause-only c =
    λ (game : NamedGame) h. absurd (c.in_default.not-Memory (c.in-Err.ensures.only game (subst (λ (names : List (List ℕ)). SpellsGame names c.args.text.now game) (sym c.names.ensures.names) h)))

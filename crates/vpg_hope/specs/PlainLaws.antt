-- The text of a plain game is read as that game.
use Rattle.std.specs.Prelude.{◌≡◌, Bool, List, []}
use Rattle.vpg_game.specs.Game.{NamedGame, IsGame, IsAtLimit, SpellsGame}
use Rattle.vpg_hope.specs.Plain.{IdentifiedGame, projection, unguarded, plain_text}

-- the plain game as a guarded game over no features, with every guard `true`
abbrev pub guarded_of : IdentifiedGame → NamedGame
guarded_of plain = record { vertices = unguarded plain.ids plain.game; features = 0 }

-- the text spells that guarded game, and its game is the plain game in every set of features
pub record IsReadAgain (plain : IdentifiedGame) : Type 0 where
  pub spelled : SpellsGame [] (plain_text plain) (guarded_of plain)
  pub same : (set : List Bool) → projection set (guarded_of plain) ≡ plain

-- the text of the game of each set of features is read as that game, if no priority is at the limit
abbrev pub PlainTextsAreReadAgain : Type 0
PlainTextsAreReadAgain =
    (set : List Bool) (game : NamedGame) → IsGame game → ¬ IsAtLimit game → IsReadAgain (projection set game)

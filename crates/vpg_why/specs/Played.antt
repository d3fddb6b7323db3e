-- The moves of a player that a play can come to. This project's own; plays and strategies are the standard of parity
-- games.
use Rattle.std.specs.Prelude.{◌≡◌, ◌↔◌, ℕ, true, false, Bool, Option, Some, None, List, length, slice_index_or}
use Rattle.vpg_sides.specs.declared.player.Player.{Player}
use Rattle.vpg_sides.specs.declared.player.Player.TheVariants.{Even, Odd}
use Rattle.vpg_hope.specs.Games.{Game, owner_of}
use Rattle.vpg_hope.specs.Strategies.{Reaches}
use Rattle.vpg_measure.specs.Views.{strategy_of}

-- Each vertex is marked that a play from the first one can come to, if Even makes these moves and Odd any.
abbrev pub AreReached : Game → (moves : List (Option ℕ)) → (first : ℕ) → (marks : List Bool) → Type 0
AreReached game moves first marks =
    (length marks ≡ length game)
    × ((v : ℕ) → slice_index_or marks v false ≡ true ↔ Reaches game Player.Even (strategy_of moves) first v)

-- Of these moves of Even, those at the vertices that a play from the first one can come to, and no others.
pub record ArePlayed (game : Game) (moves : List (Option ℕ)) (first : ℕ) (kept : List (Option ℕ)) : Type 0 where
  pub count : length kept ≡ length game
  pub played : (v w : ℕ) → (strategy_of kept v ≡ Some w) ↔
      (Reaches game Player.Even (strategy_of moves) first v × (owner_of game v ≡ Player.Even)
      × (strategy_of moves v ≡ Some w))

-- the move at a vertex, if it is Even's and a play can come to it
abbrev pub move_if : Player → (is_reached : Bool) → Option ℕ → Option ℕ
move_if Even true choice = choice
move_if Even false choice = None
move_if Odd is_reached choice = None

-- The part of a game that plays from a vertex can come to. This project's own.
use Rattle.std.specs.Prelude.{◌↔◌, ℕ, Bool, true, false, List, [], ◌∷◌, map}
use Rattle.vpg_sides.specs.declared.player.Player.{Player}
use Rattle.vpg_guards.specs.Formula.{Formula, truth}
use Rattle.vpg_game.specs.Guarded.{GuardedGame}
use Rattle.vpg_game.specs.Game.{NamedVertex, NamedGame, vertex_ids}
use Rattle.vpg_game.specs.Spelled.{SpelledEntry}
use Rattle.vpg_hope.specs.Hope.{product_game}
use Rattle.vpg_determined.specs.Determined.{HasWin}
use Rattle.vpg_open.specs.SettledGames.{spelled_vertex}

-- in the product a player wins the part from its vertex exactly if it wins the game from this one
abbrev pub HasWinnersOf : (game : GuardedGame Formula) → ℕ → List Bool → (part : GuardedGame Formula) → ℕ → Type 0
HasWinnersOf game v p part w =
    (player : Player) → HasWin (product_game (truth p) part) player w ↔ HasWin (product_game (truth p) game) player v

-- ---- for private contracts alone

-- the vertices that are marked, in order
abbrev pub marked : List NamedVertex → List Bool → List NamedVertex
marked [] marks = []
marked (v ∷ vs) [] = []
marked (v ∷ vs) (true ∷ marks) = v ∷ marked vs marks
marked (v ∷ vs) (false ∷ marks) = marked vs marks

-- their entries, as a text spells them
abbrev pub marked_entries : NamedGame → List Bool → List SpelledEntry
marked_entries game marks = map (spelled_vertex (vertex_ids game.vertices)) (marked game.vertices marks)

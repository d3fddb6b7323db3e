-- Plain games with the identifiers of their vertices, and their text. Texts: PGSolver's format; all else is this
-- project's own.
use Rattle.std.specs.Prelude.{ℕ, List, [], ◌∷◌, map, Bool}
use Rattle.vpg_guards.specs.Formula.{Formula, always, truth}
use Rattle.vpg_game.specs.Guarded.{GuardedEdge}
use Rattle.vpg_game.specs.Game.{NamedVertex, NamedGame, vertex_ids, graph_of}
use Rattle.vpg_game.specs.Writing.{game_text}
use Rattle.vpg_hope.specs.Games.{Game}
use Rattle.vpg_hope.specs.Hope.{product_game}

-- a plain game, and the identifiers of its vertices in order
pub record IdentifiedGame : Type 0 where
  pub ids : List ℕ
  pub game : Game

-- the game of a product keeps the identifiers of the guarded game
abbrev pub projection : List Bool → NamedGame → IdentifiedGame
projection set game = record { ids = vertex_ids game.vertices; game = product_game (truth set) (graph_of game) }

-- ---- the text

abbrev pub unguarded_edge : ℕ → GuardedEdge Formula
unguarded_edge w = record { to = w; guard = always }

-- the vertices of a plain game as those of a guarded one with every guard `true`
abbrev pub unguarded : List ℕ → Game → List NamedVertex
unguarded [] vertices = []
unguarded (id ∷ ids) [] = []
unguarded (id ∷ ids) (vertex ∷ vertices) =
    record { id = id; owner = vertex.owner; priority = vertex.priority; edges = map unguarded_edge vertex.successors }
    ∷ unguarded ids vertices

-- A plain game is written as that guarded game. It names no feature, and the guard `true` isn't written.
abbrev pub plain_text : IdentifiedGame → List ℕ
plain_text plain = game_text [] (record { vertices = unguarded plain.ids plain.game; features = 0 })

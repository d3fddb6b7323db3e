-- The picture of a page's game. This project's own.
use Rattle.std.specs.Prelude.{◌≡◌, ℕ, List, [], ◌∷◌, map}
use Rattle.vpg_guards.specs.Formula.{Formula}
use Rattle.vpg_diagram.specs.FeatureDiagram.{feature_count}
use Rattle.vpg_draw.specs.GameDrawing.{game_drawing}
use Rattle.vpg_game.specs.Game.{NamedVertex, NamedGame}
use Rattle.vpg_game.specs.Guarded.{GuardedGame}
use Rattle.vpg_trail.specs.Page.{Decision, literal_of}
use Rattle.vpg_texts.specs.Changed.{verdicts_by}
use Rattle.vpg_texts.specs.Scene.{Scene, UnderKnown}

-- vertices under these identifiers
abbrev pub named_vertices : List ℕ → GuardedGame Formula → List NamedVertex
named_vertices (id ∷ ids) (v ∷ vs) =
    record { id = id; owner = v.owner; priority = v.priority; edges = v.edges } ∷ named_vertices ids vs
named_vertices _ _ = []

-- the game of a scene, with its identifiers
abbrev pub named_game : Scene → NamedGame
named_game scene =
    record { vertices = named_vertices scene.identifiers scene.game; features = feature_count scene.lines }

-- The text is the picture of a game on a page, with these decisions, under what they make known, and with the verdicts
-- of these tables, with the names that stand beside lines.
abbrev pub IsDrawn : Scene → List Decision → (hopeful dual text : List ℕ) → Type 0
IsDrawn scene decisions hopeful dual text =
    UnderKnown scene decisions
    (λ known. text ≡ game_drawing scene.names known (map literal_of decisions) scene.labels
    (verdicts_by scene.game hopeful dual) (named_game scene))

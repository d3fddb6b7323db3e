-- The specification's small game and diagram.
use Rattle.std.specs.Prelude.{List, [], ◌∷◌}
use Rattle.vpg_guards.specs.Formula.{Formula, always, feature}
use Rattle.vpg_diagram.specs.FeatureDiagram.{Line, Optional}
use Rattle.vpg_sides.specs.declared.player.Player.TheVariants.{Even, Odd}
use Rattle.vpg_game.specs.Guarded.{GuardedGame}
use Rattle.vpg_desk.specs.Setting.{IsSetting}

abbrev pub small_game : GuardedGame Formula
small_game =
    record { owner = Even; priority = 1; edges = record { to = 1; guard = feature 1 } ∷ record { to = 0; guard = always } ∷ [] }
    ∷ record { owner = Odd; priority = 2; edges = record { to = 0; guard = feature 2 } ∷ record { to = 1; guard = always } ∷ [] }
    ∷ []

abbrev pub small_diagram : List Line
small_diagram = Optional 0 1 ∷ Optional 0 2 ∷ []

-- The small game and diagram are a setting, so the laws speak of something.
abbrev pub SmallIsSetting : Type 0
SmallIsSetting = IsSetting (record { game = small_game; lines = small_diagram })

-- The small family as a desk's game: so some game meets the theorem's conditions. This project's own.
use Rattle.std.specs.Prelude.{[], ◌∷◌}
use Rattle.vpg_diagram.specs.FeatureDiagram.{Optional}
use Rattle.vpg_desk.specs.Setting.{Setting, IsSetting}
use Rattle.vpg_model.specs.Laws.{IsModel}
use Rattle.vpg_requirement.specs.Example.{small_system, small_formula, small_game}

-- the game of the small family, over a diagram of one optional feature
abbrev pub small_setting : Setting
small_setting = record { game = small_game; lines = Optional 0 1 ∷ [] }

-- The small family's game and diagram are a setting, and a model of its system and formula.
pub record SmallIsModel : Type 0 where
  pub setting : IsSetting small_setting
  pub model : IsModel small_setting.lines small_setting.game small_system small_formula 0 0

-- The setting of a scene's desk.
use Rattle.vpg_desk.specs.Setting.{Setting}
use Rattle.vpg_texts.specs.Scene.{Scene}

abbrev pub setting_in : Scene → Setting
setting_in scene = record { game = scene.game; lines = scene.lines }

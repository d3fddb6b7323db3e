-- The configuration of a family on the page that a script leaves. This project's own.
use Rattle.std.specs.Prelude.{◌≡◌, ℕ, List, [], map}
use Rattle.vpg_configuration.specs.Exports.{configuration_text}
use Rattle.vpg_configuration.specs.declared.form.ConfigurationForm.{ConfigurationForm}
use Rattle.vpg_diagram.specs.DiagramText.{NamedDiagram}
use Rattle.vpg_game.specs.Game.{NamedGame}
use Rattle.vpg_trail.specs.Page.{Decision, literal_of, decisions_of}
use Rattle.vpg_script.specs.declared.serving.Ending.{Ending}
use Rattle.vpg_family.specs.declared.known.Context.{Context}
use Rattle.vpg_texts.specs.Scene.{UnderKnown, scene_of}
use Rattle.vpg_engine.specs.Line.{Between}
use Rattle.vpg_report.specs.Left.{LeavesBook}

-- the text is the configuration, in this form, of these decisions and of what they make known
abbrev pub IsConfiguration : ConfigurationForm → NamedDiagram → NamedGame → List Decision → (text : List ℕ) → Type 0
IsConfiguration form diagram game decisions text =
    UnderKnown (scene_of [] game diagram) decisions
    (λ known. text ≡ configuration_text form diagram.names known (map literal_of decisions))

-- The text is the configuration, in this form, of the page that the script leaves.
abbrev pub IsExportedAfter :
    NamedDiagram → NamedGame → Context → ConfigurationForm → (script : List ℕ) → Ending → (text : List ℕ) → Type 0
IsExportedAfter diagram game context form script ending text =
    (left : Between) × LeavesBook diagram game context script ending left ×
    IsConfiguration form diagram game (decisions_of left.book.present) text

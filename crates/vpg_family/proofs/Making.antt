-- The game that is made of texts, and its text.
use Rattle.std.proofs.Common.{◌≡◌, ℕ, List, [], ◌++◌, length, map, sym, ap, subst, ◌∙◌}
use Rattle.vpg_diagram.specs.DiagramText.{NamedDiagram}
use Rattle.vpg_game.specs.Game.{NamedGame, SpellsGame, IsAtLimit, graph_of}
use Rattle.vpg_formula.specs.Requirements.{Entry, SpellsRequirements, marked, names_of}
use Rattle.vpg_formula.specs.EntryCode.{entries_of, earlier_of}
use Rattle.vpg_formula.specs.declared.requirement.Entry as code
use Rattle.vpg_checking.specs.Checking.{IsModelOfTexts}
use Rattle.vpg_checking.specs.Texts.{WritesGame}
use Rattle.vpg_system.specs.SystemText.{NamedSystem, IsTextOf}
use Rattle.vpg_model.specs.Laws.{AreOfSystem}
use Rattle.vpg_model.specs.Pairs.{pair_for}
use Rattle.vpg_model.specs.Sources.{system_of}
use Rattle.vpg_checking.specs.Behaviours.{Behaviour}
use Rattle.vpg_checking.specs.Texts.{AreVerticesOf}
use Rattle.vpg_family.specs.Families.{IsModelOver}
use Rattle.vpg_family.specs.Made.{IsMadeOf}

-- what is written behind nothing is all that there is
written_alone : (names : List (List ℕ)) (game : NamedGame) (old new : List ℕ) → old ≡ [] → WritesGame names game old new → SpellsGame names new game
written_alone names game old new e (text, is, h) =
    let whole : text ≡ new = sym (is ∙ ap (λ (l : List ℕ). l ++ text) e) in subst (λ (t : List ℕ). SpellsGame names t game) whole h

-- the text of a game that was made spells it, and it is the model of what it was made of
pub made : (diagram : NamedDiagram) (system_text requirements_text : List ℕ) (game : NamedGame) (read : List code.Entry) (roots : List ℕ) (names : List (List ℕ)) (old new : List ℕ) (behaviour : Behaviour) → names ≡ diagram.names
    → IsModelOfTexts diagram.names diagram.lines system_text requirements_text (graph_of game) roots → ¬ IsAtLimit game
    → ((entries : List Entry) → SpellsRequirements requirements_text entries → entries_of read ≡ marked entries)
    → old ≡ [] → (¬ IsAtLimit game → WritesGame names game old new) → IsMadeOf diagram system_text game behaviour
    → (g : NamedGame) × SpellsGame diagram.names new g × IsModelOver diagram system_text requirements_text g (earlier_of read) roots × IsMadeOf diagram system_text g behaviour
made diagram system_text requirements_text game read roots names old new behaviour same model below are empty writes of = (
  game,
  subst (λ (ns : List (List ℕ)). SpellsGame ns new game) same (written_alone names game old new empty (writes below)),
  record { model = model; names_are = ap names_of (are model.entries model.are_entries) },
  of,
)

-- what the game was made of
pub made_of : (diagram : NamedDiagram) (system_text requirements_text : List ℕ) (game : NamedGame) (roots places : List ℕ) (raw behaviour : Behaviour) → IsModelOfTexts diagram.names diagram.lines system_text requirements_text (graph_of game) roots → raw.features ≡ game.features
    → ((s : NamedSystem) → IsTextOf diagram.names system_text s → raw.actions ≡ s.actions)
    → ((s : NamedSystem) → IsTextOf diagram.names system_text s → AreOfSystem (length s.actions) (system_of s) raw.states s.first)
    → ((s : NamedSystem) → IsTextOf diagram.names system_text s → AreVerticesOf raw.states raw.sets raw.parts (map (pair_for raw.parts s.first) places) raw.pairs roots (graph_of game))
    → behaviour ≡ raw → IsMadeOf diagram system_text game behaviour
made_of diagram system_text requirements_text game roots places raw behaviour model over actions_are of_system vertices same =
    subst (λ (b : Behaviour). IsMadeOf diagram system_text game b) (sym same) (record {
      system = model.system;
      is_system = model.is_system;
      features = over;
      actions = actions_are model.system model.is_system;
      of_system = of_system model.system model.is_system;
      places = places;
      vertices = roots;
      are_vertices = vertices model.system model.is_system;
    })

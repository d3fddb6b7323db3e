-- Families whose game is made from a system and its requirements.
use Rattle.std.proofs.Common.{◌≡◌, ℕ, List, [], ◌∷◌, map, Option, Some, refl, sym, ap, ◌∙◌}
use Rattle.std.specs.Prelude.{slice_get, option_map}
use Rattle.std.proofs.lemmas.Option.{slice_get-map}
use Rattle.vpg_diagram.specs.DiagramText.{NamedDiagram, IsTextOf}
use Rattle.vpg_game.specs.Game.{NamedGame}
use Rattle.vpg_formula.specs.Requirements.{AreRequirements, names_of}
use Rattle.vpg_formula.specs.EntryCode.{entries_of}
use Rattle.vpg_formula.specs.declared.requirement.Entry as code
use Rattle.vpg_family.specs.Families.{entry_names, IsNameOfEntry, SpellsFamily, IsModelFault, IsUnread}
use Rattle.vpg_checking.specs.Behaviours.{Behaviour}
use Rattle.vpg_family.specs.Made.{IsModelled, AreTextsOf, IsFamilyOf}
use Rattle.vpg_family.specs.declared.fault.Fault.{Fault}
use Rattle.vpg_family.specs.declared.fault.Fault.TheVariants as told
use Rattle.vpg_family.specs.declared.files.GamePaths.{GamePaths}
use Rattle.vpg_family.specs.declared.files.GamePaths.TheVariants as paths

-- what is told of texts without a game is told of files
pub unread_model : (diagram_text game_text system_text requirements_text : List ℕ) (diagram : NamedDiagram) (fault : Fault) → IsTextOf diagram_text diagram → IsModelFault diagram system_text requirements_text fault →
    IsUnread diagram_text game_text system_text requirements_text fault
unread_model diagram_text game_text system_text requirements_text diagram (told.System fault) is h = (diagram, is, h)
unread_model diagram_text game_text system_text requirements_text diagram (told.Requirements fault) is h = (diagram, is, h)
unread_model diagram_text game_text system_text requirements_text diagram (told.TooManyParts name) is h = (diagram, is, h)
unread_model diagram_text game_text system_text requirements_text diagram (told.Model fault) is h = (diagram, is, h)
unread_model diagram_text game_text system_text requirements_text diagram told.Memory is h = tt
unread_model diagram_text game_text system_text requirements_text diagram _ is h = absurd h

-- texts that spell one family alone spell that of their paths
pub family_of_paths : (files : GamePaths) (diagram_text system_text requirements_text game_text : List ℕ) (names : List (List ℕ)) (vertices : List ℕ) (behaviour : Option Behaviour) (d : NamedDiagram) (g : NamedGame)
    → ((diagram : NamedDiagram) (game : NamedGame) → SpellsFamily diagram_text game_text diagram game → (d ≡ diagram) × (g ≡ game))
    → AreTextsOf files diagram_text system_text requirements_text game_text names vertices behaviour → IsFamilyOf files d system_text requirements_text g names vertices behaviour
family_of_paths (paths.Game path) diagram_text system_text requirements_text game_text names vertices behaviour d g only h = (h.2, h.3, h.4)
family_of_paths (paths.Model files) diagram_text system_text requirements_text game_text names vertices behaviour d g only h =
    let same = only h.diagram h.game h.spelled in
    coe 0 1 (k. IsModelled ((sym same.0) k) system_text requirements_text ((sym same.1) k) names vertices behaviour) h.modelled
family_of_paths (paths.System path) diagram_text system_text requirements_text game_text names vertices behaviour d g only h = (h.2, h.3, h.4)

-- the same texts spell it
pub spelled_there : (diagram_text game_text one other : List ℕ) (diagram : NamedDiagram) (game : NamedGame) → one ≡ diagram_text → other ≡ game_text → SpellsFamily diagram_text game_text diagram game → SpellsFamily one other diagram game
spelled_there diagram_text game_text one other diagram game e f h =
    coe 0 1 (k. SpellsFamily ((sym e) k) ((sym f) k) diagram game) h

-- ---- the name of an entry

-- the names of entries that were read
pub read_names : (made : List code.Entry) → names_of (entries_of made) ≡ map (λ (e : code.Entry). e.name) made
read_names [] = refl
read_names (e ∷ es) = ap (λ (l : List (List ℕ)). e.name ∷ l) (read_names es)

-- an entry that was read has the name of one that is spelled
pub entry_named : (text : List ℕ) (made : List code.Entry) (n : ℕ) (it : code.Entry) (name : List ℕ) → AreRequirements text (entries_of made) → slice_get made n ≡ Some it → name ≡ it.name → IsNameOfEntry text n name
entry_named text made n it name h at is =
    let names : entry_names h.entries ≡ map (λ (e : code.Entry). e.name) made = sym (ap names_of h.are) ∙ read_names made in
    record {
      entries = h.entries;
      are_entries = h.spelled;
      name_is =
          ap (λ (l : List (List ℕ)). slice_get l n) names ∙ slice_get-map (λ (e : code.Entry). e.name) made n
          ∙ ap (λ (o : Option code.Entry). option_map (λ (e : code.Entry). e.name) o) at ∙ ap (λ (l : List ℕ). Some l) (sym is);
    }

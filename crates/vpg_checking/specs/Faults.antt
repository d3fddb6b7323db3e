-- Why there is no game of a family: first come faults of the system, then of the requirements, then their length, and
-- then the game. This project's own.
use Rattle.std.specs.Prelude.{◌≡◌, ◌≢◌, ℕ, ◌<◌, List, length, map, Bool}
use Rattle.vpg_system.specs.SystemText.{NamedSystem, IsTextOf}
use Rattle.vpg_system.specs.TextFaults.{IsFirstFault}
use Rattle.vpg_system.specs.declared.fault.SystemFault.{SystemFault}
use Rattle.vpg_system.specs.declared.fault.SystemFault.TheVariants as of_system
use Rattle.vpg_formula.specs.Requirements.{Entry, SpellsRequirements, IsRefused as IsNoRequirement}
use Rattle.vpg_formula.specs.declared.fault.RequirementFault.{RequirementFault}
use Rattle.vpg_formula.specs.declared.fault.RequirementFault.TheVariants as of_requirements
use Rattle.vpg_parts.specs.declared.part.Part.{Part}
use Rattle.vpg_model.specs.declared.fault.ModelFault.{ModelFault}
use Rattle.vpg_model.specs.declared.fault.ModelFault.TheVariants as of_game
use Rattle.vpg_model.specs.Departures.{Departure}
use Rattle.vpg_model.specs.Pairs.{pair_for, IsRefused}
use Rattle.vpg_model.specs.Sources.{system_of}
use Rattle.vpg_model.specs.Laws.{AreOfSystem, IsRootOf}
use Rattle.vpg_written.specs.Translations.{formula_at, IsTooLong}
use Rattle.vpg_written.specs.declared.translation.TranslationFault.{TranslationFault}
use Rattle.vpg_written.specs.declared.translation.TranslationFault.TheVariants as of_translation
use Rattle.vpg_checking.specs.declared.fault.CheckingFault.{CheckingFault}
use Rattle.vpg_checking.specs.declared.fault.CheckingFault.TheVariants as told

-- ---- reported faults: a lack of memory is a fault of no text

-- the report of a fault of the system's text
abbrev pub told_of_system : SystemFault → CheckingFault
told_of_system of_system.Memory = told.Memory
told_of_system fault = told.System fault

-- the report of a fault of the requirements' text
abbrev pub told_of_requirements : RequirementFault → CheckingFault
told_of_requirements of_requirements.Memory = told.Memory
told_of_requirements fault = told.Requirements fault

-- the report of requirements that are too long
abbrev pub told_of_translation : TranslationFault → CheckingFault
told_of_translation of_translation.Memory = told.Memory
told_of_translation (of_translation.TooManyParts entry) = told.TooManyParts entry

-- the report of a game beyond the limits
abbrev pub told_of_game : ModelFault → CheckingFault
told_of_game of_game.Memory = told.Memory
told_of_game fault = told.Game fault

-- ---- why there is no game

-- The lists have the system's transitions, and parts with the normal forms of the entries at their roots; no game is
-- made from these, for this reason.
pub record HasNoGame (system : NamedSystem) (entries : List Entry) (fault : ModelFault) : Type 0 where
  pub states : List (List Departure)
  pub sets : List (List Bool)
  pub parts : List Part
  pub roots : List ℕ
  pub of_system : AreOfSystem (length system.actions) (system_of system) states system.first
  pub count : length roots ≡ length entries
  pub are_roots : (n : ℕ) → n < length entries →
      IsRootOf (length system.actions) sets parts roots n (formula_at system.actions entries n)
  pub refused : IsRefused states sets parts (map (pair_for parts system.first) roots) fault

-- why the requirements of a text have no game, after a system has been read
abbrev pub IsRequirementsFault : NamedSystem → List ℕ → CheckingFault → Type 0
IsRequirementsFault system text (told.System fault) = ⊥
IsRequirementsFault system text (told.Requirements fault) =
    (fault ≢ of_requirements.Memory) × IsNoRequirement text fault
IsRequirementsFault system text (told.TooManyParts entry) = (entries : List Entry) × SpellsRequirements text entries ×
    IsTooLong system.actions entries (of_translation.TooManyParts entry)
IsRequirementsFault system text (told.Game fault) = (fault ≢ of_game.Memory) ×
    ((entries : List Entry) × SpellsRequirements text entries × HasNoGame system entries fault)
IsRequirementsFault system text told.Memory = Unit {0}

-- Why the texts have no game: the first text spells no system, and has this as its first fault; or it spells one, and
-- the requirements have no game.
abbrev pub IsCheckingFault : List (List ℕ) → List ℕ → List ℕ → CheckingFault → Type 0
IsCheckingFault names system_text requirements_text (told.System fault) = (fault ≢ of_system.Memory) ×
    IsFirstFault names system_text fault × ((system : NamedSystem) → IsTextOf names system_text system → ⊥)
IsCheckingFault names system_text requirements_text told.Memory = Unit {0}
IsCheckingFault names system_text requirements_text fault = (system : NamedSystem) ×
    IsTextOf names system_text system × IsRequirementsFault system requirements_text fault

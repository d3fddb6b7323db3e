-- What is told where there is no game.
use Rattle.std.proofs.Common.{ℕ, List}
use Rattle.std.specs.Prelude.{◌≢◌}
use Rattle.vpg_system.specs.SystemText.{NamedSystem, IsTextOf}
use Rattle.vpg_system.specs.TextFaults.{IsFirstFault}
use Rattle.vpg_system.specs.declared.fault.SystemFault.{SystemFault}
use Rattle.vpg_system.specs.declared.fault.SystemFault.TheVariants as of_system
use Rattle.vpg_formula.specs.Requirements.{Entry, SpellsRequirements, IsRefused as IsNoRequirement}
use Rattle.vpg_formula.specs.declared.fault.RequirementFault.{RequirementFault}
use Rattle.vpg_formula.specs.declared.fault.RequirementFault.TheVariants as of_requirements
use Rattle.vpg_model.specs.declared.fault.ModelFault.{ModelFault}
use Rattle.vpg_model.specs.declared.fault.ModelFault.TheVariants as of_game
use Rattle.vpg_written.specs.Translations.{IsTooLong}
use Rattle.vpg_written.specs.declared.translation.TranslationFault.{TranslationFault}
use Rattle.vpg_written.specs.declared.translation.TranslationFault.TheVariants as of_translation
use Rattle.vpg_checking.specs.Faults.{told_of_system, told_of_requirements, told_of_translation, told_of_game, HasNoGame, IsRequirementsFault, IsCheckingFault}

-- the system's text is refused
module _ (names : List (List ℕ)) (text requirements : List ℕ) where
  pub system_refused : (fault : SystemFault) → IsFirstFault names text fault → (fault ≢ of_system.Memory → (s : NamedSystem) → IsTextOf names text s → ⊥) →
      IsCheckingFault names text requirements (told_of_system fault)
  system_refused (of_system.NoHeader line) first none = ((λ e. cc), first, none (λ e. cc))
  system_refused (of_system.TooMany line) first none = ((λ e. cc), first, none (λ e. cc))
  system_refused (of_system.Syntax line) first none = ((λ e. cc), first, none (λ e. cc))
  system_refused (of_system.WrongCount line) first none = ((λ e. cc), first, none (λ e. cc))
  system_refused (of_system.Label line) first none = ((λ e. cc), first, none (λ e. cc))
  system_refused (of_system.NoState line) first none = ((λ e. cc), first, none (λ e. cc))
  system_refused (of_system.Guard line at fault) first none = ((λ e. cc), first, none (λ e. cc))
  system_refused of_system.Memory first none = tt

module _ (system : NamedSystem) (text : List ℕ) where
  pub text_refused : (fault : RequirementFault) → IsNoRequirement text fault → IsRequirementsFault system text (told_of_requirements fault)
  text_refused (of_requirements.Syntax at) h = ((λ e. cc), h)
  text_refused (of_requirements.UnknownVariable at) h = ((λ e. cc), h)
  text_refused (of_requirements.TooDeep at) h = ((λ e. cc), h)
  text_refused (of_requirements.Twice at) h = ((λ e. cc), h)
  text_refused (of_requirements.TooMany at) h = ((λ e. cc), h)
  text_refused (of_requirements.NegatedVariable at) h = ((λ e. cc), h)
  text_refused of_requirements.Memory h = tt

  module _ (entries : List Entry) (spelled : SpellsRequirements text entries) where
    pub too_long : (fault : TranslationFault) → IsTooLong system.actions entries fault → IsRequirementsFault system text (told_of_translation fault)
    too_long (of_translation.TooManyParts entry) h = (entries, spelled, h)
    too_long of_translation.Memory h = tt

    pub game_refused : (fault : ModelFault) → HasNoGame system entries fault → IsRequirementsFault system text (told_of_game fault)
    game_refused of_game.TooManyVertices h = ((λ e. cc), (entries, spelled, h))
    game_refused of_game.TooManyEdges h = ((λ e. cc), (entries, spelled, h))
    game_refused of_game.TooWide h = ((λ e. cc), (entries, spelled, h))
    game_refused of_game.Memory h = tt

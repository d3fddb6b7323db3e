-- What the calls of the reader give, joined.
use Rattle.std.proofs.Common.{◌≡◌, ℕ, ◌<◌, ◌≤◌, Bool, List, length, map, sym, ◌∙◌, subst, arith}
use Rattle.vpg_guards.specs.Formula.{Formula as Guard}
use Rattle.vpg_diagram.specs.FeatureDiagram.{Line}
use Rattle.vpg_game.specs.Guarded.{GuardedGame}
use Rattle.vpg_system.specs.SystemText.{NamedSystem}
use Rattle.vpg_system.specs.System.{IsSystem}
use Rattle.vpg_formula.specs.Requirements.{Entry, SpellsRequirements}
use Rattle.vpg_meaning.specs.Laws.{RequirementsArePositive, RequirementsMeanWhatIsWritten}
use Rattle.vpg_parts.specs.declared.part.Part.{Part}
use Rattle.vpg_parts.specs.declared.symbol.Symbol.{Symbol}
use Rattle.vpg_parts.specs.Parts.{HasConstants}
use Rattle.vpg_parts.specs.Symbols.{IsSpelled}
use Rattle.vpg_model.specs.declared.fault.ModelFault.{ModelFault}
use Rattle.vpg_model.specs.Departures.{Departure}
use Rattle.vpg_model.specs.Pairs.{pair_for, IsPairGame, IsRefused}
use Rattle.vpg_model.specs.Sources.{system_of}
use Rattle.vpg_model.specs.Laws.{IsGameOfParts, AreOfSystem}
use Rattle.vpg_written.specs.Translations.{AreTranslated}
use Rattle.vpg_checking.specs.Checking.{IsModelOfEntries}
use Rattle.vpg_checking.specs.Faults.{HasNoGame}
use Rattle.vpg_checking.proofs.Lists.{zip_length}
use Rattle.vpg_checking.proofs.Entries.{are_some, forms_of, forms_length}
use Rattle.vpg_checking.proofs.Checked.{Stand, as_many_roots, root_is, game_is_model}

module _ (system : NamedSystem) (text : List ℕ) (entries : List Entry) (spelled : SpellsRequirements text entries) (sets : List (List Bool)) (forms : List (List Symbol)) (translated : AreTranslated system.actions entries sets forms) where
  as_many_forms : length forms ≡ length entries
  as_many_forms = sym (zip_length (IsSpelled translated.actions) (forms_of system.actions entries) forms translated.forms_are) ∙ forms_length system.actions entries

  pub few_forms : length forms ≤ 64
  few_forms = omega (arith, as_many_forms, (are_some text entries spelled).few)

  pub some_roots : (roots : List ℕ) → length roots ≡ length forms → 0 < length roots
  some_roots roots e = omega (arith, e, as_many_forms, (are_some text entries spelled).some)

  -- The source has the sets and the parts; and the game is made of it, the first state and the roots.
  module _ (positive : RequirementsArePositive) (parts : List Part) (roots : List ℕ) (constants : HasConstants parts) (shown : List (List Symbol)) (same_forms : shown ≡ forms) (stand : Stand parts roots shown)
      (states : List (List Departure)) (kept : List (List Bool)) (placed : List Part) (asked : List ℕ) (first : ℕ) (same_sets : kept ≡ sets) (same_parts : placed ≡ parts) (same_roots : asked ≡ roots) (same_first : first ≡ system.first)
      (of_system : AreOfSystem (length system.actions) (system_of system) states system.first) where
    translated_kept : AreTranslated system.actions entries kept forms
    translated_kept = subst (λ (s : List (List Bool)). AreTranslated system.actions entries s forms) (sym same_sets) translated

    constants_placed : HasConstants placed
    constants_placed = subst HasConstants (sym same_parts) constants

    stand_placed : Stand placed asked forms
    stand_placed = subst (λ (p : List Part). Stand p asked forms) (sym same_parts) (subst (λ (r : List ℕ). Stand parts r forms) (sym same_roots) (subst (Stand parts roots) same_forms stand))

    pub found : IsSystem system → RequirementsMeanWhatIsWritten → (pairs : List (ℕ × ℕ)) (vertices : List ℕ) (game : GuardedGame Guard) → IsPairGame states kept placed (map (pair_for placed first) asked) pairs vertices game →
        IsGameOfParts states kept placed first asked pairs vertices game → (lines : List Line) → IsModelOfEntries lines system entries game vertices
    found is means pairs vertices game pair_game of_parts lines = game_is_model system entries (positive text entries spelled system.actions) kept forms placed asked translated_kept constants_placed stand_placed is states of_system pairs vertices game
        (subst (λ (s : ℕ). IsPairGame states kept placed (map (pair_for placed s) asked) pairs vertices game) same_first pair_game)
        (subst (λ (s : ℕ). IsGameOfParts states kept placed s asked pairs vertices game) same_first of_parts) text spelled means lines

    pub none_found : (fault : ModelFault) → IsRefused states kept placed (map (pair_for placed first) asked) fault → HasNoGame system entries fault
    none_found fault refused = record {
      states = states;
      sets = kept;
      parts = placed;
      roots = asked;
      of_system = of_system;
      count = as_many_roots system entries (positive text entries spelled system.actions) kept forms placed asked translated_kept constants_placed stand_placed;
      are_roots = root_is system entries (positive text entries spelled system.actions) kept forms placed asked translated_kept constants_placed stand_placed;
      refused = subst (λ (s : ℕ). IsRefused states kept placed (map (pair_for placed s) asked) fault) same_first refused;
    }

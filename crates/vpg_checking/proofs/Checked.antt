-- The game that is built is that of the requirements.
use Rattle.std.proofs.Common.{◌≡◌, ℕ, ◌<◌, ◌⊎◌, ◌↔◌, inl, inr, Bool, true, false, List, [], ◌∷◌, length, get_or, map, filter, All, sym, ◌∙◌, subst, arith}
use Rattle.std.specs.List.{AllZip}
use Rattle.std.proofs.lemmas.Bool.{cases_Bool}
use Rattle.std.proofs.lemmas.List.{length-map}
use Rattle.std.proofs.lemmas.Option.{slice_get-get_or}
use Rattle.std.proofs.lemmas.List.Elements.{All-cons, All-nil, All-head, All-tail}
use Rattle.vpg_guards.specs.Formula.{Formula as Guard, truth}
use Rattle.vpg_diagram.specs.FeatureDiagram.{Line}
use Rattle.vpg_game.specs.Guarded.{GuardedGame}
use Rattle.vpg_hope.specs.Games.{Game}
use Rattle.vpg_hope.specs.Hope.{product_game}
use Rattle.vpg_system.specs.SystemText.{Transition as NamedTransition, NamedSystem}
use Rattle.vpg_system.specs.System.{IsTransition, IsSystem}
use Rattle.vpg_formula.specs.Requirements.{Entry, SpellsRequirements}
use Rattle.vpg_requirement.specs.Actions.{ActionFormula}
use Rattle.vpg_requirement.specs.Systems.{Step, Transition, product_system}
use Rattle.vpg_requirement.specs.Formulas.{Means, IsPositive}
use Rattle.vpg_requirement.specs.NormalForms.{NormalForm, unmet}
use Rattle.vpg_requirement.specs.Priorities.{with_priorities, normal_form, IsClosedBelow}
use Rattle.vpg_requirement.specs.Laws.{IsDecided}
use Rattle.vpg_requirement.proofs.Decided.{closed_product}
use Rattle.vpg_meaning.specs.Paths.{HasNames}
use Rattle.vpg_meaning.specs.Laws.{RequirementsMeanWhatIsWritten}
use Rattle.vpg_parts.specs.declared.part.Part.{Part}
use Rattle.vpg_parts.specs.declared.symbol.Symbol.{Symbol}
use Rattle.vpg_parts.specs.Parts.{HasConstants}
use Rattle.vpg_parts.specs.Symbols.{IsSpelled}
use Rattle.vpg_model.specs.Departures.{Departure}
use Rattle.vpg_model.specs.Pairs.{pair_at, pair_for, IsPairGame}
use Rattle.vpg_model.specs.Sources.{transition_in, system_of}
use Rattle.vpg_model.specs.Laws.{IsGameOfParts, IsRootOf, AreOfSystem}
use Rattle.vpg_model.proofs.Decides.{game_of_parts_is_model, game_of_parts_decides}
use Rattle.vpg_written.specs.Translations.{formula_at, AreTranslated}
use Rattle.vpg_normal.specs.Standing.{StandsAt}
use Rattle.vpg_checking.specs.Checking.{entry_at, EntryHoldsIn, IsModelOfEntries}
use Rattle.vpg_checking.proofs.Lists.{zip_at, zip_length}
use Rattle.vpg_checking.proofs.Entries.{in_order, positive_at, forms_of, forms_length, form_is, all_closed}

-- ---- the actions of a product have names

named_steps : (features states actions : ℕ) (test : Guard → Bool) (ts : List NamedTransition) → All (IsTransition features states actions) ts →
    All (λ step. step.label < actions) (map (λ t. t.step) (filter (λ t. test t.guard) (map transition_in ts)))
named_steps features states actions test [] h = All-nil (λ (step : Step). step.label < actions)
named_steps features states actions test (t ∷ ts) h = decide (cases_Bool (test t.guard)) (named_steps features states actions test ts (All-tail (IsTransition features states actions) t ts h))
  where
    decide : (test t.guard ≡ true) ⊎ (test t.guard ≡ false) → All (λ (step : Step). step.label < actions) (map (λ (u : Transition Guard). u.step) (filter (λ u. test u.guard) (map transition_in ts))) →
        All (λ (step : Step). step.label < actions) (map (λ (u : Transition Guard). u.step) (filter (λ u. test u.guard) (map transition_in (t ∷ ts))))
    decide (inl e) rest = rw e (All-cons (λ (step : Step). step.label < actions) (transition_in t).step _ (All-head (IsTransition features states actions) t ts h).action_below rest)
    decide (inr e) rest = rw e rest

has_names : (system : NamedSystem) → IsSystem system → (set : List Bool) → HasNames system.actions (product_system (truth set) (system_of system))
has_names system is set = named_steps system.features system.states (length system.actions) (truth set) system.transitions is.transitions_are

-- ---- a fact that is decided, in other words

same_fact : (P Q : Type 0) (game : Game) (v : ℕ) → P ↔ Q → IsDecided P game v → IsDecided Q game v
same_fact P Q game v h d = record {
  won = (λ q. d.won.0 (h.1 q), λ w. h.0 (d.won.1 w));
  lost = (λ n. d.lost.0 (λ p. n (h.0 p)), λ w q. d.lost.1 w (h.1 q));
  hopeless = λ none q. d.hopeless none (h.1 q);
  sure = λ none. h.0 (d.sure none);
}

-- ---- the roots

-- what parts are of a list of normal forms
abbrev pub Stand : List Part → List ℕ → List (List Symbol) → Type 0
Stand parts roots forms = (actions : List ActionFormula) (fs : List NormalForm) → AllZip (IsSpelled actions) fs forms → All (IsClosedBelow 0) fs →
    AllZip (λ k f. StandsAt parts actions k (with_priorities f)) roots fs

module _ (system : NamedSystem) (entries : List Entry) (positive : All (IsPositive [] false) (in_order system.actions entries)) (sets : List (List Bool)) (forms : List (List Symbol)) (parts : List Part) (roots : List ℕ)
    (translated : AreTranslated system.actions entries sets forms) (constants : HasConstants parts) (stand : Stand parts roots forms) where
  standing : AllZip (λ k f. StandsAt parts translated.actions k (with_priorities f)) roots (forms_of system.actions entries)
  standing = stand translated.actions (forms_of system.actions entries) translated.forms_are (all_closed system.actions entries positive)

  pub as_many_roots : length roots ≡ length entries
  as_many_roots = zip_length (λ k f. StandsAt parts translated.actions k (with_priorities f)) roots (forms_of system.actions entries) standing ∙ forms_length system.actions entries

  root_stands : (n : ℕ) → n < length entries → StandsAt parts translated.actions (get_or roots n 0) (normal_form (formula_at system.actions entries n))
  root_stands n l = subst (λ (f : NormalForm). StandsAt parts translated.actions (get_or roots n 0) (with_priorities f)) (form_is system.actions entries n l)
      (zip_at (λ k f. StandsAt parts translated.actions k (with_priorities f)) roots (forms_of system.actions entries) n 0 unmet (omega (arith, l, as_many_roots)) standing)

  pub root_is : (n : ℕ) → n < length entries → IsRootOf (length system.actions) sets parts roots n (formula_at system.actions entries n)
  root_is n l = record {
    actions = translated.actions;
    permitted = translated.permitted;
    constants = constants;
    chain = (root_stands n l).chain;
    chained = (root_stands n l).chained;
    some = omega (arith, l, as_many_roots);
    outermost = (root_stands n l).outermost;
    form = (root_stands n l).stands;
    positive = positive_at system.actions entries positive n l;
  }

  -- ---- the game

  module _ (is : IsSystem system) (states : List (List Departure)) (of_system : AreOfSystem (length system.actions) (system_of system) states system.first) (pairs : List (ℕ × ℕ)) (vertices : List ℕ) (game : GuardedGame Guard)
      (pair_game : IsPairGame states sets parts (map (pair_for parts system.first) roots) pairs vertices game) (of_parts : IsGameOfParts states sets parts system.first roots pairs vertices game) where
    as_many_vertices : length vertices ≡ length entries
    as_many_vertices = sym (zip_length (λ pair at. (at < length pairs) × (pair_at pairs at ≡ pair)) (map (pair_for parts system.first) roots) vertices pair_game.placed)
        ∙ length-map roots (pair_for parts system.first) ∙ as_many_roots

    -- the formula means what is written
    written : (text : List ℕ) → SpellsRequirements text entries → RequirementsMeanWhatIsWritten → (n : ℕ) → n < length entries → (set : List Bool) →
        Means (product_system (truth set) (system_of system)) [] (formula_at system.actions entries n) system.first ↔ EntryHoldsIn system entries n set
    written text spelled means n l set = means text entries spelled system.actions (product_system (truth set) (system_of system)) (closed_product (system_of system) of_system.closed set) (has_names system is set)
        n (entry_at entries n) (slice_get-get_or entries n (entry_at [] 0) l) system.first of_system.state

    pub game_is_model : (text : List ℕ) → SpellsRequirements text entries → RequirementsMeanWhatIsWritten → (lines : List Line) → IsModelOfEntries lines system entries game vertices
    game_is_model text spelled means lines = record {
      count = as_many_vertices;
      models = λ n l. game_of_parts_is_model states sets parts system.first roots pairs vertices game of_parts (length system.actions) (system_of system) of_system n (formula_at system.actions entries n) (root_is n l) lines;
      decided = λ n l set. same_fact (Means (product_system (truth set) (system_of system)) [] (formula_at system.actions entries n) system.first) (EntryHoldsIn system entries n set) (product_game (truth set) game) (get_or vertices n 0) (written text spelled means n l set)
          (game_of_parts_decides states sets parts system.first roots pairs vertices game of_parts (length system.actions) (system_of system) of_system n (formula_at system.actions entries n) (root_is n l) set);
    }

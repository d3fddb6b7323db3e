-- The translation of a requirement has the meaning of its written form. This project's own, over the sources of what it
-- names.
use Rattle.std.specs.Prelude.{◌≡◌, ℕ, ◌<◌, ◌↔◌, List, [], ◌∷◌, ◌++◌, length, take, slice_get, slice_index_or, All, Bool, true, false, Some}
use Rattle.vpg_requirement.specs.Actions.{permits}
use Rattle.vpg_requirement.specs.Systems.{PlainSystem, IsClosedSystem}
use Rattle.vpg_requirement.specs.Fixpoints.{StateSet}
use Rattle.vpg_requirement.specs.Formulas.{Formula, nowhere, Means, IsPositive}
use Rattle.vpg_requirement.specs.Words.{shift}
use Rattle.vpg_formula.specs.Regular.{Regular}
use Rattle.vpg_formula.specs.Written.{Written, named}
use Rattle.vpg_formula.specs.Requirements.{Entry, SpellsRequirements}
use Rattle.vpg_meaning.specs.Labels.{is_named, without_blanks, admits, name_at, actions_of}
use Rattle.vpg_meaning.specs.Paths.{HasNames, SomePath, EveryPath}
use Rattle.vpg_meaning.specs.Translation.{diamond_along, box_along, formula_of, formulas_in_order, formulas_of}
use Rattle.vpg_meaning.specs.Meaning.{Holds, IsWellNamed, AreWellNamed, names_behind}

-- A label in quotes names the action of exactly these bytes, and one without quotes each action of these bytes apart
-- from blanks.
pub record LabelsAreNames : Type 0 where
  pub quoted : (label name : List ℕ) →
      (is_named (record { quoted = true; name = label }) name ≡ true) ↔ (label ≡ name)
  pub bare : (label name : List ℕ) →
      (is_named (record { quoted = false; name = label }) name ≡ true) ↔ (without_blanks label ≡ without_blanks name)

-- An action formula over numbers permits the actions with names that the written one admits.
abbrev pub ActionsAreAdmitted : Type 0
ActionsAreAdmitted = (names : List (List ℕ)) (x : Regular) (a : ℕ) → a < length names →
    permits (actions_of names x) a ≡ admits x (name_at names a)

-- `<R>f` holds if some path in the language of R leads to f, also inside fixpoints.
abbrev pub DiamondMeansSomePath : Type 0
DiamondMeansSomePath = (names : List (List ℕ)) (system : PlainSystem) (sets : List StateSet) (signs : List Bool)
    (sign : Bool) (x : Regular) (f : Formula) → IsClosedSystem system → HasNames names system →
    IsPositive signs sign f → (s : ℕ) → s < system.states →
    Means system sets (diamond_along names x f) s ↔ SomePath names system x (Means system sets f) s

-- `[R]f` holds if each path in the language of R leads to f, also inside fixpoints.
abbrev pub BoxMeansEveryPath : Type 0
BoxMeansEveryPath = (names : List (List ℕ)) (system : PlainSystem) (sets : List StateSet) (signs : List Bool)
    (sign : Bool) (x : Regular) (f : Formula) → IsClosedSystem system → HasNames names system →
    IsPositive signs sign f → (s : ℕ) → s < system.states →
    Means system sets (box_along names x f) s ↔ EveryPath names system x (Means system sets f) s

-- A formula inside one more fixpoint keeps its meaning, and so does one that stands alone, inside any fixpoints.
pub record SubstitutionIsSound : Type 0 where
  pub shifted : (system : PlainSystem) (set : StateSet) (sets : List StateSet) (f : Formula) (s : ℕ) →
      Means system (set ∷ sets) (shift 0 f) s ↔ Means system sets f s
  pub alone : (system : PlainSystem) (sets : List StateSet) (sign : Bool) (f : Formula) → IsPositive [] sign f →
      (s : ℕ) → Means system sets f s ↔ Means system [] f s

-- After an entry its name stands for its formula.
abbrev pub EntriesStandForFormulas : Type 0
EntriesStandForFormulas = (names : List (List ℕ)) (entries : List Entry) (e : Entry) →
    formula_of names (formulas_of names (entries ++ e ∷ [])) [] (named e.name)
    ≡ formula_of names (formulas_of names entries) [] e.formula

-- Each variable of a written formula that is well named has its fixpoint, under an even number of negations.
abbrev pub WellNamedIsPositive : Type 0
WellNamedIsPositive = (names : List (List ℕ)) (entries : List Entry) (f : Written) → AreWellNamed [] entries →
    IsWellNamed (names_behind [] entries) [] false f →
    IsPositive [] false (formula_of names (formulas_of names entries) [] f)

-- So the formula of a written requirement, after entries, holds at a state exactly if the written form holds there.
abbrev pub FormulasMeanWhatIsWritten : Type 0
FormulasMeanWhatIsWritten = (names : List (List ℕ)) (system : PlainSystem) (entries : List Entry) (f : Written) →
    IsClosedSystem system → HasNames names system → AreWellNamed [] entries →
    IsWellNamed (names_behind [] entries) [] false f → (s : ℕ) → s < system.states →
    Means system [] (formula_of names (formulas_of names entries) [] f) s ↔ Holds names system entries f s

-- The requirements that a text spells are well named.
abbrev pub RequirementsAreWellNamed : Type 0
RequirementsAreWellNamed = (text : List ℕ) (entries : List Entry) → SpellsRequirements text entries →
    AreWellNamed [] entries

-- So in the formula of each requirement of a text each variable has its fixpoint, under an even number of negations.
abbrev pub RequirementsArePositive : Type 0
RequirementsArePositive = (text : List ℕ) (entries : List Entry) → SpellsRequirements text entries →
    (names : List (List ℕ)) → All (IsPositive [] false) (formulas_in_order names [] entries)

-- Each requirement of a text holds at a state exactly if its written form holds there, after the entries in front.
abbrev pub RequirementsMeanWhatIsWritten : Type 0
RequirementsMeanWhatIsWritten = (text : List ℕ) (entries : List Entry) → SpellsRequirements text entries →
    (names : List (List ℕ)) (system : PlainSystem) → IsClosedSystem system → HasNames names system →
    (n : ℕ) (e : Entry) → slice_get entries n ≡ Some e → (s : ℕ) → s < system.states →
    Means system [] (slice_index_or (formulas_in_order names [] entries) n nowhere) s
    ↔ Holds names system (take n entries) e.formula s

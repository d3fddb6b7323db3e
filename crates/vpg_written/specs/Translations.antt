-- The translation of requirements before games are built: normal forms in Polish notation, and the sets of actions that
-- they name. This project's own.
use Rattle.std.specs.Prelude.{ℕ, suc, ◌+◌, ◌<◌, List, [], length, map, Bool, false, slice_index_or}
use Rattle.std.specs.List.{AllZip}
use Rattle.vpg_requirement.specs.Actions.{ActionFormula}
use Rattle.vpg_requirement.specs.Formulas.{Formula, nowhere}
use Rattle.vpg_requirement.specs.NormalForms.{NormalForm, met, unmet, both, either, some_step, every_step, fixpoint, variable, positive_form}
use Rattle.vpg_parts.specs.declared.symbol.Symbol.{Symbol}
use Rattle.vpg_parts.specs.Sets.{ArePermitted, actions_at}
use Rattle.vpg_parts.specs.Symbols.{IsSpelled}
use Rattle.vpg_formula.specs.Requirements.{Entry}
use Rattle.vpg_meaning.specs.Translation.{formulas_in_order}
use Rattle.vpg_written.specs.declared.translation.TranslationFault.{TranslationFault}
use Rattle.vpg_written.specs.declared.translation.TranslationFault.TheVariants as faults

-- The forms spell the normal forms of the entries in their order, if actions have these names. The sets are those of
-- some action formulas: each set has the actions that its formula permits.
pub record AreTranslated (names : List (List ℕ)) (entries : List Entry) (sets : List (List Bool))
    (forms : List (List Symbol)) : Type 0 where
  pub actions : List ActionFormula
  pub permitted : (x : ℕ) → ArePermitted (length names) sets x (actions_at actions x)
  pub forms_are : AllZip (IsSpelled actions) (map (positive_form false) (formulas_in_order names [] entries)) forms

-- the number of parts of a normal form
abbrev pub size : NormalForm → ℕ
size met = 1
size unmet = 1
size (both f g) = suc (size f + size g)
size (either f g) = suc (size f + size g)
size (some_step x f) = suc (size f)
size (every_step x f) = suc (size f)
size (fixpoint kind p f) = suc (size f)
size (variable i) = 1

-- the formula of an entry; `false`, if there is none
abbrev pub formula_at : List (List ℕ) → List Entry → ℕ → Formula
formula_at names entries n = slice_index_or (formulas_in_order names [] entries) n nowhere

-- An entry of this number has more than 65,536 parts.
pub record HasTooMany (names : List (List ℕ)) (entries : List Entry) (n : ℕ) : Type 0 where
  pub below : n < length entries
  pub many : 65536 < size (positive_form false (formula_at names entries n))

-- The meaning of a fault for the entries.
abbrev pub IsTooLong : List (List ℕ) → List Entry → TranslationFault → Type 0
IsTooLong names entries (faults.TooManyParts n) = HasTooMany names entries n
IsTooLong names entries faults.Memory = Unit {0}

-- The forms of all entries, in the words of the code. This project's own.
use Rattle.std.specs.Prelude.{◌≡◌, ℕ, ◌<◌, List, [], length, slice_index_or}
use Rattle.vpg_parts.specs.declared.symbol.Symbol.{Symbol}
use Rattle.vpg_parts.specs.Symbols.{IsSpelled}
use Rattle.vpg_written.specs.Translations.{size}
use Rattle.vpg_written.specs.Tasks.{Basis, entry_form}
use Rattle.vpg_written.specs.declared.translation.TranslationFault.{TranslationFault}
use Rattle.vpg_written.specs.declared.translation.TranslationFault.TheVariants as faults

-- the forms are those of this many entries
pub record AreSpelledForms (g : Basis) (count : ℕ) (forms : List (List Symbol)) : Type 0 where
  pub count_is : length forms ≡ count
  pub each : (n : ℕ) → n < count → IsSpelled g.actions (entry_form g n) (slice_index_or forms n [])

-- the form of an entry of this number has too many parts
pub record HasLongForm (g : Basis) (n : ℕ) : Type 0 where
  pub below : n < length g.entries
  pub many : 65536 < size (entry_form g n)

abbrev pub IsTooLongForm : Basis → TranslationFault → Type 0
IsTooLongForm g (faults.TooManyParts n) = HasLongForm g n
IsTooLongForm g faults.Memory = Unit {0}

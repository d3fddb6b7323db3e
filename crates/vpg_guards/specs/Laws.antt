-- Statements of the laws.
use Rattle.std.specs.Prelude.{◌≡◌, ℕ, ◌⊎◌, ◌↔◌, List, length, Contains, slice_index_or, Bool, ◌&&◌, ◌||◌, if◌then◌else◌}
use Rattle.vpg_guards.specs.declared.tri.Tri.{Tri}
use Rattle.vpg_guards.specs.declared.tri.Tri.TheVariants.{No, Unknown, Yes}
use Rattle.vpg_guards.specs.Formula.{Formula, Parts, all, any, no_parts, part, truth, named, IsBelow}
use Rattle.vpg_guards.specs.Known.{kleene, tri_and, tri_or, Agrees, IsCompletion, IsFinerValue, IsFiner, AreAllKnown}
use Rattle.vpg_features.specs.Names.{AreNames}
use Rattle.vpg_guards.specs.Grammar.{Spells, both, either}
use Rattle.vpg_guards.specs.Writing.{guard_text, IsReadable}

-- a value that is known holds in each set that agrees with what is known
abbrev pub KnownValuesHold : Type 0
KnownValuesHold =
    (known : List Tri) (set : List Bool) (g : Formula) → IsCompletion known set → Agrees (kleene known g) (truth set g)

-- knowing more keeps the value, if there was one
abbrev pub FinerValuesRefine : Type 0
FinerValuesRefine =
    (known more : List Tri) (g : Formula) → IsFiner known more → IsFinerValue (kleene known g) (kleene more g)

-- if every feature is known, so is the truth of each guard
abbrev pub FullValuesDecide : Type 0
FullValuesDecide =
    (n : ℕ) (known : List Tri) (set : List Bool) (g : Formula) → AreAllKnown n known → IsCompletion known set →
    IsBelow n g →
    kleene known g ≡ (if truth set g then Yes else No)

-- the value depends only on the features that the guard names
abbrev pub ValuesRestOnNamedFeatures : Type 0
ValuesRestOnNamedFeatures = (known other : List Tri) (g : Formula) →
    ((f : ℕ) → Contains (named g) f → slice_index_or known f Unknown ≡ slice_index_or other f Unknown) →
    kleene known g ≡ kleene other g

-- a text spells one guard at most
abbrev pub TextsSpellOneGuard : Type 0
TextsSpellOneGuard =
    (names : List (List ℕ)) (text : List ℕ) (g h : Formula) → AreNames names → Spells names text g →
    Spells names text h → g ≡ h

-- the text that is written spells the guard
abbrev pub WritingsSpellTheGuard : Type 0
WritingsSpellTheGuard =
    (names : List (List ℕ)) (g : Formula) → IsReadable (length names) g → Spells names (guard_text names g) g

-- a guard that a text spells can be written and read again
abbrev pub SpelledGuardsAreReadable : Type 0
SpelledGuardsAreReadable =
    (names : List (List ℕ)) (text : List ℕ) (g : Formula) → Spells names text g → IsReadable (length names) g

-- the `or` of two guards that can be written and read again can be, too
abbrev pub DisjunctionsAreReadable : Type 0
DisjunctionsAreReadable = (n : ℕ) (g h : Formula) → IsReadable n g → IsReadable n h → IsReadable n (either g h)

-- the `and` of two guards is true if both are, the `or` if one is; likewise their values
pub record MeanBoth (set : List Bool) (known : List Tri) (g h : Formula) : Type 0 where
  pub both_true : truth set (both g h) ≡ (truth set g && truth set h)
  pub either_true : truth set (either g h) ≡ (truth set g || truth set h)
  pub both_known : kleene known (both g h) ≡ tri_and (kleene known g) (kleene known h)
  pub either_known : kleene known (either g h) ≡ tri_or (kleene known g) (kleene known h)

-- The `and` and the `or` of two guards have the truth and the three-valued value of both.
abbrev pub JoinedGuardsMeanBoth : Type 0
JoinedGuardsMeanBoth = (set : List Bool) (known : List Tri) (g h : Formula) → MeanBoth set known g h

-- some part has the value; each part has it
abbrev pub SomeHas : List Tri → Tri → Parts → Type 0
SomeHas known t no_parts = ⊥
SomeHas known t (part g gs) = (kleene known g ≡ t) ⊎ SomeHas known t gs

abbrev pub EachHas : List Tri → Tri → Parts → Type 0
EachHas known t no_parts = Unit {0}
EachHas known t (part g gs) = (kleene known g ≡ t) × EachHas known t gs

-- an `and` is No if a part is No and Yes if all are Yes; an `or` is Yes if a part is Yes and No if all are No
pub record ValueOfParts (known : List Tri) (gs : Parts) : Type 0 where
  pub all_no : (kleene known (all gs) ≡ No) ↔ SomeHas known No gs
  pub all_yes : (kleene known (all gs) ≡ Yes) ↔ EachHas known Yes gs
  pub any_yes : (kleene known (any gs) ≡ Yes) ↔ SomeHas known Yes gs
  pub any_no : (kleene known (any gs) ≡ No) ↔ EachHas known No gs

-- The value of an `and` or an `or` follows from those of its parts.
abbrev pub PartsDecideTheValue : Type 0
PartsDecideTheValue = (known : List Tri) (gs : Parts) → ValueOfParts known gs

-- The symbols of normal forms in one list, and the part of each. This project's own.
use Rattle.std.specs.Prelude.{◌≡◌, ℕ, suc, ◌+◌, ◌<◌, Option, Some, None, List, [], ◌∷◌, length, slice_index, slice_index_or}
use Rattle.std.specs.List.{flat_map}
use Rattle.vpg_parts.specs.declared.symbol.Symbol.{Symbol}
use Rattle.vpg_parts.specs.declared.symbol.Symbol.TheVariants.{True, False, And, Or, SomeStep, EveryStep, Fixpoint, Variable}
use Rattle.vpg_parts.specs.declared.part.Part.{Part}
use Rattle.vpg_parts.specs.declared.part.Part.TheVariants as part
use Rattle.vpg_parts.specs.Parts.{part_at}

-- the symbols of all normal forms, after `true` and `false`
abbrev pub all_symbols : List (List Symbol) → List Symbol
all_symbols forms = True ∷ False ∷ flat_map (λ ss. ss) forms

-- the places at which they begin, from this one on
abbrev pub starts_from : ℕ → List (List Symbol) → List ℕ
starts_from k [] = []
starts_from k (ss ∷ forms) = k ∷ starts_from (k + length ss) forms

-- the variable of a fixpoint; `false`, if there is none
abbrev pub variable_of : Option ℕ → Part
variable_of None = part.False
variable_of (Some m) = part.Variable m

-- the part at the place of a symbol
abbrev pub part_of : List ℕ → List (Option ℕ) → List ℕ → ℕ → Symbol → Part
part_of sizes fixpoints priorities k True = part.True
part_of sizes fixpoints priorities k False = part.False
part_of sizes fixpoints priorities k And = part.And (suc k) (suc k + slice_index sizes (suc k))
part_of sizes fixpoints priorities k Or = part.Or (suc k) (suc k + slice_index sizes (suc k))
part_of sizes fixpoints priorities k (SomeStep x) = part.SomeStep x (suc k)
part_of sizes fixpoints priorities k (EveryStep x) = part.EveryStep x (suc k)
part_of sizes fixpoints priorities k (Fixpoint kind) = part.Fixpoint kind (slice_index priorities k) (suc k)
part_of sizes fixpoints priorities k (Variable i) = variable_of (slice_index_or fixpoints k None)

-- the part of each symbol
pub record AreParts (symbols : List Symbol) (sizes : List ℕ) (fixpoints : List (Option ℕ)) (priorities : List ℕ)
    (parts : List Part) : Type 0 where
  pub count : length parts ≡ length symbols
  pub each : (k : ℕ) → k < length symbols →
      part_at parts k ≡ part_of sizes fixpoints priorities k (slice_index_or symbols k True)

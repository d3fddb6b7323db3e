-- The priorities of fixpoints, by places: over the variables of a fixpoint and the fixpoints between. This project's
-- own.
use Rattle.std.specs.Prelude.{◌≡◌, ℕ, zero, suc, ◌+◌, ◌<◌, ◌≤◌, max, Option, Some, None, List, [], ◌∷◌, length, slice_index, slice_index_or, nat_lt, ◌==◌, if◌then◌else◌}
use Rattle.vpg_requirement.specs.Priorities.{next_priority}
use Rattle.vpg_parts.specs.declared.symbol.Symbol.{Symbol}
use Rattle.vpg_parts.specs.declared.symbol.Symbol.TheVariants.{True, False, And, Or, SomeStep, EveryStep, Fixpoint, Variable}
use Rattle.vpg_parts.specs.Parts.{kind_of}

-- the greatest priority of a fixpoint after a place, from one outwards, over at most this many
abbrev pub crossed : List (Option ℕ) → List ℕ → ℕ → ℕ → Option ℕ → ℕ
crossed scopes priorities low zero from = 0
crossed scopes priorities low (suc n) None = 0
crossed scopes priorities low (suc n) (Some k) = if nat_lt low k then
    max (slice_index priorities k) (crossed scopes priorities low n (slice_index_or scopes k None)) else 0

-- the number, if this is the fixpoint
abbrev pub if_names : ℕ → ℕ → Option ℕ → ℕ
if_names m n None = 0
if_names m n (Some k) = if k == m then n else 0

-- the share of the symbol at a place in a fixpoint's priority: for its variable, the greatest of those between the two
abbrev pub share_of : List (Option ℕ) → List (Option ℕ) → List ℕ → ℕ → ℕ → ℕ
share_of scopes fixpoints priorities m k =
    if_names m (crossed scopes priorities m k (slice_index_or scopes k None)) (slice_index_or fixpoints k None)

-- the greatest of the shares of this many symbols, from a place on
abbrev pub greatest_share : List (Option ℕ) → List (Option ℕ) → List ℕ → ℕ → ℕ → ℕ → ℕ
greatest_share scopes fixpoints priorities m from zero = 0
greatest_share scopes fixpoints priorities m from (suc n) =
    max (greatest_share scopes fixpoints priorities m from n) (share_of scopes fixpoints priorities m (from + n))

-- the places, with this one before them if a fixpoint is named there
abbrev pub noted : Option ℕ → ℕ → List ℕ → List ℕ
noted None k places = places
noted (Some m) k places = k ∷ places

-- the places at which fixpoints are named, among this many from one on
abbrev pub named_from : List (Option ℕ) → ℕ → ℕ → List ℕ
named_from fixpoints from zero = []
named_from fixpoints from (suc n) = noted (slice_index_or fixpoints from None) from (named_from fixpoints (suc from) n)

-- the priority of a fixpoint, from those after it
abbrev pub priority_of : List ℕ → List (Option ℕ) → List (Option ℕ) → List ℕ → ℕ → Symbol → ℕ
priority_of sizes scopes fixpoints priorities k True = 0
priority_of sizes scopes fixpoints priorities k False = 0
priority_of sizes scopes fixpoints priorities k And = 0
priority_of sizes scopes fixpoints priorities k Or = 0
priority_of sizes scopes fixpoints priorities k (SomeStep x) = 0
priority_of sizes scopes fixpoints priorities k (EveryStep x) = 0
priority_of sizes scopes fixpoints priorities k (Fixpoint kind) = next_priority (kind_of kind)
    (greatest_share scopes fixpoints priorities k (suc k) (slice_index sizes (suc k)))
priority_of sizes scopes fixpoints priorities k (Variable i) = 0

-- the priority of each fixpoint from a place on
pub record ArePriorities (symbols : List Symbol) (sizes : List ℕ) (scopes fixpoints : List (Option ℕ))
    (priorities : List ℕ) (from : ℕ) : Type 0 where
  pub count : length priorities ≡ length symbols
  pub each : (k : ℕ) → from ≤ k → k < length symbols → slice_index priorities k ≡
      priority_of sizes scopes fixpoints priorities k (slice_index_or symbols k True)

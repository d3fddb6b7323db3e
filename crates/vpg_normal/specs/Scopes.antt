-- The fixpoints that the symbols of normal forms stand in, by their places. This project's own.
use Rattle.std.specs.Prelude.{◌≡◌, ℕ, zero, suc, ◌<◌, Option, Some, None, List, [], ◌∷◌, length, drop, slice_index_or}
use Rattle.vpg_parts.specs.declared.symbol.Symbol.{Symbol}
use Rattle.vpg_parts.specs.declared.symbol.Symbol.TheVariants.{True, False, And, Or, SomeStep, EveryStep, Fixpoint, Variable}

-- the scope of the operand that comes next: its innermost fixpoint; none, if no operand is awaited
abbrev pub next_scope : List (Option ℕ) → Option ℕ
next_scope [] = None
next_scope (scope ∷ awaited) = scope

-- the scopes of the operands that are awaited, next one first, after this symbol at this place
abbrev pub operands_of : Symbol → ℕ → Option ℕ → List (Option ℕ) → List (Option ℕ)
operands_of True k scope awaited = awaited
operands_of False k scope awaited = awaited
operands_of And k scope awaited = scope ∷ scope ∷ awaited
operands_of Or k scope awaited = scope ∷ scope ∷ awaited
operands_of (SomeStep x) k scope awaited = scope ∷ awaited
operands_of (EveryStep x) k scope awaited = scope ∷ awaited
operands_of (Fixpoint kind) k scope awaited = Some k ∷ awaited
operands_of (Variable i) k scope awaited = awaited

-- the scope of each symbol, from this place on
abbrev pub scopes_from : List Symbol → ℕ → List (Option ℕ) → List (Option ℕ)
scopes_from [] k awaited = []
scopes_from (s ∷ ss) k awaited =
    next_scope awaited ∷ scopes_from ss (suc k) (operands_of s k (next_scope awaited) (drop 1 awaited))

-- the fixpoint that is this many others further out, from one outwards
abbrev pub walked : List (Option ℕ) → ℕ → Option ℕ → Option ℕ
walked scopes zero from = from
walked scopes (suc n) None = None
walked scopes (suc n) (Some k) = walked scopes n (slice_index_or scopes k None)

-- the fixpoint that a variable names, in its scope
abbrev pub fixpoint_of : List (Option ℕ) → Option ℕ → Symbol → Option ℕ
fixpoint_of scopes scope True = None
fixpoint_of scopes scope False = None
fixpoint_of scopes scope And = None
fixpoint_of scopes scope Or = None
fixpoint_of scopes scope (SomeStep x) = None
fixpoint_of scopes scope (EveryStep x) = None
fixpoint_of scopes scope (Fixpoint kind) = None
fixpoint_of scopes scope (Variable i) = walked scopes i scope

-- the fixpoint that each variable names
pub record AreFixpoints (symbols : List Symbol) (scopes fixpoints : List (Option ℕ)) : Type 0 where
  pub count : length fixpoints ≡ length symbols
  pub each : (k : ℕ) → k < length symbols → slice_index_or fixpoints k None ≡
      fixpoint_of scopes (slice_index_or scopes k None) (slice_index_or symbols k True)

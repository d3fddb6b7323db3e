-- The number of symbols of each operand. This project's own.
use Rattle.std.specs.Prelude.{ℕ, suc, ◌+◌, List, [], ◌∷◌, slice_index}
use Rattle.vpg_parts.specs.declared.symbol.Symbol.{Symbol}
use Rattle.vpg_parts.specs.declared.symbol.Symbol.TheVariants.{True, False, And, Or, SomeStep, EveryStep, Fixpoint, Variable}

-- the size of the operand that begins with this symbol, from the sizes of those that begin after it
abbrev pub size_of : Symbol → List ℕ → ℕ
size_of True behind = 1
size_of False behind = 1
size_of And behind = suc (slice_index behind 0 + slice_index behind (slice_index behind 0))
size_of Or behind = suc (slice_index behind 0 + slice_index behind (slice_index behind 0))
size_of (SomeStep x) behind = suc (slice_index behind 0)
size_of (EveryStep x) behind = suc (slice_index behind 0)
size_of (Fixpoint kind) behind = suc (slice_index behind 0)
size_of (Variable i) behind = 1

-- the size of the operand that begins at each symbol
abbrev pub sizes_of : List Symbol → List ℕ
sizes_of [] = []
sizes_of (s ∷ ss) = size_of s (sizes_of ss) ∷ sizes_of ss

-- Guards with a three-valued value that is known as early as it can be, as that of a supervaluation is (van Fraassen,
-- Singular Terms, Truth-Value Gaps, and Free Logic, 1966).
use Rattle.std.specs.Prelude.{◌≡◌, ℕ, ◌<◌, List, length, Bool, slice_index_or}
use Rattle.vpg_guards.specs.declared.tri.Tri.{Tri}
use Rattle.vpg_guards.specs.Formula.{Formula}
use Rattle.vpg_guards.specs.Known.{kleene}
use Rattle.vpg_blake.specs.Blake.{IsCertain, tri_of}

-- The guard's three-valued value is known wherever all sets that agree with what is known agree on the guard.
abbrev pub IsSharp : Formula → Type 0
IsSharp g = (known : List Tri) (b : Bool) → IsCertain known g b → kleene known g ≡ tri_of b

-- no number occurs twice
abbrev pub AreDifferent : List ℕ → Type 0
AreDifferent xs = (i j : ℕ) → i < j → j < length xs → slice_index_or xs i 0 ≡ slice_index_or xs j 0 → ⊥

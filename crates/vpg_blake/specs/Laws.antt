-- Prime implicants, and the law that splitting gives all of them. Quine, A Way to Simplify Truth Functions, 1955.
use Rattle.std.specs.Prelude.{◌≡◌, ℕ, ◌<◌, List, length, Bool, true, false, All, Contains, remove, slice_index_or}
use Rattle.vpg_guards.specs.Formula.{Formula, truth, IsBelow}
use Rattle.vpg_blake.specs.Blake.{Cube, prime_implicants}

-- each literal of the cube is true in the set
abbrev pub CubeHolds : List Bool → Cube → Type 0
CubeHolds set c = All (λ l. slice_index_or set l.feature false ≡ l.value) c

-- if the cube holds, the guard is true
abbrev pub IsImplicant : Formula → Cube → Type 0
IsImplicant g c = (set : List Bool) → CubeHolds set c → truth set g ≡ true

-- an implicant that needs each of its literals
pub record IsPrime (g : Formula) (c : Cube) : Type 0 where
  pub implicant : IsImplicant g c
  pub least : (k : ℕ) → k < length c → IsImplicant g (remove c k) → ⊥

-- each literal of the first cube is one of the second's
abbrev pub IsPart : Cube → Cube → Type 0
IsPart d c = All (Contains c) d

-- Each cube of the list is a prime implicant, and each implicant that holds in some set contains a cube of the list. So
-- each prime implicant is in the list, but for the order of its literals.
pub record ArePrimeImplicants (n : ℕ) (g : Formula) : Type 0 where
  pub primes : All (IsPrime g) (prime_implicants n g)
  pub whole :
      (c : Cube) (set : List Bool) → CubeHolds set c → IsImplicant g c →
      (d : Cube) × Contains (prime_implicants n g) d × IsPart d c

-- splitting gives the prime implicants
abbrev pub SplittingGivesPrimes : Type 0
SplittingGivesPrimes = (n : ℕ) (g : Formula) → IsBelow n g → ArePrimeImplicants n g

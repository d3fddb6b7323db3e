-- The words of guards.
use Rattle.std.proofs.Common.{◌≡◌, ℕ, List, Bool, ◌&&◌, ◌||◌}
use Rattle.vpg_zielonka.specs.Words.{Fits, IsListed, in_word}

-- how far a loop has come that keeps what passes each test, or collects what passes some test
pub record IsAndSoFar (qs : List (List Bool)) (made : ℕ) (whole rest : List Bool → Bool) : Type 0 where
  pub inside : Fits qs made
  pub each : (p : List Bool) → IsListed qs p → whole p ≡ (in_word qs made p && rest p)

pub record IsOrSoFar (qs : List (List Bool)) (made : ℕ) (whole rest : List Bool → Bool) : Type 0 where
  pub inside : Fits qs made
  pub each : (p : List Bool) → IsListed qs p → whole p ≡ (in_word qs made p || rest p)

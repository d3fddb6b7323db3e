-- The parts of a ledger that sessions have.
use Rattle.std.proofs.Common.{◌≡◌, ℕ, zero, suc, ◌+◌, ◌*◌, ◌≤◌, ap, arith, add-one}
use Rattle.vpg_office.specs.Token.{up_to}

pub up_to-next : (n : ℕ) → up_to (n + 1) ≡ n + 1 + up_to n
up_to-next n = omega (arith, ap up_to (add-one n))

some : (n : ℕ) → n ≤ 1024 → up_to n ≤ 1024 * n
some zero low = omega arith
some (suc n) low = let h = some n (omega (arith, low)) in omega (arith, h, low)

-- 1,024 sessions and 1,048,576 tokens leave a part over
pub few_parts : (n : ℕ) → n ≤ 1024 → up_to n ≤ 1048576
few_parts n low = omega (arith, some n low, low)

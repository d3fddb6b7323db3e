-- Bits of words as tests.
use Rattle.std.proofs.Common.{◌≡◌, ℕ, zero, suc, ◌+◌, ◌-◌, ◌*◌, ◌/◌, ◌%◌, ◌^◌, ◌<◌, ◌⊎◌, inl, inr, Bool, true, false, ◌&&◌, ◌||◌, not, cond, min, max, refl, sym, ◌∙◌, ap, subst, arith, w64}
use Rattle.std.specs.Prelude.{◌==◌, bit_and, bit_or}
use Rattle.std.specs.Int.{bit_at, bit_not}
use Rattle.std.proofs.lemmas.Bool.{eq-eqb, ne_eqb}
use Rattle.std.proofs.lemmas.Nat.Bits.{bit_at_and, bit_at_or, bit_at_not, bit_at-lt, bit_at-zero, bit_at-suc, bit_at_ones}
use Rattle.vpg_zielonka.specs.Words.{odd, bit}

-- ---- digits

two_cases : (x : ℕ) → x < 2 → (x ≡ 0) ⊎ (x ≡ 1)
two_cases zero l = inl refl
two_cases (suc zero) l = inr refl
two_cases (suc (suc x)) l = absurd (omega arith)

-- what holds of both digits holds of each
by_digits : (P : ℕ → Type 0) → P 0 → P 1 → (x : ℕ) → x < 2 → P x
by_digits P none one x l = of (two_cases x l)
  where
    of : (x ≡ 0) ⊎ (x ≡ 1) → P x
    of (inl e) = subst P (sym e) none
    of (inr e) = subst P (sym e) one

min_digits : (x y : ℕ) → x < 2 → y < 2 → (min x y == 1) ≡ ((x == 1) && (y == 1))
min_digits x y l k = by_digits (λ a. (min a y == 1) ≡ ((a == 1) && (y == 1)))
    (by_digits (λ b. (min 0 b == 1) ≡ ((0 == 1) && (b == 1))) refl refl y k)
    (by_digits (λ b. (min 1 b == 1) ≡ ((1 == 1) && (b == 1))) refl refl y k) x l

max_digits : (x y : ℕ) → x < 2 → y < 2 → (max x y == 1) ≡ ((x == 1) || (y == 1))
max_digits x y l k = by_digits (λ a. (max a y == 1) ≡ ((a == 1) || (y == 1)))
    (by_digits (λ b. (max 0 b == 1) ≡ ((0 == 1) || (b == 1))) refl refl y k)
    (by_digits (λ b. (max 1 b == 1) ≡ ((1 == 1) || (b == 1))) refl refl y k) x l

other_digit : (x : ℕ) → x < 2 → (1 - x == 1) ≡ not (x == 1)
other_digit x l = by_digits (λ a. (1 - a == 1) ≡ not (a == 1)) refl refl x l

-- ---- operations

pub bit_of_and : (a b i : ℕ) → bit (bit_and a b) i ≡ (bit a i && bit b i)
bit_of_and a b i = ap (λ n. n == 1) (bit_at_and a b i)
    ∙ min_digits (bit_at a i) (bit_at b i) (bit_at-lt a i) (bit_at-lt b i)

pub bit_of_or : (a b i : ℕ) → bit (bit_or a b) i ≡ (bit a i || bit b i)
bit_of_or a b i = ap (λ n. n == 1) (bit_at_or a b i)
    ∙ max_digits (bit_at a i) (bit_at b i) (bit_at-lt a i) (bit_at-lt b i)

pub bit_of_not : (a i : ℕ) → a < 2 ^ 64 → i < 64 → bit (bit_not w64 a) i ≡ not (bit a i)
bit_of_not a i fits inside = ap (λ n. n == 1) (bit_at_not w64 a i fits inside)
    ∙ other_digit (bit_at a i) (bit_at-lt a i)

pub bit_of_zero : (i : ℕ) → bit 0 i ≡ false
bit_of_zero i = ap (λ n. n == 1) (bit_at-zero i)

pub bit_of_all : (all k i : ℕ) → all + 1 ≡ 2 ^ k → i < k → bit all i ≡ true
bit_of_all all k i whole inside = ap (λ n. bit n i) same ∙ ap (λ n. n == 1) (bit_at_ones k i inside)
  where
    same : all ≡ 2 ^ k - 1
    same = omega (arith, whole)

-- ---- the lowest bit

pub odd_of : (word : ℕ) (b : Bool) → odd (word * 2 + cond b 1 0) ≡ b
odd_of word true = eq-eqb ((word * 2 + 1) % 2) 1 (omega arith)
odd_of word false = ne_eqb ((word * 2 + 0) % 2) 1 (λ e. omega (arith, e))

pub half_of : (word : ℕ) (b : Bool) → (word * 2 + cond b 1 0) / 2 ≡ word
half_of word true = omega arith
half_of word false = omega arith

pub bit_first : (word : ℕ) → bit word 0 ≡ odd word
bit_first word = ap odd (half word)
  where
    half : (n : ℕ) → n / 2 ^ 0 ≡ n
    half n = omega arith

pub bit_later : (word i : ℕ) → bit word (suc i) ≡ bit (word / 2) i
bit_later word i = ap (λ n. n == 1) (bit_at-suc word i)

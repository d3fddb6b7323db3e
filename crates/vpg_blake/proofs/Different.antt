-- Numbers of which none stands twice.
use Rattle.std.proofs.Common.{◌≡◌, ◌≢◌, ℕ, zero, suc, ◌+◌, ◌<◌, ◌≤◌, ◌⊎◌, inl, inr, Bool, true, false, List, [], ◌∷◌, length, get_or, take, refl, sym, ap, subst, ◌∙◌, arith}
use Rattle.std.specs.Prelude.{nat_eq}
use Rattle.std.specs.List.{list_any}
use Rattle.std.proofs.lemmas.Bool.{cases_lt}
use Rattle.vpg_blake.specs.Sharp.{AreDifferent}
use Rattle.vpg_blake.proofs.Primes.{EachNumber, Apart}
use Rattle.vpg_blake.proofs.Named.{Among, among_any, any_among}

-- those before this place differ
abbrev pub DifferentBefore : ℕ → List ℕ → Type 0
DifferentBefore n xs = (i j : ℕ) → i < j → j < n → get_or xs i 0 ≡ get_or xs j 0 → ⊥

pub none_before : (xs : List ℕ) → DifferentBefore 0 xs
none_before xs i j less lt e = omega (arith, lt)

among_take : (xs : List ℕ) (n i : ℕ) → i < n → n ≤ length xs → Among (get_or xs i 0) (take n xs)
among_take [] n i lt le = absurd (omega (arith, lt, le))
among_take (x ∷ xs) zero i lt le = absurd (omega (arith, lt))
among_take (x ∷ xs) (suc n) zero lt le = inl refl
among_take (x ∷ xs) (suc n) (suc i) lt le = inr (among_take xs n i (omega (arith, lt)) (omega (arith, le)))

taken : (xs : List ℕ) (n y : ℕ) → Among y (take n xs) → (k : ℕ) × (k < n) × (get_or xs k 0 ≡ y)
taken [] zero y h = absurd h
taken [] (suc n) y h = absurd h
taken (x ∷ xs) zero y h = absurd h
taken (x ∷ xs) (suc n) y (inl e) = (0, omega arith, e)
taken (x ∷ xs) (suc n) y (inr h) =
    let r = taken xs n y h in
    (suc r.0, omega (arith, r.1), r.2)

-- one more, which is none of those before
pub one_more : (xs seen : List ℕ) (n x : ℕ) (b : Bool) → seen ≡ take n xs → x ≡ get_or xs n x → n < length xs → b ≡ list_any (λ y. nat_eq y x) seen → b ≡ false → DifferentBefore n xs → DifferentBefore (n + 1) xs
one_more xs seen n x b same at within is f h i j less lt e = decide (cases_lt j n)
  where
    clash : list_any (λ y. nat_eq y x) (take n xs) ≡ true → ⊥
    clash t =
        let u : list_any (λ y. nat_eq y x) (take n xs) ≡ false = ap (list_any (λ y. nat_eq y x)) (sym same) ∙ sym is ∙ f in
        cc

    decide : (j < n) ⊎ (n ≤ j) → ⊥
    decide (inl before) = h i j less before e
    decide (inr behind) =
        let here : j ≡ n = omega (arith, lt, behind) in
        let earlier : i < n = omega (arith, less, here) in
        let value : get_or xs i 0 ≡ x = e ∙ ap (λ (k : ℕ). get_or xs k 0) here ∙ found xs n x within at in
        clash (among_any x (take n xs) (subst (λ (y : ℕ). Among y (take n xs)) value (among_take xs n i earlier (omega (arith, within)))))
      where
        found : (ys : List ℕ) (k y : ℕ) → k < length ys → y ≡ get_or ys k y → get_or ys k 0 ≡ y
        found [] k y l e = absurd (omega (arith, l))
        found (z ∷ ys) zero y l e = sym e
        found (z ∷ ys) (suc k) y l e = found ys k y (omega (arith, l)) e

-- one that stands before
pub twice : (xs seen : List ℕ) (n x : ℕ) (b : Bool) → seen ≡ take n xs → x ≡ get_or xs n x → n < length xs → b ≡ list_any (λ y. nat_eq y x) seen → b ≡ true → AreDifferent xs → ⊥
twice xs seen n x b same at within is t h =
    let r = taken xs n x (subst (Among x) same (any_among x seen (sym is ∙ t))) in
    h r.0 n r.1 within (r.2 ∙ sym (found xs n x within at))
  where
    found : (ys : List ℕ) (k y : ℕ) → k < length ys → y ≡ get_or ys k y → get_or ys k 0 ≡ y
    found [] k y l e = absurd (omega (arith, l))
    found (z ∷ ys) zero y l e = sym e
    found (z ∷ ys) (suc k) y l e = found ys k y (omega (arith, l)) e

pub all_before : (xs : List ℕ) (n : ℕ) → length xs ≤ n → DifferentBefore n xs → AreDifferent xs
all_before xs n le h i j less lt e = h i j less (omega (arith, lt, le)) e

-- the same by recursion
pub apart_from_different : (xs : List ℕ) → AreDifferent xs → Apart xs
apart_from_different [] h = tt
apart_from_different (x ∷ xs) h = (
  lacking xs (λ k lt e. h 0 (suc k) (omega arith) (omega (arith, lt)) (sym e)),
  apart_from_different xs (λ i j less lt e. h (suc i) (suc j) (omega (arith, less)) (omega (arith, lt)) e),
)
  where
    lacking : (ys : List ℕ) → ((k : ℕ) → k < length ys → get_or ys k 0 ≡ x → ⊥) → EachNumber (λ y. y ≢ x) ys
    lacking [] h = tt
    lacking (y ∷ ys) h = (h 0 (omega arith), lacking ys (λ k lt e. h (suc k) (omega (arith, lt)) e))

-- The features that a guard names, as an ascending list.
use Rattle.std.proofs.Common.{◌≡◌, ◌≢◌, ℕ, zero, suc, ◌+◌, ◌<◌, ◌≤◌, Bool, true, false, List, [], ◌∷◌, ◌++◌, length, refl, ap, ap₂, subst, ◌∙◌, arith, inl, inr, ◌⊎◌}
use Rattle.std.proofs.lemmas.Bool.Decides.{Decides-eqb}
use Rattle.std.specs.Prelude.{not, ◌&&◌, ◌||◌, filter, nat_eq, Contains, slice_index_or}
use Rattle.std.specs.List.{list_any, range_with_len}
use Rattle.vpg_guards.specs.Formula.{Formula, Parts, always, never, feature, negation, all, any, no_parts, part, truth, all_true, any_true, named, named_by, IsBelow, AreBelow}
use Rattle.vpg_blake.specs.Blake.{named_below}
use Rattle.vpg_blake.proofs.Primes.{EachNumber, Apart}

-- a number of a list
abbrev pub Among : ℕ → List ℕ → Type 0
Among y [] = ⊥
Among y (x ∷ xs) = (x ≡ y) ⊎ Among y xs

pub number_weaker : (P Q : ℕ → Type 0) → ((x : ℕ) → P x → Q x) → (xs : List ℕ) → EachNumber P xs → EachNumber Q xs
number_weaker P Q f [] h = tt
number_weaker P Q f (x ∷ xs) h = (f x h.0, number_weaker P Q f xs h.1)

pub number_append : (P : ℕ → Type 0) (xs ys : List ℕ) → EachNumber P xs → EachNumber P ys → EachNumber P (xs ++ ys)
number_append P [] ys h k = k
number_append P (x ∷ xs) ys h k = (h.0, number_append P xs ys h.1 k)

pub number_left : (P : ℕ → Type 0) (xs ys : List ℕ) → EachNumber P (xs ++ ys) → EachNumber P xs
number_left P [] ys h = tt
number_left P (x ∷ xs) ys h = (h.0, number_left P xs ys h.1)

pub number_right : (P : ℕ → Type 0) (xs ys : List ℕ) → EachNumber P (xs ++ ys) → EachNumber P ys
number_right P [] ys h = h
number_right P (x ∷ xs) ys h = number_right P xs ys h.1

pub number_itself : (xs : List ℕ) → EachNumber (λ x. Among x xs) xs
number_itself [] = tt
number_itself (x ∷ xs) = (inl refl, number_weaker (λ y. Among y xs) (λ y. Among y (x ∷ xs)) (λ y h. inr h) xs (number_itself xs))

pub contained : (P : ℕ → Type 0) (xs : List ℕ) (x k : ℕ) → EachNumber P xs → k < length xs → slice_index_or xs k x ≡ x → P x
contained P [] x k h lt e = absurd (omega arith)
contained P (y ∷ ys) x zero h lt e = subst P e h.0
contained P (y ∷ ys) x (suc k) h lt e = contained P ys x k h.1 (omega arith) e

pub contains_from_among : (x : ℕ) (xs : List ℕ) → Among x xs → Contains xs x
contains_from_among x [] h = absurd h
contains_from_among x (y ∷ ys) (inl e) = (0, omega arith, e)
contains_from_among x (y ∷ ys) (inr h) =
    let k = contains_from_among x ys h in
    (suc k.0, omega (arith, k.1), k.2)

-- ---- filters

pub among_any : (y : ℕ) (xs : List ℕ) → Among y xs → list_any (λ h. nat_eq h y) xs ≡ true
among_any y [] h = absurd h
among_any y (x ∷ xs) (inl e) = rw ((Decides-eqb x y).1 e) refl
among_any y (x ∷ xs) (inr h) = at (nat_eq x y) (among_any y xs h)
  where
    at : (b : Bool) → list_any (λ h. nat_eq h y) xs ≡ true → (b || list_any (λ h. nat_eq h y) xs) ≡ true
    at true e = refl
    at false e = e

pub any_among : (y : ℕ) (xs : List ℕ) → list_any (λ h. nat_eq h y) xs ≡ true → Among y xs
any_among y [] e = absurd cc
any_among y (x ∷ xs) e = at (nat_eq x y) refl (any_among y xs) e
  where
    at : (b : Bool) → nat_eq x y ≡ b → (list_any (λ h. nat_eq h y) xs ≡ true → Among y xs) → (b || list_any (λ h. nat_eq h y) xs) ≡ true → Among y (x ∷ xs)
    at true is rest e = inl ((Decides-eqb x y).0 is)
    at false is rest e = inr (rest e)

among_filter : (test : ℕ → Bool) (y : ℕ) (xs : List ℕ) → Among y xs → test y ≡ true → Among y (filter test xs)
among_filter test y [] h t = absurd h
among_filter test y (x ∷ xs) (inl e) t =
    let here : test x ≡ true = ap test e ∙ t in
    rw here (inl e)
among_filter test y (x ∷ xs) (inr h) t = at (test x) refl (among_filter test y xs h t)
  where
    at : (b : Bool) → test x ≡ b → Among y (filter test xs) → Among y (filter test (x ∷ xs))
    at true e k = rw e (inr k)
    at false e k = rw e k

each_filtered : (test : ℕ → Bool) (P : ℕ → Type 0) (xs : List ℕ) → EachNumber P xs → EachNumber P (filter test xs)
each_filtered test P [] h = tt
each_filtered test P (x ∷ xs) h = at (test x) refl (each_filtered test P xs h.1)
  where
    at : (b : Bool) → test x ≡ b → EachNumber P (filter test xs) → EachNumber P (filter test (x ∷ xs))
    at true e k = rw e (h.0, k)
    at false e k = rw e k

each_passes : (test : ℕ → Bool) (xs : List ℕ) → EachNumber (λ x. test x ≡ true) (filter test xs)
each_passes test [] = tt
each_passes test (x ∷ xs) = at (test x) refl (each_passes test xs)
  where
    at : (b : Bool) → test x ≡ b → EachNumber (λ x. test x ≡ true) (filter test xs) → EachNumber (λ x. test x ≡ true) (filter test (x ∷ xs))
    at true e k = rw e (e, k)
    at false e k = rw e k

-- ---- ranges

from_first : (n a : ℕ) → EachNumber (λ y. (a ≤ y) × (y < a + n)) (range_with_len a n)
from_first zero a = tt
from_first (suc n) a = (
  (omega arith, omega arith),
  number_weaker (λ y. (a + 1 ≤ y) × (y < a + 1 + n)) (λ y. (a ≤ y) × (y < a + suc n)) (λ y h. (omega (arith, h.0), omega (arith, h.1)))
      (range_with_len (a + 1) n) (from_first n (a + 1)),
)

apart_range : (test : ℕ → Bool) (n a : ℕ) → Apart (filter test (range_with_len a n))
apart_range test zero a = tt
apart_range test (suc n) a = at (test a) refl (apart_range test n (a + 1))
  where
    at : (b : Bool) → test a ≡ b → Apart (filter test (range_with_len (a + 1) n)) → Apart (filter test (range_with_len a (suc n)))
    at true e k =
        rw e (
          each_filtered test (λ y. y ≢ a) (range_with_len (a + 1) n)
              (number_weaker (λ y. (a + 1 ≤ y) × (y < a + 1 + n)) (λ y. y ≢ a) (λ y h same. omega (arith, h.0, same)) (range_with_len (a + 1) n) (from_first n (a + 1))),
          k,
        )
    at false e k = rw e k

among_range : (n a y : ℕ) → a ≤ y → y < a + n → Among y (range_with_len a n)
among_range zero a y le lt = absurd (omega arith)
among_range (suc n) a y le lt = at (nat_eq a y) refl (λ more less. among_range n (a + 1) y more less)
  where
    at : (b : Bool) → nat_eq a y ≡ b → (a + 1 ≤ y → y < a + 1 + n → Among y (range_with_len (a + 1) n)) → Among y (range_with_len a (suc n))
    at true e rest = inl ((Decides-eqb a y).0 e)
    at false e rest =
        let other : a ≢ y = λ same. let is = (Decides-eqb a y).1 same in cc in
        inr (rest (omega arith) (omega arith))

-- ---- the features that a guard names

mutual
  pub names_below : (n : ℕ) (g : Formula) → IsBelow n g → EachNumber (λ y. y < n) (named g)
  names_below n always h = tt
  names_below n never h = tt
  names_below n (feature f) h = (h, tt)
  names_below n (negation g) h = names_below n g h
  names_below n (all gs) h = names_are_below n gs h
  names_below n (any gs) h = names_are_below n gs h

  names_are_below : (n : ℕ) (gs : Parts) → AreBelow n gs → EachNumber (λ y. y < n) (named_by gs)
  names_are_below n no_parts h = tt
  names_are_below n (part g gs) h = number_append (λ y. y < n) (named g) (named_by gs) (names_below n g h.0) (names_are_below n gs h.1)

-- the truth of a guard rests on the features that it names
module _ (s t : List Bool) where
  abbrev pub IsAlikeAt : ℕ → Type 0
  IsAlikeAt y = slice_index_or s y false ≡ slice_index_or t y false

  mutual
    pub truth_alike : (g : Formula) → EachNumber IsAlikeAt (named g) → truth s g ≡ truth t g
    truth_alike always h = refl
    truth_alike never h = refl
    truth_alike (feature f) h = h.0
    truth_alike (negation g) h = ap not (truth_alike g h)
    truth_alike (all gs) h = all_alike gs h
    truth_alike (any gs) h = any_alike gs h

    all_alike : (gs : Parts) → EachNumber IsAlikeAt (named_by gs) → all_true s gs ≡ all_true t gs
    all_alike no_parts h = refl
    all_alike (part g gs) h = ap₂ ◌&&◌ (truth_alike g (number_left IsAlikeAt (named g) (named_by gs) h)) (all_alike gs (number_right IsAlikeAt (named g) (named_by gs) h))

    any_alike : (gs : Parts) → EachNumber IsAlikeAt (named_by gs) → any_true s gs ≡ any_true t gs
    any_alike no_parts h = refl
    any_alike (part g gs) h = ap₂ ◌||◌ (truth_alike g (number_left IsAlikeAt (named g) (named_by gs) h)) (any_alike gs (number_right IsAlikeAt (named g) (named_by gs) h))

module _ (n : ℕ) (g : Formula) where
  pub features_apart : Apart (named_below n g)
  features_apart = apart_range (λ f. list_any (λ h. nat_eq h f) (named g)) n 0

  pub features_below : EachNumber (λ x. x < n) (named_below n g)
  features_below =
      each_filtered (λ f. list_any (λ h. nat_eq h f) (named g)) (λ x. x < n) (range_with_len 0 n)
      (number_weaker (λ y. (0 ≤ y) × (y < 0 + n)) (λ x. x < n) (λ y h. omega (arith, h.1)) (range_with_len 0 n) (from_first n 0))

  pub features_named : EachNumber (λ x. Contains (named g) x) (named_below n g)
  features_named =
      number_weaker (λ f. list_any (λ h. nat_eq h f) (named g) ≡ true) (λ x. Contains (named g) x)
      (λ x e. contains_from_among x (named g) (any_among x (named g) e)) (named_below n g)
      (each_passes (λ f. list_any (λ h. nat_eq h f) (named g)) (range_with_len 0 n))

  -- each feature that the guard names is among them
  pub features_all : IsBelow n g → EachNumber (λ y. Among y (named_below n g)) (named g)
  features_all below = both (named g) (number_itself (named g)) (names_below n g below)
    where
      both : (ys : List ℕ) → EachNumber (λ y. Among y (named g)) ys → EachNumber (λ y. y < n) ys → EachNumber (λ y. Among y (named_below n g)) ys
      both [] h k = tt
      both (y ∷ ys) h k = (
        among_filter (λ f. list_any (λ h. nat_eq h f) (named g)) y (range_with_len 0 n) (among_range n 0 y (omega arith) (omega (arith, k.0)))
            (among_any y (named g) h.0),
        both ys h.1 k.1,
      )

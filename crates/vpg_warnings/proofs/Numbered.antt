-- Numbers of marks.
use Rattle.std.proofs.Common.{◌≡◌, ℕ, zero, suc, ◌+◌, ◌<◌, ◌≤◌, ◌⊎◌, inl, inr, Bool, true, false, List, [], ◌∷◌, ◌++◌, append_assoc, cond, length, get_or, Contains, refl, sym, ap, ◌∙◌, subst, arith}
use Rattle.vpg_diagram.proofs.Lists.{Contains-here, Contains-there, Contains-cons, Contains-nil}
use Rattle.vpg_warnings.specs.Numbers.{numbers_from, AreInOrder}

weaker : (n m : ℕ) (ks : List ℕ) → n ≤ m → AreInOrder m ks → AreInOrder n ks
weaker n m [] l o = tt
weaker n m (k ∷ ks) l o = (omega (arith, l, o.0), o.1)

pub in_order : (n : ℕ) (marks : List Bool) → AreInOrder n (numbers_from n marks)
in_order n [] = tt
in_order n (true ∷ marks) = (omega arith, in_order (suc n) marks)
in_order n (false ∷ marks) = weaker n (suc n) (numbers_from (suc n) marks) (omega arith) (in_order (suc n) marks)

-- a mark that is true, so far behind the first
pub record IsMarkAt (n : ℕ) (marks : List Bool) (s : ℕ) : Type 0 where
  pub place : ℕ
  pub is : s ≡ n + place
  pub within : place < length marks
  pub marked : get_or marks place false ≡ true

next : (n : ℕ) (b : Bool) (marks : List Bool) (s : ℕ) → IsMarkAt (suc n) marks s → IsMarkAt n (b ∷ marks) s
next n b marks s m = record { place = suc m.place; is = omega (arith, m.is); within = omega (arith, m.within); marked = m.marked }

number_cases : (n : ℕ) (marks : List Bool) (s : ℕ) → (Contains (numbers_from (suc n) marks) s → IsMarkAt (suc n) marks s) →
    (n ≡ s) ⊎ Contains (numbers_from (suc n) marks) s → IsMarkAt n (true ∷ marks) s
number_cases n marks s later (inl e) = record { place = 0; is = omega (arith, e); within = omega arith; marked = refl }
number_cases n marks s later (inr d) = next n true marks s (later d)

pub mark_of_number : (n : ℕ) (marks : List Bool) (s : ℕ) → Contains (numbers_from n marks) s → IsMarkAt n marks s
mark_of_number n [] s c = absurd (Contains-nil s c)
mark_of_number n (true ∷ marks) s c = number_cases n marks s (λ d. mark_of_number (suc n) marks s d) (Contains-cons n (numbers_from (suc n) marks) s c)
mark_of_number n (false ∷ marks) s c = next n false marks s (mark_of_number (suc n) marks s c)

pub number_of_mark : (n : ℕ) (marks : List Bool) (k : ℕ) → k < length marks → get_or marks k false ≡ true → Contains (numbers_from n marks) (n + k)
number_of_mark n [] k l e = absurd (omega (arith, l))
number_of_mark n (true ∷ marks) zero l e = subst (λ (s : ℕ). Contains (n ∷ numbers_from (suc n) marks) s) (omega arith) (Contains-here n (numbers_from (suc n) marks))
number_of_mark n (true ∷ marks) (suc k) l e = Contains-there n (numbers_from (suc n) marks) (n + suc k)
    (subst (λ (s : ℕ). Contains (numbers_from (suc n) marks) s) (omega arith) (number_of_mark (suc n) marks k (omega (arith, l)) e))
number_of_mark n (false ∷ marks) zero l e = absurd cc
number_of_mark n (false ∷ marks) (suc k) l e =
    subst (λ (s : ℕ). Contains (numbers_from (suc n) marks) s) (omega arith) (number_of_mark (suc n) marks k (omega (arith, l)) e)

-- one mark more is looked at
pub one_more : (n next : ℕ) (b : Bool) (marks rest : List Bool) (numbers more whole : List ℕ) → marks ≡ b ∷ rest → next ≡ suc n →
    more ≡ (numbers ++ cond b (n ∷ []) []) → numbers ++ numbers_from n marks ≡ whole → more ++ numbers_from next rest ≡ whole
one_more n next true marks rest numbers more whole are one put reads =
    rw (one, put) (append_assoc numbers (n ∷ []) (numbers_from (suc n) rest) ∙ (ap (λ (ms : List Bool). numbers ++ numbers_from n ms) (sym are) ∙ reads))
one_more n next false marks rest numbers more whole are one put reads =
    rw (one, put) (append_assoc numbers [] (numbers_from (suc n) rest) ∙ (ap (λ (ms : List Bool). numbers ++ numbers_from n ms) (sym are) ∙ reads))

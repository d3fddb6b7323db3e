-- The places of listed products, and the products that words have.
use Rattle.std.proofs.Common.{◌≡◌, ℕ, zero, suc, ◌+◌, ◌^◌, ◌<◌, ◌≤◌, ◌⊎◌, inl, inr, List, [], ◌∷◌, Bool, true, false, ◌&&◌, ◌||◌, not, cond, length, get_or, nat_lt, refl, sym, ◌∙◌, ap, ap₂, subst, Contains, arith, w64}
use Rattle.std.specs.Prelude.{◌==◌, bit_and, bit_or}
use Rattle.std.specs.Int.{bit_at, bit_not, trailing_zeros}
use Rattle.std.proofs.lemmas.Bool.{cases_Bool, cases_lt, lt-ltb, le-ltb, ltb-true, and_parts}
use Rattle.std.proofs.lemmas.Nat.{and_le_l, or_lt}
use Rattle.std.proofs.lemmas.Nat.Bits.{bit_at-trailing_zeros, bit_at_above}
use Rattle.vpg_number.specs.Counted.{AreDistinct}
use Rattle.vpg_zielonka.specs.Words.{bit, same, agrees, place, IsListed, in_word, Fits, IsWordOf, IsWordAmong}
use Rattle.vpg_zielonka.proofs.Bits.{bit_of_and, bit_of_or, bit_of_not, bit_of_zero, bit_of_all}

-- ---- agreement

same_is : (x y : Bool) → same x y ≡ true → x ≡ y
same_is true true e = refl
same_is true false e = sym e
same_is false true e = e
same_is false false e = refl

same_self : (x : Bool) → same x x ≡ true
same_self true = refl
same_self false = refl

pub agrees_self : (p : List Bool) → agrees p p ≡ true
agrees_self [] = refl
agrees_self (x ∷ p) = ap (λ (b : Bool). b && agrees p p) (same_self x) ∙ agrees_self p

pub agrees_at : (q p : List Bool) → agrees q p ≡ true → (f : ℕ) → f < length q → get_or q f false ≡ get_or p f false
agrees_at [] p e f l = absurd (omega arith)
agrees_at (x ∷ q) [] e zero l = off x (and_parts (not x) (agrees q []) e).0
  where
    off : (x : Bool) → not x ≡ true → x ≡ false
    off true n = sym n
    off false n = refl
agrees_at (x ∷ q) [] e (suc f) l = agrees_at q [] (and_parts (not x) (agrees q []) e).1 f (omega arith)
agrees_at (x ∷ q) (y ∷ p) e zero l = same_is x y (and_parts (same x y) (agrees q p) e).0
agrees_at (x ∷ q) (y ∷ p) e (suc f) l = agrees_at q p (and_parts (same x y) (agrees q p) e).1 f (omega arith)

agrees_is : (q p : List Bool) → agrees q p ≡ true → length q ≡ length p → q ≡ p
agrees_is [] [] e l = refl
agrees_is [] (y ∷ p) e l = absurd (omega arith)
agrees_is (x ∷ q) [] e l = absurd (omega arith)
agrees_is (x ∷ q) (y ∷ p) e l = ap₂ (λ (b : Bool) (bs : List Bool). b ∷ bs)
    (same_is x y (and_parts (same x y) (agrees q p) e).0)
    (agrees_is q p (and_parts (same x y) (agrees q p) e).1 (omega arith))

-- ---- places

place_first : (q : List Bool) (qs : List (List Bool)) (p : List Bool) → agrees q p ≡ true → place (q ∷ qs) p ≡ 0
place_first q qs p e = ap (λ (b : Bool). cond b 0 (suc (place qs p))) e

place_later : (q : List Bool) (qs : List (List Bool)) (p : List Bool) → agrees q p ≡ false →
    place (q ∷ qs) p ≡ suc (place qs p)
place_later q qs p e = ap (λ (b : Bool). cond b 0 (suc (place qs p))) e

-- the product at the place agrees
pub place_agrees : (qs : List (List Bool)) (p : List Bool) → IsListed qs p →
    agrees (get_or qs (place qs p) []) p ≡ true
place_agrees [] p l = absurd (omega arith)
place_agrees (q ∷ qs) p l = of (cases_Bool (agrees q p)) (place_agrees qs p)
  where
    of : (agrees q p ≡ true) ⊎ (agrees q p ≡ false) → (IsListed qs p → agrees (get_or qs (place qs p) []) p ≡ true) →
        agrees (get_or (q ∷ qs) (place (q ∷ qs) p) []) p ≡ true
    of (inl e) again = subst (λ n. agrees (get_or (q ∷ qs) n []) p ≡ true) (sym (place_first q qs p e)) e
    of (inr e) again = subst (λ n. agrees (get_or (q ∷ qs) n []) p ≡ true) (sym (place_later q qs p e))
        (again (omega (arith, l, place_later q qs p e)))

shown : (qs : List (List Bool)) (i : ℕ) → i < length qs → Contains qs (get_or qs i [])
shown qs i l = (i, l, at qs i l)
  where
    at : (qs : List (List Bool)) (i : ℕ) → i < length qs → get_or qs i (get_or qs i []) ≡ get_or qs i []
    at [] i l = absurd (omega arith)
    at (q ∷ qs) zero l = refl
    at (q ∷ qs) (suc i) l = at qs i (omega arith)

-- distinct products that are as long are at their own places
pub place_own : (n : ℕ) (qs : List (List Bool)) → AreDistinct qs →
    ((i : ℕ) → i < length qs → length (get_or qs i []) ≡ n) → (i : ℕ) → i < length qs →
    place qs (get_or qs i []) ≡ i
place_own n [] distinct long i l = absurd (omega arith)
place_own n (q ∷ qs) distinct long zero l = place_first q qs q (agrees_self q)
place_own n (q ∷ qs) distinct long (suc i) l = of (cases_Bool (agrees q (get_or qs i [])))
    (place_own n qs distinct.1 (λ j k. long (suc j) (omega arith)) i (omega arith))
  where
    of : (agrees q (get_or qs i []) ≡ true) ⊎ (agrees q (get_or qs i []) ≡ false) → place qs (get_or qs i []) ≡ i →
        place (q ∷ qs) (get_or qs i []) ≡ suc i
    of (inl e) again = absurd (distinct.0 (subst (λ (x : List Bool). Contains qs x)
        (sym (agrees_is q (get_or qs i []) e (long 0 (omega arith) ∙ sym (long (suc i) l))))
        (shown qs i (omega arith))))
    of (inr e) again = place_later q qs (get_or qs i []) e ∙ ap suc again

-- ---- the products that a word has

module _ (qs : List (List Bool)) (word : ℕ) (p : List Bool) where
  pub has_listed : IsListed qs p → in_word qs word p ≡ bit word (place qs p)
  has_listed l = ap (λ (b : Bool). b && bit word (place qs p)) (lt-ltb (place qs p) (length qs) l)

  pub lacks_unlisted : length qs ≤ place qs p → in_word qs word p ≡ false
  lacks_unlisted l = ap (λ (b : Bool). b && bit word (place qs p)) (le-ltb (place qs p) (length qs) l)

  pub is_listed : in_word qs word p ≡ true → IsListed qs p
  is_listed e = ltb-true (place qs p) (length qs)
      (and_parts (nat_lt (place qs p) (length qs)) (bit word (place qs p)) e).0

both_under : (l s t : Bool) → (l && (s && t)) ≡ ((l && s) && (l && t))
both_under true s t = refl
both_under false s t = refl

either_under : (l s t : Bool) → (l && (s || t)) ≡ ((l && s) || (l && t))
either_under true s t = refl
either_under false s t = refl

differ_under : (l s t : Bool) → (l && (s && not t)) ≡ ((l && s) && not (l && t))
differ_under true s t = refl
differ_under false s t = refl

module _ (qs : List (List Bool)) (a b : ℕ) where
  pub word_and : Fits qs a → IsWordOf qs (λ p. in_word qs a p && in_word qs b p) (bit_and a b)
  word_and fits = record {
    inside = omega (arith, fits, and_le_l a b);
    each = λ p. ap (λ (x : Bool). nat_lt (place qs p) (length qs) && x) (bit_of_and a b (place qs p))
        ∙ both_under (nat_lt (place qs p) (length qs)) (bit a (place qs p)) (bit b (place qs p));
  }

  pub word_or : Fits qs a → Fits qs b → IsWordOf qs (λ p. in_word qs a p || in_word qs b p) (bit_or a b)
  word_or fits others = record {
    inside = or_lt (length qs) a b fits others;
    each = λ p. ap (λ (x : Bool). nat_lt (place qs p) (length qs) && x) (bit_of_or a b (place qs p))
        ∙ either_under (nat_lt (place qs p) (length qs)) (bit a (place qs p)) (bit b (place qs p));
  }

  pub word_without : length qs ≤ 64 → b < 2 ^ 64 → Fits qs a →
      IsWordOf qs (λ p. in_word qs a p && not (in_word qs b p)) (bit_and a (bit_not w64 b))
  word_without few whole fits = record {
    inside = omega (arith, fits, and_le_l a (bit_not w64 b));
    each = λ p. of p (cases_lt (place qs p) (length qs));
  }
    where
      of : (p : List Bool) → IsListed qs p ⊎ (length qs ≤ place qs p) →
          in_word qs (bit_and a (bit_not w64 b)) p ≡ (in_word qs a p && not (in_word qs b p))
      of p (inl l) = ap (λ (x : Bool). nat_lt (place qs p) (length qs) && x) (bit_of_and a (bit_not w64 b) (place qs p)
          ∙ ap (λ (x : Bool). bit a (place qs p) && x) (bit_of_not b (place qs p) whole (omega (arith, l, few))))
          ∙ differ_under (nat_lt (place qs p) (length qs)) (bit a (place qs p)) (bit b (place qs p))
      of p (inr l) = lacks_unlisted qs (bit_and a (bit_not w64 b)) p l
          ∙ sym (ap (λ (x : Bool). x && not (in_word qs b p)) (lacks_unlisted qs a p l))

pub word_zero : (qs : List (List Bool)) (p : List Bool) → in_word qs 0 p ≡ false
word_zero qs p = of (cases_lt (place qs p) (length qs))
  where
    of : IsListed qs p ⊎ (length qs ≤ place qs p) → in_word qs 0 p ≡ false
    of (inl l) = has_listed qs 0 p l ∙ bit_of_zero (place qs p)
    of (inr l) = lacks_unlisted qs 0 p l

pub word_all : (qs : List (List Bool)) (all : ℕ) → all + 1 ≡ 2 ^ length qs → IsWordAmong qs (λ p. true) all
word_all qs all whole = record {
  inside = omega (arith, whole);
  each = λ p l. has_listed qs all p l ∙ bit_of_all all (length qs) (place qs p) whole l;
}

-- a word that is not 0 has a product
pub word_some : (n : ℕ) (qs : List (List Bool)) → AreDistinct qs →
    ((i : ℕ) → i < length qs → length (get_or qs i []) ≡ n) → length qs ≤ 64 → (word : ℕ) → Fits qs word →
    word < 2 ^ 64 → 0 < word → (p : List Bool) × (length p ≡ n) × (in_word qs word p ≡ true)
word_some n qs distinct long few word fits whole some = (get_or qs i [], long i below, has_own)
  where
    i : ℕ
    i = trailing_zeros w64 word

    set : bit_at word i ≡ 1
    set = (bit_at-trailing_zeros w64 word some whole).1

    below : i < length qs
    below = of (cases_lt i (length qs))
      where
        of : (i < length qs) ⊎ (length qs ≤ i) → i < length qs
        of (inl l) = l
        of (inr l) = absurd (clash (bit_at_above word (length qs) i fits l))
          where
            clash : bit_at word i ≡ 0 → ⊥
            clash none = omega (arith, none, set)

    own : place qs (get_or qs i []) ≡ i
    own = place_own n qs distinct long i below

    has_own : in_word qs word (get_or qs i []) ≡ true
    has_own = has_listed qs word (get_or qs i []) (subst (λ k. k < length qs) (sym own) below)
        ∙ ap (λ k. bit word k) own ∙ ap (λ k. k == 1) set

-- Texts of which the first bytes are kept.
use Rattle.std.proofs.Common.{◌≡◌, ℕ, zero, suc, ◌-◌, ◌<◌, ◌≤◌, ◌⊎◌, inl, inr, Bool, true, false, cond, min, List, [], ◌∷◌, ◌++◌, length, take, codes, refl, sym, ap, ap₂, ◌∙◌, arith, append_assoc}
use Rattle.std.specs.Prelude.{nat_lt, Result, Ok, Err, OnOk}
use Rattle.std.proofs.lemmas.Bool.{cases_lt, cases_Bool, ltb-true, ltb-false, le-ltb, lt-ltb}
use Rattle.std.proofs.lemmas.List.{length-take, take_all}
use Rattle.vpg_part_texts.specs.PartTexts.{cut}

module _ {A : Type 0} where
  kept : (n : ℕ) (xs ys : List A) → take n (take n xs ++ ys) ≡ take n (xs ++ ys)
  kept zero xs ys = refl
  kept (suc n) [] ys = refl
  kept (suc n) (x ∷ xs) ys = ap (λ (t : List A). x ∷ t) (kept n xs ys)

  -- what is written behind what was
  pub behind : (n : ℕ) (a b c t u : List A) → b ≡ take n (a ++ t) → c ≡ take n (b ++ u) → c ≡ take n (a ++ (t ++ u))
  behind n a b c t u p q = q ∙ ap (λ (x : List A). take n (x ++ u)) p ∙ kept n (a ++ t) u ∙ ap (take n) (append_assoc a t u)

  pub three : (n : ℕ) (a b c d t u v : List A) → b ≡ take n (a ++ t) → c ≡ take n (b ++ u) → d ≡ take n (c ++ v) → d ≡ take n (a ++ (t ++ (u ++ v)))
  three n a b c d t u v p q r = behind n a b d t (u ++ v) p (behind n b c d u v q r)

  pub four : (n : ℕ) (a b c d e t u v w : List A) → b ≡ take n (a ++ t) → c ≡ take n (b ++ u) → d ≡ take n (c ++ v) → e ≡ take n (d ++ w) → e ≡ take n (a ++ (t ++ (u ++ (v ++ w))))
  four n a b c d e t u v w p q r s = behind n a b e t (u ++ (v ++ w)) p (three n b c d e u v w q r s)

  pub five : (n : ℕ) (a b c d e f t u v w x : List A) → b ≡ take n (a ++ t) → c ≡ take n (b ++ u) → d ≡ take n (c ++ v) → e ≡ take n (d ++ w) → f ≡ take n (e ++ x) →
      f ≡ take n (a ++ (t ++ (u ++ (v ++ (w ++ x)))))
  five n a b c d e f t u v w x p q r s o = behind n a b f t (u ++ (v ++ (w ++ x))) p (four n b c d e f u v w x q r s o)

  -- nothing is written behind a full text
  pub full : (n : ℕ) (a t : List A) → length a ≤ n → n ≤ length a → a ≡ take n (a ++ t)
  full zero [] t few many = refl
  full zero (x ∷ a) t few many = absurd (omega (arith, few))
  full (suc n) [] t few many = absurd (omega (arith, many))
  full (suc n) (x ∷ a) t few many = ap (λ (s : List A). x ∷ s) (full n a t (omega (arith, few)) (omega (arith, many)))

  take_min : (n count : ℕ) (xs : List A) → count ≡ min n (length xs) → take count xs ≡ take n xs
  take_min n count xs e = decide (cases_lt n (length xs))
    where
      decide : (n < length xs) ⊎ (length xs ≤ n) → take count xs ≡ take n xs
      decide (inl less) = ap (λ (k : ℕ). take k xs) (omega (arith, e, less))
      decide (inr more) = take_all count xs (omega (arith, e, more)) ∙ sym (take_all n xs more)

  -- as much is written as there is room for
  pub within : (n count : ℕ) (a xs : List A) → length a ≤ n → count ≡ min (n - length a) (length xs) → a ++ take count xs ≡ take n (a ++ xs)
  within n count [] xs few e = take_min n count xs (omega (arith, e))
  within zero count (x ∷ a) xs few e = absurd (omega (arith, few))
  within (suc n) count (x ∷ a) xs few e = ap (λ (s : List A). x ∷ s) (within n count a xs (omega (arith, few)) (omega (arith, e)))

  pub kept_few : (n : ℕ) (xs : List A) → length (take n xs) ≤ n
  kept_few n xs = omega (arith, length-take n xs)

  take_less : (m n : ℕ) (xs : List A) → m ≤ n → take m (take n xs) ≡ take m xs
  take_less zero n xs l = refl
  take_less (suc m) zero xs l = absurd (omega (arith, l))
  take_less (suc m) (suc n) [] l = refl
  take_less (suc m) (suc n) (x ∷ xs) l = ap (λ (s : List A). x ∷ s) (take_less m n xs (omega (arith, l)))

-- the cut of what is kept is that of the whole
pub cut_kept : (text : List ℕ) → cut (take 61 text) ≡ cut text
cut_kept text = decide (cases_lt 60 (length text))
  where
    decide : (60 < length text) ⊎ (length text ≤ 60) → cut (take 61 text) ≡ cut text
    decide (inl long) =
        let whole : nat_lt 60 (length text) ≡ true = lt-ltb 60 (length text) long in
        let part : nat_lt 60 (length (take 61 text)) ≡ true = lt-ltb 60 (length (take 61 text)) (omega (arith, long, length-take 61 text)) in
        rw (whole, part) (ap (λ (t : List ℕ). t ++ codes "..") (take_less 58 61 text (omega arith)))
    decide (inr short) = ap cut (take_all 61 text (omega (arith, short)))

-- ---- what a call has put

-- it is what is to be written
pub put_as : (a b w t : List ℕ) → b ≡ take 61 (a ++ w) → w ≡ t → b ≡ take 61 (a ++ t)
put_as a b w t p e = p ∙ ap (λ (x : List ℕ). take 61 (a ++ x)) e

pub on_ok : {T E : Type 0} (r : Result T E) (P Q : Type 0) → (P → Q) → OnOk r P → OnOk r Q
on_ok (Ok t) P Q f p = f p
on_ok (Err e) P Q f p = tt

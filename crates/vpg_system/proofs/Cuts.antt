-- A text cut at a byte, as the code finds it.
use Rattle.std.proofs.Common.{◌≡◌, ℕ, suc, zero, ◌+◌, ◌<◌, ◌≤◌, Bool, true, false, not, ◌&&◌, ◌==◌, nat_lt, cond, List, take, drop, position, ◌⊎◌, inl, inr, one-add, ltb-true, ltb-false, [], ◌∷◌, ◌++◌, length, get_or, Option, Some, None, refl, sym, ap, ap₂, ◌∙◌, subst, arith, eqb-true}
use Rattle.std.specs.Prelude.{is_some}
use Rattle.std.specs.List.{position_or_len}
use Rattle.std.proofs.lemmas.List.Folds.{list_all-append}
use Rattle.std.proofs.lemmas.Bool.{cases_Bool}
use Rattle.vpg_system.specs.SystemText.{lacks, is_nonempty, is_closed}
use Rattle.vpg_system.specs.SystemReading.{cut, before_cut, cut_last, last_or, if_last, before_end}

-- the first such byte, by its place
place_here : (sign : ℕ) → (b : ℕ) (bs : List ℕ) → (b == sign) ≡ true → position_or_len (λ x. x == sign) (b ∷ bs) ≡ 0
place_here sign b bs e = ap (λ t. cond (not t) (1 + position_or_len (λ x. x == sign) bs) 0) e

place_later : (sign : ℕ) → (b : ℕ) (bs : List ℕ) → (b == sign) ≡ false → position_or_len (λ x. x == sign) (b ∷ bs) ≡ suc (position_or_len (λ x. x == sign) bs)
place_later sign b bs e = ap (λ t. cond (not t) (1 + position_or_len (λ x. x == sign) bs) 0) e ∙ one-add (position_or_len (λ x. x == sign) bs)

cut_some_at : (sign : ℕ) → (bytes : List ℕ) (k : ℕ) → position_or_len (λ x. x == sign) bytes ≡ k → k < length bytes → cut sign bytes ≡ Some (take k bytes, drop (suc k) bytes)
cut_some_at sign [] k e l = absurd (omega arith)
cut_some_at sign (b ∷ bs) k e l = go (cases_Bool (b == sign)) (λ j. cut_some_at sign bs j)
  where
    go : ((b == sign) ≡ true) ⊎ ((b == sign) ≡ false) → ((j : ℕ) → position_or_len (λ x. x == sign) bs ≡ j → j < length bs → cut sign bs ≡ Some (take j bs, drop (suc j) bs)) → cut sign (b ∷ bs) ≡ Some (take k (b ∷ bs), drop (suc k) (b ∷ bs))
    go (inl t) ih =
        let z : 0 ≡ k = sym (place_here sign b bs t) ∙ e in
        subst (λ (n : ℕ). cut sign (b ∷ bs) ≡ Some (take n (b ∷ bs), drop (suc n) (b ∷ bs))) z
        (ap (λ x. cond x (Some ([], bs)) (before_cut b (cut sign bs))) t)
    go (inr f) ih =
        let j = position_or_len (λ x. x == sign) bs in
        let z : suc j ≡ k = sym (place_later sign b bs f) ∙ e in
        subst (λ (n : ℕ). cut sign (b ∷ bs) ≡ Some (take n (b ∷ bs), drop (suc n) (b ∷ bs))) z
        (ap (λ x. cond x (Some ([], bs)) (before_cut b (cut sign bs))) f ∙ ap (before_cut b) (ih j refl (omega arith)))

cut_none_at : (sign : ℕ) → (bytes : List ℕ) → length bytes ≤ position_or_len (λ x. x == sign) bytes → cut sign bytes ≡ None
cut_none_at sign [] l = refl
cut_none_at sign (b ∷ bs) l = go (cases_Bool (b == sign)) (cut_none_at sign bs)
  where
    go : ((b == sign) ≡ true) ⊎ ((b == sign) ≡ false) → (length bs ≤ position_or_len (λ x. x == sign) bs → cut sign bs ≡ None) → cut sign (b ∷ bs) ≡ None
    go (inl t) ih = absurd (let z = place_here sign b bs t in omega (arith, z, l))
    go (inr f) ih = ap (λ x. cond x (Some ([], bs)) (before_cut b (cut sign bs))) f ∙ ap (before_cut b) (ih (let z = place_later sign b bs f in omega (arith, z, l)))

pub cut_some : (sign : ℕ) → (bytes : List ℕ) (k : ℕ) → position (λ x. x == sign) bytes ≡ Some k → cut sign bytes ≡ Some (take k bytes, drop (suc k) bytes)
cut_some sign bytes k e = go (cases_Bool (nat_lt n (length bytes)))
  where
    n : ℕ
    n = position_or_len (λ x. x == sign) bytes

    go : (nat_lt n (length bytes) ≡ true) ⊎ (nat_lt n (length bytes) ≡ false) → cut sign bytes ≡ Some (take k bytes, drop (suc k) bytes)
    go (inl t) =
        let w : Some n ≡ Some k = sym (ap (λ b. cond b (Some n) None) t) ∙ e in
        let z : n ≡ k = cc in
        cut_some_at sign bytes k z (subst (λ (x : ℕ). x < length bytes) z (ltb-true n (length bytes) t))
    go (inr f) = let w : ◌≡◌ {A = Option ℕ} None (Some k) = sym (ap (λ b. cond b (Some n) None) f) ∙ e in absurd (cc)

pub cut_none : (sign : ℕ) → (bytes : List ℕ) → position (λ x. x == sign) bytes ≡ None → cut sign bytes ≡ None
cut_none sign bytes e = go (cases_Bool (nat_lt n (length bytes)))
  where
    n : ℕ
    n = position_or_len (λ x. x == sign) bytes

    go : (nat_lt n (length bytes) ≡ true) ⊎ (nat_lt n (length bytes) ≡ false) → cut sign bytes ≡ None
    go (inl t) = let w : ◌≡◌ {A = Option ℕ} (Some n) None = sym (ap (λ b. cond b (Some n) None) t) ∙ e in absurd (cc)
    go (inr f) = cut_none_at sign bytes (ltb-false n (length bytes) f)

-- ---- what lacks a byte

and_parts : (a b : Bool) → (a && b) ≡ true → (a ≡ true) × (b ≡ true)
and_parts true b e = (refl, e)
and_parts false b e = absurd (cc)

and_both : (a b : Bool) → a ≡ true → b ≡ true → (a && b) ≡ true
and_both a b p q = ap (λ x. x && b) p ∙ q

pub not_true : (b : Bool) → not b ≡ true → b ≡ false
not_true false e = refl
not_true true e = absurd (cc)

itself : (s : ℕ) → (s == s) ≡ true
itself s = grind (arith)

pub lacks_parts : (s : ℕ) (xs ys : List ℕ) → lacks s (xs ++ ys) ≡ true → (lacks s xs ≡ true) × (lacks s ys ≡ true)
lacks_parts s xs ys e = and_parts (lacks s xs) (lacks s ys) (sym (list_all-append (λ b. not (b == s)) xs ys) ∙ e)

pub lacks_joined : (s : ℕ) (xs ys : List ℕ) → lacks s xs ≡ true → lacks s ys ≡ true → lacks s (xs ++ ys) ≡ true
lacks_joined s xs ys p q = list_all-append (λ b. not (b == s)) xs ys ∙ and_both (lacks s xs) (lacks s ys) p q

-- ---- the first such byte

pub first_joined : (s : ℕ) (front rest : List ℕ) → lacks s front ≡ true → cut s (front ++ s ∷ rest) ≡ Some (front, rest)
first_joined s [] rest e = ap (λ t. cond t (Some ([], rest)) (before_cut s (cut s rest))) (itself s)
first_joined s (b ∷ bs) rest e =
    let p = and_parts (not (b == s)) (lacks s bs) e in
    ap (λ t. cond t (Some ([], bs ++ s ∷ rest)) (before_cut b (cut s (bs ++ s ∷ rest)))) (not_true (b == s) p.0)
    ∙ ap (before_cut b) (first_joined s bs rest p.1)

abbrev IsFirst : ℕ → List ℕ → List ℕ × List ℕ → Type 0
IsFirst s xs p = (xs ≡ p.0 ++ s ∷ p.1) × (lacks s p.0 ≡ true)

first_if : (t : Bool) (s b : ℕ) (bs : List ℕ) (o : Option (List ℕ × List ℕ)) (p : List ℕ × List ℕ) → (b == s) ≡ t → cut s bs ≡ o → cond t (Some ([], bs)) (before_cut b o) ≡ Some p →
    ((q : List ℕ × List ℕ) → cut s bs ≡ Some q → IsFirst s bs q) → IsFirst s (b ∷ bs) p
first_if true s b bs o p t k e ih =
    let z : ([], bs) ≡ p = cc in
    subst (IsFirst s (b ∷ bs)) z (ap (λ x. x ∷ bs) (eqb-true b s t), refl)
first_if false s b bs None p t k e ih = absurd (cc)
first_if false s b bs (Some q) p t k e ih =
    let z : (b ∷ q.0, q.1) ≡ p = cc in
    let i = ih q k in
    subst (IsFirst s (b ∷ bs)) z (ap (λ x. b ∷ x) i.0, and_both (not (b == s)) (lacks s q.0) (ap not t) i.1)

pub first_found : (s : ℕ) (xs : List ℕ) (p : List ℕ × List ℕ) → cut s xs ≡ Some p → (xs ≡ p.0 ++ s ∷ p.1) × (lacks s p.0 ≡ true)
first_found s [] p e = absurd (cc)
first_found s (b ∷ bs) p e = first_if (b == s) s b bs (cut s bs) p refl refl e (first_found s bs)

-- ---- the last such byte

pub last_none : (s : ℕ) (xs : List ℕ) → lacks s xs ≡ true → cut_last s xs ≡ None
last_none s [] e = refl
last_none s (b ∷ bs) e =
    let p = and_parts (not (b == s)) (lacks s bs) e in
    ap (last_or b (b == s) bs) (last_none s bs p.1) ∙ ap (λ t. cond t (Some ([], bs)) None) (not_true (b == s) p.0)

pub last_joined : (s : ℕ) (front back : List ℕ) → lacks s back ≡ true → cut_last s (front ++ s ∷ back) ≡ Some (front, back)
last_joined s [] back e = ap (last_or s (s == s) back) (last_none s back e) ∙ ap (λ t. cond t (Some ([], back)) None) (itself s)
last_joined s (b ∷ bs) back e = ap (last_or b (b == s) (bs ++ s ∷ back)) (last_joined s bs back e)

abbrev IsLast : ℕ → List ℕ → List ℕ × List ℕ → Type 0
IsLast s xs p = (xs ≡ p.0 ++ s ∷ p.1) × (lacks s p.1 ≡ true)

none_if : (t : Bool) (b : ℕ) (bs : List ℕ) (o : Option (List ℕ × List ℕ)) → last_or b t bs o ≡ None → (t ≡ false) × (o ≡ None)
none_if true b bs None e = absurd (cc)
none_if false b bs None e = (refl, refl)
none_if t b bs (Some p) e = absurd (cc)

pub last_lacks : (s : ℕ) (xs : List ℕ) → cut_last s xs ≡ None → lacks s xs ≡ true
last_lacks s [] e = refl
last_lacks s (b ∷ bs) e =
    let p = none_if (b == s) b bs (cut_last s bs) e in
    and_both (not (b == s)) (lacks s bs) (ap not p.0) (last_lacks s bs p.1)

last_if : (t : Bool) (s b : ℕ) (bs : List ℕ) (o : Option (List ℕ × List ℕ)) (p : List ℕ × List ℕ) → (b == s) ≡ t → cut_last s bs ≡ o → last_or b t bs o ≡ Some p →
    ((q : List ℕ × List ℕ) → cut_last s bs ≡ Some q → IsLast s bs q) → IsLast s (b ∷ bs) p
last_if t s b bs (Some q) p h k e ih =
    let z : (b ∷ q.0, q.1) ≡ p = cc in
    let i = ih q k in
    subst (IsLast s (b ∷ bs)) z (ap (λ x. b ∷ x) i.0, i.1)
last_if true s b bs None p h k e ih =
    let z : ([], bs) ≡ p = cc in
    subst (IsLast s (b ∷ bs)) z (ap (λ x. x ∷ bs) (eqb-true b s h), last_lacks s bs k)
last_if false s b bs None p h k e ih = absurd (cc)

pub last_found : (s : ℕ) (xs : List ℕ) (p : List ℕ × List ℕ) → cut_last s xs ≡ Some p → (xs ≡ p.0 ++ s ∷ p.1) × (lacks s p.1 ≡ true)
last_found s [] p e = absurd (cc)
last_found s (b ∷ bs) p e = last_if (b == s) s b bs (cut_last s bs) p refl refl e (last_found s bs)

-- by places
parts_at : (xs : List ℕ) (k d : ℕ) → k < length xs → take k xs ++ get_or xs k d ∷ drop (suc k) xs ≡ xs
parts_at [] k d l = absurd (omega arith)
parts_at (x ∷ xs) zero d l = refl
parts_at (x ∷ xs) (suc k) d l = ap (λ ys. x ∷ ys) (parts_at xs k d (omega arith))

pub last_at : (s : ℕ) (xs : List ℕ) (k d : ℕ) → k < length xs → get_or xs k d ≡ s → lacks s (drop (suc k) xs) ≡ true → cut_last s xs ≡ Some (take k xs, drop (suc k) xs)
last_at s xs k d l e n =
    ap (cut_last s) (sym (parts_at xs k d l) ∙ ap (λ x. take k xs ++ x ∷ drop (suc k) xs) e) ∙ last_joined s (take k xs) (drop (suc k) xs) n

pub lacks_from : (s : ℕ) (xs : List ℕ) (k d : ℕ) → k < length xs → (get_or xs k d == s) ≡ false → lacks s (drop (suc k) xs) ≡ true → lacks s (drop k xs) ≡ true
lacks_from s [] k d l e n = absurd (omega arith)
lacks_from s (x ∷ xs) zero d l e n = and_both (not (x == s)) (lacks s xs) (ap not e) n
lacks_from s (x ∷ xs) (suc k) d l e n = lacks_from s xs k d (omega arith) e n

-- ---- such a byte at the end

end_if : (s : ℕ) (xs f : List ℕ) (o : Option (List ℕ × List ℕ)) → cut_last s xs ≡ o → if_last o ≡ Some f → xs ≡ f ++ s ∷ []
end_if s xs f None k e = absurd (cc)
end_if s xs f (Some p) k e = go p.1 refl e
  where
    go : (back : List ℕ) → p.1 ≡ back → cond (is_nonempty back) None (Some p.0) ≡ Some f → xs ≡ f ++ s ∷ []
    go [] b e =
        let z : p.0 ≡ f = cc in
        (last_found s xs p k).0 ∙ ap₂ (λ x y. x ++ s ∷ y) z b
    go (y ∷ ys) b e = absurd (cc)

pub end_found : (s : ℕ) (xs f : List ℕ) → before_end s xs ≡ Some f → xs ≡ f ++ s ∷ []
end_found s xs f e = end_if s xs f (cut_last s xs) refl e

pub end_joined : (s : ℕ) (f : List ℕ) → before_end s (f ++ s ∷ []) ≡ Some f
end_joined s f = ap if_last (last_joined s f [] refl)

closed_one : (b : ℕ) (t : Bool) → t ≡ is_some (if_last (last_or b t [] None))
closed_one b true = refl
closed_one b false = refl

closed_more : (b c : ℕ) (cs : List ℕ) (t : Bool) (o : Option (List ℕ × List ℕ)) → is_some (if_last o) ≡ is_some (if_last (last_or b t (c ∷ cs) o))
closed_more b c cs true None = refl
closed_more b c cs false None = refl
closed_more b c cs t (Some p) = go p.1
  where
    go : (back : List ℕ) → is_some (cond (is_nonempty back) None (Some p.0)) ≡ is_some (cond (is_nonempty back) None (Some (b ∷ p.0)))
    go [] = refl
    go (y ∷ ys) = refl

pub closed_is : (xs : List ℕ) → is_closed xs ≡ is_some (before_end 93 xs)
closed_is [] = refl
closed_is (b ∷ []) = closed_one b (b == 93)
closed_is (b ∷ c ∷ cs) = closed_is (c ∷ cs) ∙ closed_more b c cs (b == 93) (cut_last 93 (c ∷ cs))

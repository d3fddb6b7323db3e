-- What an index has after more is noted.
use Rattle.std.proofs.Common.{◌≡◌, ℕ, zero, suc, ◌+◌, ◌<◌, List, [], ◌∷◌, ◌++◌, length, take, set, get_or, Some, Result, Ok, Err, OnOk, Contains, ◌⊎◌, ◌↔◌, inl, inr, refl, sym, ap, ◌∙◌, subst, arith}
use Rattle.std.proofs.lemmas.Bool.{cases_eq}
use Rattle.std.proofs.lemmas.List.{length-set, get_or-set_same, get_or-set_other, take_more}
use Rattle.std.proofs.lemmas.List.Elements.{Contains-append_left, Contains-append_right, Contains-append_cases, Contains-push}
use Rattle.std.proofs.lemmas.Option.{slice_get-get_or}
use Rattle.vpg_features.specs.Index.{NotesAlso}

pub Contains-none : {X : Type 0} (y : X) → Contains [] y → ⊥
Contains-none {X} y h = let l : h.0 < length {A = X} [] = h.1 in omega (arith, l)

Contains-first : {X : Type 0} (x y : X) (k : ℕ) → k < length (x ∷ []) → get_or (x ∷ []) k y ≡ y → x ≡ y
Contains-first x y zero l e = e
Contains-first x y (suc k) l e = absurd (omega arith)

pub Contains-one : {X : Type 0} (x y : X) → Contains (x ∷ []) y → x ≡ y
Contains-one x y h = Contains-first x y h.0 h.1 h.2

-- a number behind the others
pub pushed : (old new : List ℕ) (number : ℕ) → new ≡ old ++ number ∷ [] → (k : ℕ) → Contains new k ↔ (Contains old k ⊎ (k ≡ number))
pushed old new number e k = (λ h. to (Contains-append_cases old (number ∷ []) k (subst (λ (xs : List ℕ). Contains xs k) e h)), from)
  where
    to : Contains old k ⊎ Contains (number ∷ []) k → Contains old k ⊎ (k ≡ number)
    to (inl h) = inl h
    to (inr h) = inr (sym (Contains-one number k h))

    from : Contains old k ⊎ (k ≡ number) → Contains new k
    from (inl h) = subst (λ (xs : List ℕ). Contains xs k) (sym e) (Contains-append_left old (number ∷ []) k h)
    from (inr q) = subst (λ (xs : List ℕ). Contains xs k) (sym e) (Contains-append_right old (number ∷ []) k (subst (λ (n : ℕ). Contains (n ∷ []) k) q (Contains-push [] k)))

pub any_default : {X : Type 0} (xs : List X) (i : ℕ) (a b : X) → i < length xs → get_or xs i a ≡ get_or xs i b
any_default xs i a b l = let e : Some (get_or xs i a) ≡ Some (get_or xs i b) = sym (slice_get-get_or xs i a l) ∙ slice_get-get_or xs i b l in cc

-- one row with a number more
pub noted_one : (old : List (List ℕ)) (number f : ℕ) (row more : List ℕ) → f < length old → row ≡ get_or old f row →
    ((k : ℕ) → Contains more k ↔ (Contains row k ⊎ (k ≡ number))) → NotesAlso old number (f ∷ []) (set old f more)
noted_one old number f row more b e has = record {
  same_length = length-set old f more;
  exact = λ x k. at x k (cases_eq x f);
}
  where
    before : row ≡ get_or old f []
    before = e ∙ any_default old f row [] b

    after : get_or (set old f more) f [] ≡ more
    after = get_or-set_same old f more [] b

    to_here : (k : ℕ) → Contains row k ⊎ (k ≡ number) → Contains (get_or old f []) k ⊎ ((k ≡ number) × Contains (f ∷ []) f)
    to_here k (inl h) = inl (subst (λ (r : List ℕ). Contains r k) before h)
    to_here k (inr q) = inr (q, Contains-push [] f)

    from_here : (k : ℕ) → Contains (get_or old f []) k ⊎ ((k ≡ number) × Contains (f ∷ []) f) → Contains row k ⊎ (k ≡ number)
    from_here k (inl h) = inl (subst (λ (r : List ℕ). Contains r k) (sym before) h)
    from_here k (inr q) = inr q.0

    here : (k : ℕ) → Contains (get_or (set old f more) f []) k ↔ (Contains (get_or old f []) k ⊎ ((k ≡ number) × Contains (f ∷ []) f))
    here k = (
      λ h. to_here k ((has k).0 (subst (λ (r : List ℕ). Contains r k) after h)),
      λ h. subst (λ (r : List ℕ). Contains r k) (sym after) ((has k).1 (from_here k h)),
    )

    from_there : (x k : ℕ) → (x ≡ f → ⊥) → Contains (get_or old x []) k ⊎ ((k ≡ number) × Contains (f ∷ []) x) → Contains (get_or old x []) k
    from_there x k n (inl h) = h
    from_there x k n (inr q) = absurd (n (sym (Contains-one f x q.1)))

    at : (x k : ℕ) → (x ≡ f) ⊎ (x ≡ f → ⊥) → Contains (get_or (set old f more) x []) k ↔ (Contains (get_or old x []) k ⊎ ((k ≡ number) × Contains (f ∷ []) x))
    at x k (inl q) = subst (λ (y : ℕ). Contains (get_or (set old f more) y []) k ↔ (Contains (get_or old y []) k ⊎ ((k ≡ number) × Contains (f ∷ []) y))) (sym q) (here k)
    at x k (inr n) = (
      λ h. inl (subst (λ (r : List ℕ). Contains r k) (get_or-set_other old f x more [] n) h),
      λ h. subst (λ (r : List ℕ). Contains r k) (sym (get_or-set_other old f x more [] n)) (from_there x k n h),
    )

pub noted_by : {T E : Type 0} (r : Result T E) (old items : List (List ℕ)) (number f : ℕ) (row more : List ℕ) → items ≡ old → f < length old → row ≡ get_or items f row →
    OnOk r ((k : ℕ) → Contains more k ↔ (Contains row k ⊎ (k ≡ number))) → OnOk r (NotesAlso old number (f ∷ []) (set items f more))
noted_by (Err x) old items number f row more same b e g = tt
noted_by (Ok x) old items number f row more same b e g =
    subst (λ (from : List (List ℕ)). NotesAlso from number (f ∷ []) (set items f more)) same (noted_one items number f row more (subst (λ (from : List (List ℕ)). f < length from) (sym same) b) e g)

-- ---- one list of features, and then another

pub noted_none : (old : List (List ℕ)) (number : ℕ) → NotesAlso old number [] old
noted_none old number = record { same_length = refl; exact = λ f k. (λ h. inl h, back f k) }
  where
    back : (f k : ℕ) → Contains (get_or old f []) k ⊎ ((k ≡ number) × Contains [] f) → Contains (get_or old f []) k
    back f k (inl h) = h
    back f k (inr q) = absurd (Contains-none f q.1)

pub noted_more : (old mid new : List (List ℕ)) (number : ℕ) (first then : List ℕ) → NotesAlso old number first mid → NotesAlso mid number then new → NotesAlso old number (first ++ then) new
noted_more old mid new number first then a b = record {
  same_length = b.same_length ∙ a.same_length;
  exact = λ f k. (λ h. to f k ((b.exact f k).0 h), from f k);
}
  where
    to_first : (f k : ℕ) → Contains (get_or old f []) k ⊎ ((k ≡ number) × Contains first f) → Contains (get_or old f []) k ⊎ ((k ≡ number) × Contains (first ++ then) f)
    to_first f k (inl h) = inl h
    to_first f k (inr q) = inr (q.0, Contains-append_left first then f q.1)

    to : (f k : ℕ) → Contains (get_or mid f []) k ⊎ ((k ≡ number) × Contains then f) → Contains (get_or old f []) k ⊎ ((k ≡ number) × Contains (first ++ then) f)
    to f k (inl h) = to_first f k ((a.exact f k).0 h)
    to f k (inr q) = inr (q.0, Contains-append_right first then f q.1)

    from_named : (f k : ℕ) → k ≡ number → Contains first f ⊎ Contains then f → Contains (get_or new f []) k
    from_named f k q (inl h) = (b.exact f k).1 (inl ((a.exact f k).1 (inr (q, h))))
    from_named f k q (inr h) = (b.exact f k).1 (inr (q, h))

    from : (f k : ℕ) → Contains (get_or old f []) k ⊎ ((k ≡ number) × Contains (first ++ then) f) → Contains (get_or new f []) k
    from f k (inl h) = (b.exact f k).1 (inl ((a.exact f k).1 (inl h)))
    from f k (inr q) = from_named f k q.0 (Contains-append_cases first then f q.1)

-- one more of the features
pub noted_step : (old mid new : List (List ℕ)) (number : ℕ) (before features : List ℕ) (i d : ℕ) → i < length features → NotesAlso old number (before ++ take i features) mid →
    NotesAlso mid number (get_or features i d ∷ []) new → NotesAlso old number (before ++ take (i + 1) features) new
noted_step old mid new number before features i d l a b =
    subst (λ (fs : List ℕ). NotesAlso old number fs new) (joined before (take i features) (get_or features i d) ∙ ap (λ (fs : List ℕ). before ++ fs) (sym (take_more features i d l)))
    (noted_more old mid new number (before ++ take i features) (get_or features i d ∷ []) a b)
  where
    joined : (xs ys : List ℕ) (z : ℕ) → (xs ++ ys) ++ z ∷ [] ≡ xs ++ (ys ++ z ∷ [])
    joined [] ys z = refl
    joined (x ∷ xs) ys z = ap (λ (r : List ℕ). x ∷ r) (joined xs ys z)

-- Texts without the blanks round them.
use Rattle.std.proofs.Common.{◌≡◌, ℕ, Bool, true, false, not, ◌&&◌, ◌==◌, cond, List, [], ◌∷◌, refl, sym, ap, ◌∙◌, subst}
use Rattle.vpg_system.specs.SystemText.{is_blank, lacks, without_front, without_end, unless_last, trimmed}

split : (a b : Bool) → (a && b) ≡ true → (a ≡ true) × (b ≡ true)
split true b e = (refl, e)
split false b e = absurd (cc)

both : (a b : Bool) → a ≡ true → b ≡ true → (a && b) ≡ true
both a b p q = ap (λ x. x && b) p ∙ q

-- what a text lacks
front_lacks : (s : ℕ) (xs : List ℕ) → lacks s xs ≡ true → lacks s (without_front xs) ≡ true
front_lacks s [] e = refl
front_lacks s (b ∷ bs) e = go (is_blank b) (front_lacks s bs (split (not (b == s)) (lacks s bs) e).1)
  where
    go : (t : Bool) → lacks s (without_front bs) ≡ true → lacks s (cond t (without_front bs) (b ∷ bs)) ≡ true
    go true ih = ih
    go false ih = e

unless_lacks : (s b : ℕ) (ys : List ℕ) → not (b == s) ≡ true → lacks s ys ≡ true → lacks s (unless_last b ys) ≡ true
unless_lacks s b [] p q = go (is_blank b)
  where
    go : (t : Bool) → lacks s (cond t [] (b ∷ [])) ≡ true
    go true = refl
    go false = both (not (b == s)) true p refl
unless_lacks s b (y ∷ ys) p q = both (not (b == s)) (lacks s (y ∷ ys)) p q

end_lacks : (s : ℕ) (xs : List ℕ) → lacks s xs ≡ true → lacks s (without_end xs) ≡ true
end_lacks s [] e = refl
end_lacks s (b ∷ bs) e =
    let p = split (not (b == s)) (lacks s bs) e in
    unless_lacks s b (without_end bs) p.0 (end_lacks s bs p.1)

pub trimmed_lacks : (s : ℕ) (xs : List ℕ) → lacks s xs ≡ true → lacks s (trimmed xs) ≡ true
trimmed_lacks s xs e = end_lacks s (without_front xs) (front_lacks s xs e)

-- trimmed twice
unless_again : (b : ℕ) (ys : List ℕ) → without_end ys ≡ ys → without_end (unless_last b ys) ≡ unless_last b ys
unless_again b [] e = go (is_blank b) refl
  where
    go : (t : Bool) → is_blank b ≡ t → without_end (cond t [] (b ∷ [])) ≡ cond t [] (b ∷ [])
    go true k = refl
    go false k = ap (λ t. cond t [] (b ∷ [])) k
unless_again b (y ∷ ys) e = ap (unless_last b) e

end_again : (xs : List ℕ) → without_end (without_end xs) ≡ without_end xs
end_again [] = refl
end_again (b ∷ bs) = unless_again b (without_end bs) (end_again bs)

-- no blank stands in front
abbrev HasNoFront : List ℕ → Type 0
HasNoFront xs = without_front xs ≡ xs

pub stays : (b : ℕ) (bs : List ℕ) → is_blank b ≡ false → HasNoFront (b ∷ bs)
stays b bs e = ap (λ t. cond t (without_front bs) (b ∷ bs)) e

ended_stays : (b : ℕ) (ys : List ℕ) → is_blank b ≡ false → HasNoFront (unless_last b ys)
ended_stays b [] e = subst (λ (t : Bool). HasNoFront (cond t [] (b ∷ []))) (sym e) (stays b [] e)
ended_stays b (y ∷ ys) e = stays b (y ∷ ys) e

front_of_end : (xs : List ℕ) → HasNoFront (without_end (without_front xs))
front_of_end [] = refl
front_of_end (b ∷ bs) = go (is_blank b) refl (front_of_end bs)
  where
    go : (t : Bool) → is_blank b ≡ t → HasNoFront (without_end (without_front bs)) → HasNoFront (without_end (cond t (without_front bs) (b ∷ bs)))
    go true k ih = ih
    go false k ih = ended_stays b (without_end bs) k

pub trimmed_again : (xs : List ℕ) → trimmed (trimmed xs) ≡ trimmed xs
trimmed_again xs = ap without_end (front_of_end xs) ∙ end_again (without_front xs)

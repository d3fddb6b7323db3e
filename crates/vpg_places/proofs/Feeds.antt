-- Where the first line feed stands, and what stands behind it.
use Rattle.std.proofs.Common.{◌≡◌, ℕ, zero, suc, ◌+◌, ◌-◌, ◌<◌, ◌≤◌, Bool, true, false, cond, List, [], ◌∷◌, length, take, drop, refl, sym, ap, ◌∙◌, arith, length-drop}
use Rattle.std.proofs.lemmas.List.{take_all, drop_all}
use Rattle.vpg_places.specs.Places.{is_line_feed, to_line_feed, behind_feed, behind_feeds}

front_other : (b : ℕ) (bs : List ℕ) → is_line_feed b ≡ false → length (to_line_feed (b ∷ bs)) ≡ suc (length (to_line_feed bs))
front_other b bs e = rw e

in_line : (b : Bool) (x : ℕ) (xs ys : List ℕ) → xs ≡ take (length xs) ys → cond b [] (x ∷ xs) ≡ take (length (cond b [] (x ∷ xs))) (x ∷ ys)
in_line true x xs ys e = refl
in_line false x xs ys e = ap (λ (zs : List ℕ). x ∷ zs) e

-- the line at the front of a text, by its length
pub front_by_length : (s : List ℕ) → to_line_feed s ≡ take (length (to_line_feed s)) s
front_by_length [] = refl
front_by_length (x ∷ xs) = in_line (is_line_feed x) x (to_line_feed xs) xs (front_by_length xs)

behind_line : (b : Bool) (x : ℕ) (xs ys zs : List ℕ) → zs ≡ drop (suc (length xs)) ys → cond b ys zs ≡ drop (suc (length (cond b [] (x ∷ xs)))) (x ∷ ys)
behind_line true x xs ys zs e = refl
behind_line false x xs ys zs e = e

-- what stands behind it
pub behind_by_length : (s : List ℕ) → behind_feed s ≡ drop (suc (length (to_line_feed s))) s
behind_by_length [] = refl
behind_by_length (x ∷ xs) = behind_line (is_line_feed x) x (to_line_feed xs) xs (behind_feed xs) (behind_by_length xs)

shorter : (b : Bool) (x : ℕ) (xs ys : List ℕ) → length xs ≤ length ys → length (cond b [] (x ∷ xs)) ≤ suc (length ys)
shorter true x xs ys h = omega arith
shorter false x xs ys h = omega arith

-- of so many line feeds one is gone behind the first
pub one_feed_less : (n k : ℕ) (s : List ℕ) → n ≡ suc k → behind_feeds n s ≡ behind_feeds k (behind_feed s)
one_feed_less n k s e = rw e

pub behind_at : (s : List ℕ) (n : ℕ) → n ≡ length (to_line_feed s) → take (length s - (n + 1)) (drop (n + 1) s) ≡ behind_feed s
behind_at s n e =
    let short : length (drop (n + 1) s) ≤ length s - (n + 1) = omega (arith, length-drop (n + 1) s) in
    let more : n + 1 ≡ suc (length (to_line_feed s)) = omega arith in
    take_all (length s - (n + 1)) (drop (n + 1) s) short ∙ ap (λ (k : ℕ). drop k s) more ∙ sym (behind_by_length s)

pub behind_none : (s : List ℕ) (n : ℕ) → n ≡ length (to_line_feed s) → length s ≤ n → [] ≡ behind_feed s
behind_none s n e h = sym (behind_by_length s ∙ drop_all (suc (length (to_line_feed s))) s (omega arith))

pub front_at : (s : List ℕ) (n : ℕ) → n ≡ length (to_line_feed s) → take n s ≡ to_line_feed s
front_at s n e = ap (λ (k : ℕ). take k s) e ∙ sym (front_by_length s)

pub front_fits : (s : List ℕ) (n : ℕ) → n ≡ length (to_line_feed s) → n ≡ length (take n s)
front_fits s n e = e ∙ sym (ap length (front_at s n e))

pub feeds_in_nothing : (n : ℕ) (s : List ℕ) → length s ≡ 0 → behind_feeds n s ≡ s
feeds_in_nothing n (x ∷ xs) e = absurd (omega arith)
feeds_in_nothing zero [] e = refl
feeds_in_nothing (suc n) [] e = feeds_in_nothing n [] refl

-- behind one more line feed
pub next_feed : (n k : ℕ) (s t : List ℕ) → k < n → behind_feeds n s ≡ behind_feeds (n - k) t → behind_feeds n s ≡ behind_feeds (n - (k + 1)) (behind_feed t)
next_feed n k s t h e = e ∙ one_feed_less (n - k) (n - (k + 1)) t (omega arith)

-- The column of a byte is one of its line.
use Rattle.std.proofs.Common.{◌≡◌, ℕ, zero, suc, ◌+◌, ◌-◌, ◌*◌, ◌<◌, ◌≤◌, Bool, true, false, cond, List, [], ◌∷◌, ◌++◌, length, take, drop, count_by, refl, sym, ap, ◌∙◌, subst, subst₂, arith, take-append-drop, append-nil}
use Rattle.std.specs.Prelude.{reverse}
use Rattle.std.proofs.lemmas.Bool.{cases_Bool}
use Rattle.std.proofs.lemmas.List.{reverse-append}
use Rattle.std.proofs.lemmas.List.Sums.{sum_by-cons, sum_by-append, sum_by_push, sum_by-take-le}
use Rattle.vpg_places.specs.Places.{is_line_feed, begins_character, to_line_feed, line_of, column_of, behind_feed, behind_feeds, lines_in, line_text, width_of, IsColumnOf, IsWithin}

abbrev feeds : List ℕ → ℕ
feeds xs = count_by is_line_feed xs

one : (p : ℕ → Bool) (x : ℕ) (xs : List ℕ) → count_by p (x ∷ xs) ≡ cond (p x) 1 0 + count_by p xs
one p x xs = sum_by-cons (λ (y : ℕ). cond (p y) 1 0) x xs

joined : (p : ℕ → Bool) (xs ys : List ℕ) → count_by p (xs ++ ys) ≡ count_by p xs + count_by p ys
joined p xs ys = sum_by-append (λ (y : ℕ). cond (p y) 1 0) xs ys

turned : (x : ℕ) (xs : List ℕ) → reverse (x ∷ xs) ≡ reverse xs ++ x ∷ []
turned x xs = reverse-append (x ∷ []) xs

backwards : (p : ℕ → Bool) (xs : List ℕ) → count_by p (reverse xs) ≡ count_by p xs
backwards p [] = refl
backwards p (x ∷ xs) =
    let t = ap (λ (ys : List ℕ). count_by p ys) (turned x xs) in
    let a = joined p (reverse xs) (x ∷ []) in
    let b = one p x [] in
    let c = one p x xs in
    let d = backwards p xs in
    omega arith

-- a line feed at the end ends no earlier line
feed_behind : (xs : List ℕ) (b : ℕ) → is_line_feed b ≡ true → to_line_feed (xs ++ b ∷ []) ≡ to_line_feed xs
feed_behind [] b e = rw e
feed_behind (x ∷ xs) b e = ap (λ (ys : List ℕ). cond (is_line_feed x) [] (x ∷ ys)) (feed_behind xs b e)

-- where a line feed stands, nothing behind it counts
front_alone_step : (t : Bool) (x : ℕ) (xs ys zs : List ℕ) → 0 < cond t 1 0 + feeds xs → (0 < feeds xs → zs ≡ ys) → cond t [] (x ∷ zs) ≡ cond t [] (x ∷ ys)
front_alone_step true x xs ys zs h f = refl
front_alone_step false x xs ys zs h f = ap (λ (us : List ℕ). x ∷ us) (f (omega arith))

front_alone : (xs ys : List ℕ) → 0 < feeds xs → to_line_feed (xs ++ ys) ≡ to_line_feed xs
front_alone [] ys h = absurd (omega arith)
front_alone (x ∷ xs) ys h =
    front_alone_step (is_line_feed x) x xs (to_line_feed xs) (to_line_feed (xs ++ ys)) (subst (λ (n : ℕ). 0 < n) (one is_line_feed x xs) h) (front_alone xs ys)

-- the line at the front has no more characters than the text
narrower_step : (t : Bool) (x : ℕ) (xs ys : List ℕ) → width_of xs ≤ width_of ys → width_of (cond t [] (x ∷ xs)) ≤ width_of (x ∷ ys)
narrower_step true x xs ys h = omega arith
narrower_step false x xs ys h = let a = one begins_character x xs in let b = one begins_character x ys in omega arith

pub narrower : (xs : List ℕ) → width_of (to_line_feed xs) ≤ width_of xs
narrower [] = omega arith
narrower (x ∷ xs) = narrower_step (is_line_feed x) x (to_line_feed xs) xs (narrower xs)

-- what stands before the first line feed belongs to the line
wider_step : (t : Bool) (x : ℕ) (xs ys : List ℕ) → cond t 1 0 + feeds xs ≡ 0 → (feeds xs ≡ 0 → width_of xs ≤ width_of ys) → width_of (x ∷ xs) ≤ width_of (cond t [] (x ∷ ys))
wider_step true x xs ys e f = absurd (omega arith)
wider_step false x xs ys e f = let a = one begins_character x xs in let b = one begins_character x ys in let c = f (omega arith) in omega arith

wider : (xs ys : List ℕ) → feeds xs ≡ 0 → width_of xs ≤ width_of (to_line_feed (xs ++ ys))
wider [] ys e = omega arith
wider (x ∷ xs) ys e = wider_step (is_line_feed x) x xs (to_line_feed (xs ++ ys)) (sym (one is_line_feed x xs) ∙ e) (wider xs ys)

-- the characters before a byte, up to the line feed before it, are some of its line
abbrev IsInLine : List ℕ → List ℕ → ℕ → Type 0
IsInLine t u n = width_of (to_line_feed (reverse t)) ≤ width_of (to_line_feed (behind_feeds n (t ++ u)))

behind_a_feed : (b : ℕ) (t u : List ℕ) (n : ℕ) → is_line_feed b ≡ true → IsInLine t u n → IsInLine (b ∷ t) u (suc n)
behind_a_feed b t u n e h = rw (turned b t, feed_behind (reverse t) b e, e) h

behind_another : (b : ℕ) (t u : List ℕ) (n : ℕ) → is_line_feed b ≡ false → 0 < feeds t → IsInLine t u (suc n) → IsInLine (b ∷ t) u (suc n)
behind_another b t u n e some h =
    let more : 0 < feeds (reverse t) = omega (arith, backwards is_line_feed t) in
    rw (turned b t, front_alone (reverse t) (b ∷ []) more, e) h

in_first : (b : ℕ) (t u : List ℕ) → is_line_feed b ≡ false → feeds t ≡ 0 → IsInLine (b ∷ t) u 0
in_first b t u e none =
    let a = narrower (reverse t ++ b ∷ []) in
    let c = joined begins_character (reverse t) (b ∷ []) in
    let d = backwards begins_character t in
    let f = one begins_character b [] in
    let g = one begins_character b (to_line_feed (t ++ u)) in
    let h = wider t u none in
    let k : to_line_feed (b ∷ (t ++ u)) ≡ b ∷ to_line_feed (t ++ u) = rw e in
    let l : width_of (to_line_feed (reverse t ++ b ∷ [])) ≤ width_of (b ∷ to_line_feed (t ++ u)) = omega arith in
    rw (turned b t, k) l

in_line_step : (x : Bool) (b : ℕ) (t u : List ℕ) (n : ℕ) → is_line_feed b ≡ x → n ≡ feeds t → IsInLine t u n → IsInLine (b ∷ t) u (cond x 1 0 + n)
in_line_step true b t u n e k h = let more : 1 + n ≡ suc n = omega arith in rw more (behind_a_feed b t u n e h)
in_line_step false b t u zero e k h = in_first b t u e (sym k)
in_line_step false b t u (suc n) e k h = let same : 0 + suc n ≡ suc n = omega arith in rw same (behind_another b t u n e (omega arith) h)

pub in_line : (t u : List ℕ) → IsInLine t u (feeds t)
in_line [] u = omega arith
in_line (b ∷ t) u = subst (λ (n : ℕ). IsInLine (b ∷ t) u n) (sym (one is_line_feed b t)) (in_line_step (is_line_feed b) b t u (feeds t) refl refl (in_line t u))

-- the place of a byte lies within the text
pub place_within : (s : List ℕ) (i : ℕ) → IsWithin s (line_of (take i s)) (column_of (take i s))
place_within s i = record {
  first = omega arith;
  last = let a = sum_by-take-le (λ (y : ℕ). cond (is_line_feed y) 1 0) s i in omega arith;
  inside = record {
    first = omega arith;
    last =
        let a = in_line (take i s) (drop i s) in
        let b = rw (take-append-drop i s) at a in
        let c : feeds (take i s) + 1 - 1 ≡ feeds (take i s) = omega arith in
        rw c (omega arith);
  };
}

-- a column before a byte of a line is one of the line
pub column_inside : (s : List ℕ) (i : ℕ) → IsColumnOf s (column_of (take i s))
column_inside s i = record {
  first = omega arith;
  last =
      let a = narrower (reverse (take i s)) in
      let b = backwards begins_character (take i s) in
      let c = sum_by-take-le (λ (y : ℕ). cond (begins_character y) 1 0) s i in
      omega arith;
}

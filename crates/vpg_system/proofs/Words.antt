-- The words of a line, cut off at its front.
use Rattle.std.proofs.Common.{◌≡◌, ℕ, suc, zero, ◌-◌, ◌+◌, ◌<◌, ◌≤◌, Bool, true, false, not, ◌&&◌, cond, List, [], ◌∷◌, ◌++◌, take, drop, length, get_or, refl, sym, ap, ap₂, ◌∙◌, subst, arith}
use Rattle.std.proofs.lemmas.List.{take_more, take_all}
use Rattle.vpg_system.specs.SystemText.{is_blank, is_sign, words, goes_on, in_word, without_front, without_end, unless_last}

-- the first so many bytes are of one word
abbrev pub HasWord : List ℕ → ℕ → Type 0
HasWord text n = (k : ℕ) → k < n → goes_on (drop k text) ≡ true

apart : (a b : Bool) → (not a && not b) ≡ true → (a ≡ false) × (b ≡ false)
apart true b e = absurd (cc)
apart false true e = absurd (cc)
apart false false e = (refl, refl)

-- a byte of a word in front of what is behind it
pub in_front : (b : ℕ) (bs : List ℕ) (t : Bool) (ws : List (List ℕ)) → goes_on (b ∷ bs) ≡ true → goes_on bs ≡ t → words bs ≡ ws → words (b ∷ bs) ≡ in_word b t ws
in_front b bs t ws g e w =
    let p = apart (is_blank b) (is_sign b) g in
    ap (λ x. cond x (words bs) (cond (is_sign b) ((b ∷ []) ∷ words bs) (in_word b (goes_on bs) (words bs)))) p.0
    ∙ (ap (λ x. cond x ((b ∷ []) ∷ words bs) (in_word b (goes_on bs) (words bs))) p.1
    ∙ ap₂ (λ x y. in_word b x y) e w)

-- a word is cut off where it ends
pub word_ends : (text : List ℕ) (n : ℕ) → 0 < n → n ≤ length text → HasWord text n → goes_on (drop n text) ≡ false → words text ≡ take n text ∷ words (drop n text)
word_ends [] n p l h e = absurd (omega arith)
word_ends (b ∷ bs) zero p l h e = absurd (omega arith)
word_ends (b ∷ bs) (suc zero) p l h e = in_front b bs false (words bs) (h 0 (omega arith)) e refl
word_ends (b ∷ bs) (suc (suc m)) p l h e =
    in_front b bs true (take (suc m) bs ∷ words (drop (suc m) bs)) (h 0 (omega arith)) (h 1 (omega arith))
    (word_ends bs (suc m) (omega arith) (omega arith) (λ k j. h (suc k) (omega arith)) e)

-- what stands without blanks in front begins with none
head_if : (t : Bool) (x b : ℕ) (xs bs : List ℕ) → is_blank x ≡ t → b ∷ bs ≡ cond t (without_front xs) (x ∷ xs) → (b ∷ bs ≡ without_front xs → is_blank b ≡ false) → is_blank b ≡ false
head_if true x b xs bs q w ih = ih w
head_if false x b xs bs q w ih = let z : b ≡ x = cc in ap is_blank z ∙ q

front_head : (text : List ℕ) (b : ℕ) (bs : List ℕ) → b ∷ bs ≡ without_front text → is_blank b ≡ false
front_head [] b bs e = absurd (cc)
front_head (x ∷ xs) b bs e = head_if (is_blank x) x b xs bs refl e (front_head xs b bs)

pub front_goes_on : (text r : List ℕ) (d : ℕ) → r ≡ without_front text → 1 ≤ length r → is_sign (get_or r 0 d) ≡ false → goes_on r ≡ true
front_goes_on text [] d e l s = absurd (omega arith)
front_goes_on text (b ∷ bs) d e l s = ap (λ x. not x && not (is_sign b)) (front_head text b bs e) ∙ ap not s

-- blanks at the end
pub end_kept : (xs : List ℕ) (b : ℕ) → is_blank b ≡ false → without_end (xs ++ b ∷ []) ≡ xs ++ b ∷ []
end_kept [] b e = ap (λ t. cond t [] (b ∷ [])) e
end_kept (x ∷ []) b e = ap (unless_last x) (end_kept [] b e)
end_kept (x ∷ y ∷ xs) b e = ap (unless_last x) (end_kept (y ∷ xs) b e)

pub end_dropped : (xs : List ℕ) (b : ℕ) → is_blank b ≡ true → without_end (xs ++ b ∷ []) ≡ without_end xs
end_dropped [] b e = ap (λ t. cond t [] (b ∷ [])) e
end_dropped (x ∷ xs) b e = ap (unless_last x) (end_dropped xs b e)

last_split : (xs : List ℕ) (d : ℕ) → 1 ≤ length xs → take (length xs - 1) xs ++ get_or xs (length xs - 1) d ∷ [] ≡ xs
last_split xs d l =
    let n : length xs - 1 + 1 ≡ length xs = omega (arith, l) in
    sym (take_more xs (length xs - 1) d (omega (arith, l))) ∙ (ap (λ k. take k xs) n ∙ take_all (length xs) xs (omega arith))

pub end_stays : (xs : List ℕ) (d : ℕ) → 1 ≤ length xs → is_blank (get_or xs (length xs - 1) d) ≡ false → without_end xs ≡ xs
end_stays xs d l e =
    subst (λ (ys : List ℕ). without_end ys ≡ ys) (last_split xs d l) (end_kept (take (length xs - 1) xs) (get_or xs (length xs - 1) d) e)

pub end_goes : (xs : List ℕ) (d : ℕ) → 1 ≤ length xs → is_blank (get_or xs (length xs - 1) d) ≡ true → without_end (take (length xs - 1) xs) ≡ without_end xs
end_goes xs d l e =
    sym (end_dropped (take (length xs - 1) xs) (get_or xs (length xs - 1) d) e) ∙ ap without_end (last_split xs d l)

-- What is written piece by piece.
use Rattle.std.proofs.Common.{◌≡◌, ℕ, zero, suc, ◌+◌, ◌<◌, ◌≤◌, List, [], ◌∷◌, ◌++◌, length, take, get_or, Result, Ok, Err, sym, ap, ◌∙◌, subst, append_assoc, append-nil, add-one, arith}
use Rattle.std.specs.Prelude.{OnErr, is_ok, if◌then◌else◌}
use Rattle.std.proofs.lemmas.List.{take_all}

-- a piece, and what is written behind it
pub behind : (before one two piece rest : List ℕ) → one ≡ before ++ piece → two ≡ one ++ rest → two ≡ before ++ (piece ++ rest)
behind before one two piece rest first more = more ∙ ap (λ (bytes : List ℕ). bytes ++ rest) first ∙ append_assoc before piece rest

-- what was refused left the bytes as they were before all of it
pub unwritten : {E : Type 0} (r : Result (Unit {0}) E) (new longer same before : List ℕ) → new ≡ (if is_ok r then longer else same) → same ≡ before → OnErr r (new ≡ before)
unwritten (Ok done) new longer same before is kept = tt
unwritten (Err e) new longer same before is kept = is ∙ kept

-- ---- loops

-- at the end of a loop that counts
pub reached : (v count n : ℕ) → v ≤ count → count ≤ v → count ≡ n → v ≡ n
reached v count n below past is = omega arith

-- one line more
pub line_more : (lines : ℕ → List ℕ) (n : ℕ) (line : List ℕ) → lines (suc n) ≡ lines n ++ line → (before now new : List ℕ) → now ≡ before ++ lines n → new ≡ now ++ line → new ≡ before ++ lines (n + 1)
line_more lines n line next before now new was is =
    subst (λ (m : ℕ). new ≡ before ++ lines m) (sym (add-one n))
    (is ∙ ap (λ (bytes : List ℕ). bytes ++ line) was ∙ append_assoc before (lines n) line ∙ ap (λ (bytes : List ℕ). before ++ bytes) (sym next))

module _ {X : Type 0} (text : List X → List ℕ) where
  -- the text of a list, once the loop is past its end
  pub all_written : (xs : List X) (i : ℕ) (before now : List ℕ) → length xs ≤ i → now ≡ before ++ text (take i xs) → now ≡ before ++ text xs
  all_written xs i before now past was = was ∙ ap (λ (ys : List X). before ++ text ys) (take_all i xs past)

  -- one piece more
  module _ (piece : X → List ℕ) (none : text [] ≡ []) (first : (x : X) (xs : List X) → text (x ∷ xs) ≡ piece x ++ text xs) where
    one_more : (xs : List X) (i : ℕ) (d : X) → i < length xs → text (take (suc i) xs) ≡ text (take i xs) ++ piece (get_or xs i d)
    one_more [] i d l = absurd (omega (arith, l))
    one_more (x ∷ xs) zero d l =
        first x [] ∙ ap (λ (rest : List ℕ). piece x ++ rest) none ∙ append-nil (piece x) ∙ ap (λ (start : List ℕ). start ++ piece x) (sym none)
    one_more (x ∷ xs) (suc i) d l =
        first x (take (suc i) xs) ∙ ap (λ (rest : List ℕ). piece x ++ rest) (one_more xs i d (omega (arith, l)))
        ∙ sym (append_assoc (piece x) (text (take i xs)) (piece (get_or xs i d))) ∙ ap (λ (start : List ℕ). start ++ piece (get_or xs i d)) (sym (first x (take i xs)))

    pub piece_more : (xs : List X) (i : ℕ) (d : X) (before now new : List ℕ) → i < length xs → now ≡ before ++ text (take i xs) → new ≡ now ++ piece (get_or xs i d) → new ≡ before ++ text (take (i + 1) xs)
    piece_more xs i d before now new within was is =
        line_more (λ (n : ℕ). text (take n xs)) i (piece (get_or xs i d)) (one_more xs i d within) before now new was is

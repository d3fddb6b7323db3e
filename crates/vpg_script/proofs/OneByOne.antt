-- The words of a line, one by one.
use Rattle.std.proofs.Common.{◌≡◌, ℕ, suc, zero, ◌≤◌, ◌<◌, List, [], ◌∷◌, ◌++◌, length, take, drop, refl, sym, ap, ◌∙◌, arith}
use Rattle.std.specs.Borrow.{Bor}
use Rattle.vpg_script.specs.Script.{unblanked, word_len, word_and, words_with}
use Rattle.vpg_script.specs.View.{texts}

-- nothing but blanks has no words
pub no_words : (text rest : List ℕ) → rest ≡ unblanked text → rest ≡ [] → (n : ℕ) → words_with n text ≡ []
no_words text rest is empty zero = refl
no_words text rest is empty (suc n) = ap (word_and (words_with n)) (sym is ∙ empty)

-- the first word, and then the others
pub first_of : (text rest word behind : List ℕ) (len : ℕ) → rest ≡ unblanked text → 0 < length rest → len ≡ word_len rest → word ≡ take len rest → behind ≡ drop len rest →
    (n : ℕ) → words_with (suc n) text ≡ word ∷ words_with n behind
first_of text rest word behind len is some len_is front back n =
    ap (word_and (words_with n)) (sym is) ∙ go rest some len_is front back
  where
    go : (rest : List ℕ) → 0 < length rest → len ≡ word_len rest → word ≡ take len rest → behind ≡ drop len rest → word_and (words_with n) rest ≡ word ∷ words_with n behind
    go [] some len_is front back = absurd (omega arith)
    go (b ∷ text) some len_is front back =
        ap (λ (k : ℕ). take k (b ∷ text) ∷ words_with n (drop k (b ∷ text))) (sym len_is)
        ∙ ap (λ (w : List ℕ). w ∷ words_with n (drop len (b ∷ text))) (sym front)
        ∙ ap (λ (t : List ℕ). word ∷ words_with n t) (sym back)

-- so many words of the rest are all that are left
pub record AreLeft (words : List (Bor (List ℕ))) (rest : List ℕ) (all : List (List ℕ)) : Type 0 where
  pub most : ℕ
  pub enough : length rest ≤ most
  pub are : texts words ++ words_with most rest ≡ all

texts_more : (words : List (Bor (List ℕ))) (w : Bor (List ℕ)) (rest : List (List ℕ)) → texts (words ++ w ∷ []) ++ rest ≡ texts words ++ w.now ∷ rest
texts_more [] w rest = refl
texts_more (x ∷ words) w rest = ap (λ (t : List (List ℕ)). x.now ∷ t) (texts_more words w rest)

-- one word more is read
pub one_read : (old new : List (Bor (List ℕ))) (w : Bor (List ℕ)) (rest behind : List ℕ) (all : List (List ℕ)) → new ≡ old ++ w ∷ [] → length behind < length rest →
    ((n : ℕ) → words_with (suc n) rest ≡ w.now ∷ words_with n behind) → AreLeft old rest all → AreLeft new behind all
one_read old new w rest behind all new_is less next left = go left.most left.enough left.are
  where
    go : (n : ℕ) → length rest ≤ n → texts old ++ words_with n rest ≡ all → AreLeft new behind all
    go zero enough are = absurd (omega (arith, less, enough))
    go (suc n) enough are = record {
      most = n;
      enough = omega (arith, less, enough);
      are = ap (λ (ws : List (Bor (List ℕ))). texts ws ++ words_with n behind) new_is ∙ texts_more old w (words_with n behind)
          ∙ ap (λ (ws : List (List ℕ)). texts old ++ ws) (sym (next n)) ∙ are;
    }

nothing_behind : (words : List (List ℕ)) → words ++ [] ≡ words
nothing_behind [] = refl
nothing_behind (w ∷ words) = ap (λ (ws : List (List ℕ)). w ∷ ws) (nothing_behind words)

-- none is left
pub all_read : (words : List (Bor (List ℕ))) (rest : List ℕ) (all : List (List ℕ)) → ((n : ℕ) → words_with n rest ≡ []) → AreLeft words rest all → texts words ≡ all
all_read words rest all none left =
    sym (nothing_behind (texts words)) ∙ ap (λ (ws : List (List ℕ)). texts words ++ ws) (sym (none left.most)) ∙ left.are

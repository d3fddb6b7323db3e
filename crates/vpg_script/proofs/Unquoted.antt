-- The words of a line without quotes: what stands between its blanks.
use Rattle.std.proofs.Common.{◌≡◌, ℕ, suc, zero, ◌+◌, ◌≤◌, Bool, true, false, List, [], ◌∷◌, length, take, drop, refl, sym, ap, ◌∙◌, arith}
use Rattle.std.specs.Prelude.{filter, ◌||◌}
use Rattle.std.specs.List.{list_any, prefix_len, slice_split, onto_first}
use Rattle.vpg_script.specs.Script.{is_blank, is_nonempty, is_quote, is_within_word, unblanked, quoted_len, word_len, word_and, words_with, WordsAreBetweenBlanks}

abbrev parts : List ℕ → List (List ℕ)
parts text = slice_split is_blank text

abbrev kept : List (List ℕ) → List (List ℕ)
kept texts = filter is_nonempty texts

abbrev within : List ℕ → ℕ
within text = prefix_len is_within_word text

-- what stands before the first blank is the first part
record FirstPart (text : List ℕ) : Type 0 where
  more : List (List ℕ)
  first : parts text ≡ take (within text) text ∷ more
  rest : kept more ≡ kept (parts (drop (within text) text))

within_more : (b : ℕ) (text : List ℕ) → is_blank b ≡ false → within (b ∷ text) ≡ suc (within text)
within_more b text is = rw is (omega arith)

within_none : (b : ℕ) (text : List ℕ) → is_blank b ≡ true → within (b ∷ text) ≡ 0
within_none b text is = rw is refl

parts_more : (b : ℕ) (text : List ℕ) → is_blank b ≡ false → parts (b ∷ text) ≡ onto_first b (parts text)
parts_more b text is = rw is refl

parts_blank : (b : ℕ) (text : List ℕ) → is_blank b ≡ true → parts (b ∷ text) ≡ [] ∷ parts text
parts_blank b text is = rw is refl

first_part : (text : List ℕ) → FirstPart text
first_part [] = record { more = []; first = refl; rest = refl }
first_part (b ∷ text) = go (is_blank b) refl (first_part text)
  where
    go : (t : Bool) → is_blank b ≡ t → FirstPart text → FirstPart (b ∷ text)
    go true is next = record {
      more = parts text;
      first = parts_blank b text is ∙ ap (λ (k : ℕ). take k (b ∷ text) ∷ parts text) (sym (within_none b text is));
      rest = sym (ap (λ (k : ℕ). kept (parts (drop k (b ∷ text)))) (within_none b text is) ∙ ap kept (parts_blank b text is));
    }
    go false is next = record {
      more = next.more;
      first = parts_more b text is ∙ ap (onto_first b) next.first ∙ ap (λ (k : ℕ). take k (b ∷ text) ∷ next.more) (sym (within_more b text is));
      rest = next.rest ∙ ap (λ (k : ℕ). kept (parts (drop k (b ∷ text)))) (sym (within_more b text is));
    }

-- one blank less
blanks_more : (b : ℕ) (text : List ℕ) → is_blank b ≡ true → prefix_len is_blank (b ∷ text) ≡ suc (prefix_len is_blank text)
blanks_more b text is = rw is (omega arith)

blanks_none : (b : ℕ) (text : List ℕ) → is_blank b ≡ false → prefix_len is_blank (b ∷ text) ≡ 0
blanks_none b text is = rw is refl

unblanked_more : (b : ℕ) (text : List ℕ) → is_blank b ≡ true → unblanked (b ∷ text) ≡ unblanked text
unblanked_more b text is = ap (λ (k : ℕ). drop k (b ∷ text)) (blanks_more b text is)

unblanked_none : (b : ℕ) (text : List ℕ) → is_blank b ≡ false → unblanked (b ∷ text) ≡ b ∷ text
unblanked_none b text is = ap (λ (k : ℕ). drop k (b ∷ text)) (blanks_none b text is)

kept_blank : (b : ℕ) (text : List ℕ) → is_blank b ≡ true → kept (parts (b ∷ text)) ≡ kept (parts text)
kept_blank b text is = ap kept (parts_blank b text is)

kept_word : (b : ℕ) (text : List ℕ) → is_blank b ≡ false → FirstPart text → kept (parts (b ∷ text)) ≡ (b ∷ take (within text) text) ∷ kept (parts (drop (within text) text))
kept_word b text is next =
    ap kept (parts_more b text is) ∙ ap (λ (ps : List (List ℕ)). kept (onto_first b ps)) next.first ∙ ap (λ (ps : List (List ℕ)). (b ∷ take (within text) text) ∷ ps) next.rest

-- a byte that is no quote
no_first : (b : ℕ) (text : List ℕ) → list_any is_quote (b ∷ text) ≡ false → is_quote b ≡ false
no_first b text none = go (is_quote b) (list_any is_quote text) none
  where
    go : (a c : Bool) → (a || c) ≡ false → a ≡ false
    go false c is = refl
    go true c is = absurd (cc is)

no_others : (b : ℕ) (text : List ℕ) → list_any is_quote (b ∷ text) ≡ false → list_any is_quote text ≡ false
no_others b text none = go (is_quote b) (list_any is_quote text) none
  where
    go : (a c : Bool) → (a || c) ≡ false → c ≡ false
    go false c is = is
    go true c is = absurd (cc is)

none_behind : (n : ℕ) (text : List ℕ) → list_any is_quote text ≡ false → list_any is_quote (drop n text) ≡ false
none_behind zero text none = none
none_behind (suc n) [] none = refl
none_behind (suc n) (b ∷ text) none = none_behind n text (no_others b text none)

none_quoted : (b : ℕ) (text : List ℕ) → is_quote b ≡ false → quoted_len b text ≡ 0
none_quoted b text is = rw is refl

unquoted_word : (b : ℕ) (text : List ℕ) → is_quote b ≡ false → word_len (b ∷ text) ≡ suc (within text)
unquoted_word b text is =
    let same : suc (0 + within text) ≡ suc (within text) = omega arith in
    ap (λ (n : ℕ). suc (n + within (drop n text))) (none_quoted b text is) ∙ same

drop_less : (n : ℕ) (text : List ℕ) → length (drop n text) ≤ length text
drop_less zero text = omega arith
drop_less (suc n) [] = omega arith
drop_less (suc n) (b ∷ text) = omega (arith, drop_less n text)

-- one byte more
one_more : (n b : ℕ) (text : List ℕ) (t : Bool) → is_blank b ≡ t → list_any is_quote (b ∷ text) ≡ false → words_with (suc n) text ≡ kept (parts text) →
    words_with n (drop (within text) text) ≡ kept (parts (drop (within text) text)) → words_with (suc n) (b ∷ text) ≡ kept (parts (b ∷ text))
one_more n b text true is none rest behind =
    ap (word_and (words_with n)) (unblanked_more b text is) ∙ rest ∙ sym (kept_blank b text is)
one_more n b text false is none rest behind =
    ap (word_and (words_with n)) (unblanked_none b text is)
    ∙ ap (λ (k : ℕ). take k (b ∷ text) ∷ words_with n (drop k (b ∷ text))) (unquoted_word b text (no_first b text none))
    ∙ ap (λ (ws : List (List ℕ)). (b ∷ take (within text) text) ∷ ws) behind
    ∙ sym (kept_word b text is (first_part text))

abbrev IsAsBefore : ℕ → Type 0
IsAsBefore n = (text : List ℕ) → length text ≤ n → list_any is_quote text ≡ false → words_with n text ≡ kept (parts text)

more_bytes : (n : ℕ) → IsAsBefore n → IsAsBefore (suc n)
more_bytes n before [] few none = refl
more_bytes n before (b ∷ text) few none =
    one_more n b text (is_blank b) refl none (more_bytes n before text (omega (arith, few)) (no_others b text none))
    (before (drop (within text) text) (omega (arith, few, drop_less (within text) text)) (none_behind (within text) text (no_others b text none)))

no_bytes : IsAsBefore 0
no_bytes [] few none = refl
no_bytes (b ∷ text) few none = absurd (omega (arith, few))

as_before : (n : ℕ) → IsAsBefore n
as_before zero = no_bytes
as_before (suc n) = more_bytes n (as_before n)

pub words_as_before : WordsAreBetweenBlanks
words_as_before line none = as_before (length line) line (omega arith) none

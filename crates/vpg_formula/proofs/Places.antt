-- Where words begin, as the loop over a text counts it.
use Rattle.std.proofs.Common.{◌≡◌, ℕ, suc, ◌+◌, ◌<◌, ◌⊎◌, inl, inr, List, [], ◌∷◌, ◌++◌, length, get_or, drop, refl, sym, ap, ◌∙◌, arith, append_assoc}
use Rattle.std.specs.Borrow.{Bor}
use Rattle.std.proofs.lemmas.Bool.{cases_order}
use Rattle.std.proofs.lemmas.List.{length-append, get_or_append_left}
use Rattle.std.proofs.Math.Seq.{get_or-append_seam}
use Rattle.vpg_formula.specs.Words.{word_len, after_gap}
use Rattle.vpg_formula.specs.ReadCode.{texts}
use Rattle.vpg_formula.specs.Places.{from_word, place_of}

from_alike : (text : List ℕ) (i j : ℕ) → i ≡ j → from_word i text ≡ from_word j text
from_alike text i j e = ap (λ (k : ℕ). from_word k text) e

-- the places of so many words, behind which this is left
pub record HasPlaces (text : List ℕ) (n : ℕ) (places rest : List ℕ) : Type 0 where
  pub count : length places ≡ n
  pub each : (k : ℕ) → k < n → get_or places k 0 ≡ place_of text k
  pub goes : (j : ℕ) → from_word (n + j) text ≡ from_word j rest

-- one more place behind the others
behind_others : (text places : List ℕ) (n at : ℕ) → length places ≡ n → ((k : ℕ) → k < n → get_or places k 0 ≡ place_of text k) → at ≡ place_of text n → (k : ℕ) → k < suc n → get_or (places ++ at ∷ []) k 0 ≡ place_of text k
behind_others text places n at count each here k l = decide (cases_order k n)
  where
    decide : (k ≡ n) ⊎ ((k < n) ⊎ (n < k)) → get_or (places ++ at ∷ []) k 0 ≡ place_of text k
    decide (inl e) =
        let last : k ≡ length places = e ∙ sym count in
        ap (λ (m : ℕ). get_or (places ++ at ∷ []) m 0) last ∙ get_or-append_seam places at [] 0 ∙ here ∙ ap (place_of text) (sym e)
    decide (inr (inl m)) = get_or_append_left places (at ∷ []) 0 k (omega (arith, count, m)) ∙ each k m
    decide (inr (inr m)) = absurd (omega (arith, l, m))

pub places_more : (text places new rest behind : List ℕ) (n m at : ℕ) → HasPlaces text n places rest → new ≡ places ++ at ∷ [] → m ≡ n + 1 → behind ≡ drop (word_len (after_gap rest)) (after_gap rest) → at + length (after_gap rest) ≡ length text → HasPlaces text m new behind
places_more text places new rest behind n m at h put more e f =
    let one : m ≡ suc n = omega (arith, more) in
    let here : from_word n text ≡ after_gap rest = from_alike text n (n + 0) (omega arith) ∙ h.goes 0 in
    let place : at ≡ place_of text n = omega (arith, f, ap length here) in
    let long : length (places ++ at ∷ []) ≡ m = length-append places (at ∷ []) ∙ omega (arith, h.count, one) in
    record {
      count = ap length put ∙ long;
      each = λ k l. ap (λ (t : List ℕ). get_or t k 0) put ∙ behind_others text places n at h.count h.each place k (omega (arith, l, one));
      goes = λ j. from_alike text (m + j) (n + suc j) (omega (arith, one)) ∙ h.goes (suc j) ∙ ap (from_word j) (sym e);
    }

-- one more word behind the others
pub words_more : (old new : List (Bor (List ℕ))) (w : Bor (List ℕ)) (all rest behind : List (List ℕ)) → new ≡ old ++ w ∷ [] → texts old ++ rest ≡ all → rest ≡ w.now ∷ behind → texts new ++ behind ≡ all
words_more old new w all rest behind e f g =
    ap (λ (t : List (Bor (List ℕ))). texts t ++ behind) e ∙ ap (λ (t : List (List ℕ)). t ++ behind) (texts_append old) ∙ append_assoc (texts old) (w.now ∷ []) behind ∙ ap (λ (t : List (List ℕ)). texts old ++ t) (sym g) ∙ f
  where
    texts_append : (old : List (Bor (List ℕ))) → texts (old ++ w ∷ []) ≡ texts old ++ w.now ∷ []
    texts_append [] = refl
    texts_append (x ∷ old) = ap (λ (t : List (List ℕ)). x.now ∷ t) (texts_append old)

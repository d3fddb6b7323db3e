-- Answers in JSON.
use Rattle.std.proofs.Common.{◌≡◌, ℕ, ◌+◌, ◌<◌, ◌≤◌, ◌⊎◌, inl, inr, Bool, true, false, List, [], ◌∷◌, ◌^◌, length, map, take, ◌++◌, Option, Some, None, Result, Ok, Err, refl, sym, ap, ◌∙◌, arith, rules}
use Rattle.std.specs.Prelude.{nat_le, ◌&&◌, slice_index_or}
use Rattle.std.specs.Char.{is_ascii_digit}
use Rattle.std.specs.List.{list_all}
use Rattle.std.specs.Result.{OkIff, result_ok}
use Rattle.std.specs.Str.Parse.{ParsesUnsigned, digits_value}
use Rattle.std.proofs.lemmas.Bool.{cases_Bool, leb-true, le-leb}
use Rattle.std.proofs.lemmas.Str.Parse.{IsNumeralModel, numerals_by_value, parse_digits}
use Rattle.std.proofs.lemmas.List.{take_all}
use Rattle.serde_json.specs.Data.{Data, string, array}
use Rattle.serde_json.specs.View.{view, items_of, items_view}
use Rattle.serde_json.specs.declared.value.Value.{Value}
use Rattle.serde_json.specs.Written.{has_float, items_have_float, compact_text}
use Rattle.vpg_script.specs.Script.{number_of, largest_serial}
use Rattle.vpg_script.specs.Framing.{cause_with, cause_of, words_of, strings, object_of, json_line}
use Rattle.vpg_script.specs.declared.tone.Tone.{Tone}
use Rattle.vpg_script.specs.declared.tone.Tone.TheVariants as tones

-- ---- no number in an object is a float

strings_have : (lines : List (List ℕ)) → items_have_float (items_of (map string lines)) ≡ false
strings_have [] = refl
strings_have (line ∷ lines) = strings_have lines

cause_with_has : (cause argument : List ℕ) (number : Option ℕ) → has_float (cause_with cause argument number) ≡ false
cause_with_has cause argument (Some serial) = refl
cause_with_has cause argument None = refl

cause_has : (words : List (List ℕ)) → has_float (cause_of words) ≡ false
cause_has [] = refl
cause_has (refused ∷ []) = refl
cause_has (refused ∷ cause ∷ []) = refl
cause_has (refused ∷ cause ∷ argument ∷ words) = cause_with_has cause argument (number_of largest_serial argument)

pub object_has : (n : ℕ) (given : Tone) (first : List ℕ) (lines : List (List ℕ)) → has_float (object_of n given first lines) ≡ false
object_has n tones.Done first lines = rw (strings_have lines) refl
object_has n tones.Refused first lines = rw (strings_have lines, cause_has (words_of first)) refl
object_has n tones.Failed first lines = rw (strings_have lines) refl

-- the line of an object
pub json_line_is : {X : Type 0} (now : X → List ℕ) (n : ℕ) (given : Tone) (xs : List X) (d : X) (first : List ℕ) (made : Data) (line : List ℕ)
    → 0 < length xs → first ≡ now (slice_index_or xs 0 d) → made ≡ object_of n given first (map now xs) → (has_float made ≡ false → line ≡ compact_text made ++ 10 ∷ [])
    → line ≡ json_line n given (map now xs)
json_line_is now n given [] d first made line some is so told = absurd (omega (arith, some))
json_line_is now n given (x ∷ xs) d first made line some is so told =
    let o : made ≡ object_of n given (now x) (map now (x ∷ xs)) = so ∙ ap (λ (f : List ℕ). object_of n given f (map now (x ∷ xs))) is in
    told (ap has_float o ∙ object_has n given (now x) (map now (x ∷ xs))) ∙ ap (λ (t : Data). compact_text t ++ 10 ∷ []) o

-- ---- the strings of lines

mapped_twice : {X : Type 0} (now : X → List ℕ) (xs : List X) → map (λ x. string (now x)) xs ≡ map string (map now xs)
mapped_twice now [] = refl
mapped_twice now (x ∷ xs) = ap (λ (t : List Data). string (now x) ∷ t) (mapped_twice now xs)

-- all lines were taken
pub strings_are : {X : Type 0} (now : X → List ℕ) (xs : List X) (i : ℕ) (values : List Value) → length xs ≤ i → map view values ≡ map (λ x. string (now x)) (take i xs) →
    array (items_view values) ≡ strings (map now xs)
strings_are now xs i values all is =
    ap (λ (t : List Data). array (items_of t)) (is ∙ ap (λ (t : List _). map (λ x. string (now x)) t) (take_all i xs all) ∙ mapped_twice now xs)

-- ---- the number of a word of digits

digits : IsNumeralModel (λ ds. list_all is_ascii_digit ds ≡ true) (digits_value 10)
digits = numerals_by_value _ (search rules)

le_no : (a b : ℕ) → ¬ (a < b + 1) → nat_le a b ≡ false
le_no a b l = go (cases_Bool (nat_le a b))
  where
    go : (nat_le a b ≡ true) ⊎ (nat_le a b ≡ false) → nat_le a b ≡ false
    go (inr f) = f
    go (inl t) = absurd (l (omega (arith, leb-true a b t)))

number_is : {E : Type 0} (word : List ℕ) (r : Result ℕ E) → list_all is_ascii_digit word ≡ true → OkIff r ((0 < length word) × (digits_value 10 word < 2 ^ 64)) (digits_value 10 word) →
    result_ok r ≡ number_of largest_serial word
number_is [] (Ok x) all is = absurd (omega (arith, is.0.0))
number_is [] (Err e) all is = refl
number_is (b ∷ word) (Ok x) all is =
    rw (all, le-leb (digits_value 10 (b ∷ word)) largest_serial (omega (arith, is.0.1))) (ap (λ (n : ℕ). Some n) is.1)
number_is (b ∷ word) (Err e) all is =
    rw (all, le_no (digits_value 10 (b ∷ word)) largest_serial (λ l. is (omega arith, omega (arith, l)))) refl

pub serial_is : {E : Type 0} (word : List ℕ) (r : Result ℕ E) → list_all is_ascii_digit word ≡ true → ParsesUnsigned 64 10 word r → result_ok r ≡ number_of largest_serial word
serial_is word r all parsed = number_is word r all (parse_digits digits 64 word r parsed all)

not_number : (word : List ℕ) → list_all is_ascii_digit word ≡ false → number_of largest_serial word ≡ None
not_number [] none = absurd cc
not_number (b ∷ word) none = rw none refl

pub no_serial : (word : List ℕ) → list_all is_ascii_digit word ≡ false → None ≡ number_of largest_serial word
no_serial word none = sym (not_number word none)

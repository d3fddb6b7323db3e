-- Lines and numbers.
use Rattle.std.proofs.Common.{◌≡◌, ℕ, suc, ◌+◌, ◌*◌, ◌<◌, ◌≤◌, Bool, true, false, not, cond, nat_lt, List, [], ◌∷◌, length, take, drop, Option, Some, None, position, min, unwrap_or, ◌-◌, ◌⊎◌, inl, inr, refl, sym, ap, ◌∙◌, subst, arith, one-add}
use Rattle.std.specs.List.{slice_split, onto_first, position_or_len}
use Rattle.std.specs.Char.{digit_value}
use Rattle.std.specs.Option.{SomeIff}
use Rattle.std.specs.Str.Parse.{digits_value_after}
use Rattle.std.proofs.lemmas.Bool.{cases_Bool, ltb-true, ltb-false}
use Rattle.std.proofs.lemmas.List.{length-take, length-drop}
use Rattle.vpg_uvl.specs.Rows.{ends_line, rows_from, parts_of}
use Rattle.vpg_uvl.specs.Views.{row_then}

-- numbers that agree below a bound agree there with more digits
min_step : (x y d c : ℕ) → min x c ≡ min y c → min (x * 10 + d) c ≡ min (y * 10 + d) c
min_step x y d c e = omega (arith, e)

pub bounded_digits : (ds : List ℕ) (x y c : ℕ) → min x c ≡ min y c → min (digits_value_after 10 x ds) c ≡ min (digits_value_after 10 y ds) c
bounded_digits [] x y c e = e
bounded_digits (d ∷ ds) x y c e = bounded_digits ds (x * 10 + digit_value d) (y * 10 + digit_value d) c (min_step x y (digit_value d) c e)

end_here : (b : ℕ) (bs : List ℕ) → ends_line b ≡ true → position_or_len ends_line (b ∷ bs) ≡ 0
end_here b bs e = ap (λ t. cond (not t) (1 + position_or_len ends_line bs) 0) e

end_later : (b : ℕ) (bs : List ℕ) → ends_line b ≡ false → position_or_len ends_line (b ∷ bs) ≡ suc (position_or_len ends_line bs)
end_later b bs e = ap (λ t. cond (not t) (1 + position_or_len ends_line bs) 0) e ∙ one-add (position_or_len ends_line bs)

split_at : (bytes : List ℕ) (k : ℕ) → position_or_len ends_line bytes ≡ k → k < length bytes → slice_split ends_line bytes ≡ take k bytes ∷ slice_split ends_line (drop (suc k) bytes)
split_at [] k e l = absurd (omega arith)
split_at (b ∷ bs) k e l = go (cases_Bool (ends_line b)) (λ j. split_at bs j)
  where
    go : (ends_line b ≡ true) ⊎ (ends_line b ≡ false) → ((j : ℕ) → position_or_len ends_line bs ≡ j → j < length bs → slice_split ends_line bs ≡ take j bs ∷ slice_split ends_line (drop (suc j) bs)) →
        slice_split ends_line (b ∷ bs) ≡ take k (b ∷ bs) ∷ slice_split ends_line (drop (suc k) (b ∷ bs))
    go (inl t) ih =
        let z : 0 ≡ k = sym (end_here b bs t) ∙ e in
        subst (λ (n : ℕ). slice_split ends_line (b ∷ bs) ≡ take n (b ∷ bs) ∷ slice_split ends_line (drop (suc n) (b ∷ bs))) z
        (ap (λ x. cond x ([] ∷ slice_split ends_line bs) (onto_first b (slice_split ends_line bs))) t)
    go (inr f) ih =
        let j = position_or_len ends_line bs in
        let z : suc j ≡ k = sym (end_later b bs f) ∙ e in
        subst (λ (n : ℕ). slice_split ends_line (b ∷ bs) ≡ take n (b ∷ bs) ∷ slice_split ends_line (drop (suc n) (b ∷ bs))) z
        (ap (λ x. cond x ([] ∷ slice_split ends_line bs) (onto_first b (slice_split ends_line bs))) f ∙ ap (onto_first b) (ih j refl (omega arith)))

split_none : (bytes : List ℕ) → length bytes ≤ position_or_len ends_line bytes → slice_split ends_line bytes ≡ bytes ∷ []
split_none [] l = refl
split_none (b ∷ bs) l = go (cases_Bool (ends_line b)) (split_none bs)
  where
    go : (ends_line b ≡ true) ⊎ (ends_line b ≡ false) → (length bs ≤ position_or_len ends_line bs → slice_split ends_line bs ≡ bs ∷ []) → slice_split ends_line (b ∷ bs) ≡ (b ∷ bs) ∷ []
    go (inl t) ih = absurd (let z = end_here b bs t in omega (arith, z, l))
    go (inr f) ih = ap (λ x. cond x ([] ∷ slice_split ends_line bs) (onto_first b (slice_split ends_line bs))) f ∙ ap (onto_first b) (ih (let z = end_later b bs f in omega (arith, z, l)))

pub part_ends : (bytes : List ℕ) (k : ℕ) → position ends_line bytes ≡ Some k → parts_of bytes ≡ take k bytes ∷ parts_of (drop (suc k) bytes)
part_ends bytes k e = go (cases_Bool (nat_lt n (length bytes)))
  where
    n : ℕ
    n = position_or_len ends_line bytes

    go : (nat_lt n (length bytes) ≡ true) ⊎ (nat_lt n (length bytes) ≡ false) → parts_of bytes ≡ take k bytes ∷ parts_of (drop (suc k) bytes)
    go (inl t) =
        let w : Some n ≡ Some k = sym (ap (λ b. cond b (Some n) None) t) ∙ e in
        let z : n ≡ k = cc in
        split_at bytes k z (subst (λ (x : ℕ). x < length bytes) z (ltb-true n (length bytes) t))
    go (inr f) = let w : ◌≡◌ {A = Option ℕ} None (Some k) = sym (ap (λ b. cond b (Some n) None) f) ∙ e in absurd (cc)

pub part_is_last : (bytes : List ℕ) → position ends_line bytes ≡ None → parts_of bytes ≡ bytes ∷ []
part_is_last bytes e = go (cases_Bool (nat_lt n (length bytes)))
  where
    n : ℕ
    n = position_or_len ends_line bytes

    go : (nat_lt n (length bytes) ≡ true) ⊎ (nat_lt n (length bytes) ≡ false) → parts_of bytes ≡ bytes ∷ []
    go (inl t) = let w : ◌≡◌ {A = Option ℕ} (Some n) None = sym (ap (λ b. cond b (Some n) None) t) ∙ e in absurd (cc)
    go (inr f) = split_none bytes (ltb-false n (length bytes) f)

position_within : (bytes : List ℕ) (k : ℕ) → position ends_line bytes ≡ Some k → k < length bytes
position_within bytes k e = go (cases_Bool (nat_lt n (length bytes)))
  where
    n : ℕ
    n = position_or_len ends_line bytes

    go : (nat_lt n (length bytes) ≡ true) ⊎ (nat_lt n (length bytes) ≡ false) → k < length bytes
    go (inl t) =
        let w : Some n ≡ Some k = sym (ap (λ b. cond b (Some n) None) t) ∙ e in
        let z : n ≡ k = cc in
        subst (λ (x : ℕ). x < length bytes) z (ltb-true n (length bytes) t)
    go (inr f) = let w : ◌≡◌ {A = Option ℕ} None (Some k) = sym (ap (λ b. cond b (Some n) None) f) ∙ e in absurd (cc)

length_of_part : (bytes : List ℕ) (k : ℕ) → k < length bytes → length (take k bytes) + 1 ≡ length bytes - length (drop (suc k) bytes)
length_of_part bytes k lt = omega (arith, lt, length-take k bytes, length-drop (suc k) bytes)

-- the rows of a text are those of its first part, and of what stands after the line feed
pub rows_of_part : (start : ℕ) (text rest : List ℕ) (k : ℕ) → position ends_line text ≡ Some k → drop (suc k) text ≡ rest
    → rows_from start (parts_of text) ≡ row_then start (take k text) (rows_from (start + (length text - length rest)) (parts_of rest))
rows_of_part start text rest k e is =
    ap (rows_from start) (part_ends text k e ∙ ap (λ (bs : List ℕ). take k text ∷ parts_of bs) is)
    ∙ ap (λ (n : ℕ). row_then start (take k text) (rows_from n (parts_of rest)))
    (let same : length (take k text) + 1 ≡ length text - length rest = length_of_part text k (position_within text k e) ∙ ap (λ (bs : List ℕ). length text - length bs) is in omega (arith, same))

-- a text without a line feed is one part
pub rows_of_last : (start : ℕ) (text rest : List ℕ) → position ends_line text ≡ None → [] ≡ rest
    → rows_from start (parts_of text) ≡ row_then start text (rows_from (start + (length text - length rest)) (parts_of rest))
rows_of_last start text rest e is =
    ap (rows_from start) (part_is_last text e)
    ∙ ap (λ (bs : List ℕ). row_then start text (rows_from (start + (length text - length bs)) (parts_of bs))) is

-- a digit's value is 36 at most
below_if : (b : Bool) (x y n : ℕ) → x ≤ n → y ≤ n → cond b x y ≤ n
below_if true x y n h k = h
below_if false x y n h k = k

digit_small : (c : ℕ) → digit_value c ≤ 36
digit_small c = digits (cases_Bool (nat_lt c 48))
  where
    lower : cond (nat_lt c 97) 36 (cond (nat_lt c 123) (c - 87) 36) ≤ 36
    lower = below_if (nat_lt c 97) 36 (cond (nat_lt c 123) (c - 87) 36) 36 (omega arith) (at (cases_Bool (nat_lt c 123)))
      where
        at : (nat_lt c 123 ≡ true) ⊎ (nat_lt c 123 ≡ false) → cond (nat_lt c 123) (c - 87) 36 ≤ 36
        at (inl t) = rw t (let l = ltb-true c 123 t in omega (arith, l))
        at (inr f) = rw f (omega arith)

    upper : cond (nat_lt c 65) 36 (cond (nat_lt c 91) (c - 55) (cond (nat_lt c 97) 36 (cond (nat_lt c 123) (c - 87) 36))) ≤ 36
    upper = below_if (nat_lt c 65) 36 (cond (nat_lt c 91) (c - 55) (cond (nat_lt c 97) 36 (cond (nat_lt c 123) (c - 87) 36))) 36 (omega arith) (at (cases_Bool (nat_lt c 91)))
      where
        at : (nat_lt c 91 ≡ true) ⊎ (nat_lt c 91 ≡ false) → cond (nat_lt c 91) (c - 55) (cond (nat_lt c 97) 36 (cond (nat_lt c 123) (c - 87) 36)) ≤ 36
        at (inl t) = rw t (let l = ltb-true c 91 t in omega (arith, l))
        at (inr f) = rw f lower

    digits : (nat_lt c 48 ≡ true) ⊎ (nat_lt c 48 ≡ false) → digit_value c ≤ 36
    digits h = below_if (nat_lt c 48) 36 (cond (nat_lt c 58) (c - 48) (cond (nat_lt c 65) 36 (cond (nat_lt c 91) (c - 55) (cond (nat_lt c 97) 36 (cond (nat_lt c 123) (c - 87) 36))))) 36 (omega arith) (at (cases_Bool (nat_lt c 58)))
      where
        at : (nat_lt c 58 ≡ true) ⊎ (nat_lt c 58 ≡ false) → cond (nat_lt c 58) (c - 48) (cond (nat_lt c 65) 36 (cond (nat_lt c 91) (c - 55) (cond (nat_lt c 97) 36 (cond (nat_lt c 123) (c - 87) 36)))) ≤ 36
        at (inl t) = rw t (let l = ltb-true c 58 t in omega (arith, l))
        at (inr f) = rw f upper

pub digit_or_36 : (o : Option ℕ) (c : ℕ) → SomeIff o (digit_value c < 36) (digit_value c) → unwrap_or o 36 ≡ digit_value c
digit_or_36 None c h = omega (arith, digit_small c, h)
digit_or_36 (Some x) c h = h.1

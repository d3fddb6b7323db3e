-- Columns of words, and the products that they list.
use Rattle.std.proofs.Common.{◌≡◌, ℕ, zero, suc, ◌+◌, ◌*◌, ◌/◌, ◌^◌, ◌<◌, ◌≤◌, List, [], ◌∷◌, ◌++◌, Bool, true, false, cond, length, get_or, map, take, drop, refl, sym, ◌∙◌, ap, ap₂, subst, length-append, length-drop, arith}
use Rattle.std.specs.Global.{Vec}
use Rattle.std.specs.List.{All}
use Rattle.std.proofs.Math.Nat.{pow-suc}
use Rattle.std.proofs.Math.Pow.{pow_mono}
use Rattle.std.proofs.Math.Seq.{take-suc}
use Rattle.std.proofs.lemmas.List.{map-append, get_or-map, drop_more}
use Rattle.std.proofs.lemmas.List.Elements.{All-nil, All-push, All-map, All-get_or}
use Rattle.vpg_number.specs.Counted.{AreDistinct}
use Rattle.vpg_zielonka.specs.Words.{odd, bit, IsListed, in_word, place, IsWordAmong, word_of, columns_of, rows, AreColumns}
use Rattle.vpg_zielonka.proofs.Bits.{odd_of, half_of, bit_first, bit_later}
use Rattle.vpg_zielonka.proofs.Places.{has_listed, place_agrees, agrees_at}

length_mapped : {X Y : Type 0} (f : X → Y) (xs : List X) → length (map f xs) ≡ length xs
length_mapped f [] = refl
length_mapped f (x ∷ xs) = ap suc (length_mapped f xs)

pub rows_count : (columns : List ℕ) (n : ℕ) → length (rows columns n) ≡ n
rows_count columns zero = refl
rows_count columns (suc n) = ap suc (rows_count (map (λ w. w / 2) columns) n)

pub row_count : (columns : List ℕ) (n i : ℕ) → i < n → length (get_or (rows columns n) i []) ≡ length columns
row_count columns zero i l = absurd (omega arith)
row_count columns (suc n) zero l = length_mapped odd columns
row_count columns (suc n) (suc i) l = row_count (map (λ w. w / 2) columns) n i (omega arith)
    ∙ length_mapped (λ w. w / 2) columns

-- the bit of a product in a column says whether it has the feature
pub row_bit : (columns : List ℕ) (n i f : ℕ) → i < n → f < length columns →
    get_or (get_or (rows columns n) i []) f false ≡ bit (get_or columns f 0) i
row_bit columns zero i f l k = absurd (omega arith)
row_bit columns (suc n) zero f l k = get_or-map odd columns f 0 false k ∙ sym (bit_first (get_or columns f 0))
row_bit columns (suc n) (suc i) f l k =
    row_bit (map (λ w. w / 2) columns) n i f (omega arith) (omega (arith, k, length_mapped (λ w. w / 2) columns))
    ∙ ap (λ w. bit w i) (get_or-map (λ w. w / 2) columns f 0 0 k) ∙ sym (bit_later (get_or columns f 0) i)

-- ---- the columns of products

odd_columns : (p : List Bool) (ps : List (List Bool)) (n : ℕ) → n ≤ length p →
    map odd (columns_of (p ∷ ps) n) ≡ take n p
odd_columns p ps zero l = refl
odd_columns p ps (suc n) l =
    map-append odd (columns_of (p ∷ ps) n) (word_of (p ∷ ps) n ∷ [])
    ∙ ap₂ (λ (xs : List Bool) (b : Bool). xs ++ b ∷ []) (odd_columns p ps n (omega arith))
    (odd_of (word_of ps n) (get_or p n false))
    ∙ sym (take-suc p n false (omega arith))

half_columns : (p : List Bool) (ps : List (List Bool)) (n : ℕ) →
    map (λ w. w / 2) (columns_of (p ∷ ps) n) ≡ columns_of ps n
half_columns p ps zero = refl
half_columns p ps (suc n) =
    map-append (λ w. w / 2) (columns_of (p ∷ ps) n) (word_of (p ∷ ps) n ∷ [])
    ∙ ap₂ (λ (xs : List ℕ) w. xs ++ w ∷ []) (half_columns p ps n) (half_of (word_of ps n) (get_or p n false))

take_whole : (p : List Bool) → take (length p) p ≡ p
take_whole [] = refl
take_whole (x ∷ p) = ap (λ (xs : List Bool). x ∷ xs) (take_whole p)

-- the products come back
pub rows_of : (ps : List (List Bool)) (n : ℕ) → ((i : ℕ) → i < length ps → length (get_or ps i []) ≡ n) →
    rows (columns_of ps n) (length ps) ≡ ps
rows_of [] n long = refl
rows_of (p ∷ ps) n long = ap₂ (λ (q : List Bool) (qs : List (List Bool)). q ∷ qs) first
    (rest (rows_of ps n (λ i l. long (suc i) (omega arith))))
  where
    here : length p ≡ n
    here = long 0 (omega arith)

    first : map odd (columns_of (p ∷ ps) n) ≡ p
    first = odd_columns p ps n (omega (arith, here)) ∙ ap (λ k. take k p) (sym here) ∙ take_whole p

    rest : rows (columns_of ps n) (length ps) ≡ ps →
        rows (map (λ w. w / 2) (columns_of (p ∷ ps) n)) (length ps) ≡ ps
    rest again = ap (λ (xs : List ℕ). rows xs (length ps)) (half_columns p ps n) ∙ again

pub columns_count : (ps : List (List Bool)) (n : ℕ) → length (columns_of ps n) ≡ n
columns_count ps zero = refl
columns_count ps (suc n) = length-append (columns_of ps n) (word_of ps n ∷ []) ∙ last (columns_count ps n)
  where
    last : length (columns_of ps n) ≡ n → length (columns_of ps n) + 1 ≡ suc n
    last e = omega (arith, e)

pub word_fits : (ps : List (List Bool)) (f : ℕ) → word_of ps f < 2 ^ length ps
word_fits [] f = omega arith
word_fits (p ∷ ps) f = of (get_or p f false) (word_fits ps f) (pow-suc 2 (length ps))
  where
    of : (b : Bool) → word_of ps f < 2 ^ length ps → 2 ^ suc (length ps) ≡ 2 ^ length ps * 2 →
        word_of ps f * 2 + cond b 1 0 < 2 ^ suc (length ps)
    of true l e = omega (arith, l, e)
    of false l e = omega (arith, l, e)

pub columns_fit : (ps : List (List Bool)) (n : ℕ) → All (λ w. w < 2 ^ length ps) (columns_of ps n)
columns_fit ps zero = All-nil (λ w. w < 2 ^ length ps)
columns_fit ps (suc n) = All-push (λ w. w < 2 ^ length ps) (columns_of ps n) (word_of ps n)
    (columns_fit ps n) (word_fits ps n)

-- what is listed is made of its columns
pub are_columns : (ps : List (List Bool)) (n all : ℕ) (columns : List ℕ) → columns ≡ columns_of ps n →
    ((i : ℕ) → i < length ps → length (get_or ps i []) ≡ n) → length ps ≤ 64 → all + 1 ≡ 2 ^ length ps →
    AreDistinct ps → AreColumns n (length ps) all columns
are_columns ps n all columns same long few whole distinct =
    subst (λ (xs : List ℕ). AreColumns n (length ps) all xs) (sym same) (record {
      few = few;
      wide = columns_count ps n;
      fit = columns_fit ps n;
      whole = whole;
      distinct = subst (λ (qs : List (List Bool)). AreDistinct qs) (sym (rows_of ps n long)) distinct;
    })

-- ---- what columns list

module _ (features count all : ℕ) (columns : List ℕ) (are : AreColumns features count all columns) where
  pub rows_few : length (rows columns count) ≤ 64
  rows_few = omega (arith, rows_count columns count, are.few)

  pub rows_long : (i : ℕ) → i < length (rows columns count) → length (get_or (rows columns count) i []) ≡ features
  rows_long i l = row_count columns count i (omega (arith, l, rows_count columns count)) ∙ are.wide

  pub rows_whole : all + 1 ≡ 2 ^ length (rows columns count)
  rows_whole = are.whole ∙ ap (λ n. 2 ^ n) (sym (rows_count columns count))

  -- a column is the word of a feature
  pub column_word : (f w : ℕ) → f < features → w ≡ get_or columns f 0 →
      IsWordAmong (rows columns count) (λ p. get_or p f false) w
  column_word f w inside is = record {
    inside = subst (λ n. n < 2 ^ length (rows columns count)) (sym is)
        (subst (λ n. get_or columns f 0 < 2 ^ n) (sym (rows_count columns count)) (are.fit f 0 within));
    each = λ p l. each p l;
  }
    where
      within : f < length columns
      within = omega (arith, inside, are.wide)

      each : (p : List Bool) → IsListed (rows columns count) p →
          in_word (rows columns count) w p ≡ get_or p f false
      each p l = has_listed (rows columns count) w p l
          ∙ ap (λ n. bit n (place (rows columns count) p)) is
          ∙ sym (row_bit columns count (place (rows columns count) p) f
          (omega (arith, l, rows_count columns count)) within)
          ∙ agrees_at (get_or (rows columns count) (place (rows columns count) p) []) p
          (place_agrees (rows columns count) p l) f
          (subst (λ n. f < n) (sym (rows_long (place (rows columns count) p) l)) inside)

-- ---- how a column is made

module _ (ps : List (Vec Bool)) (f i : ℕ) (p : Vec Bool) (inside : i < length ps) (is : p ≡ get_or ps i p) where
  pub column_more : (word : ℕ) → word ≡ word_of (map (λ (q : Vec Bool). q.items) (drop (i + 1) ps)) f →
      word * 2 + cond (get_or p.items f false) 1 0 ≡ word_of (map (λ (q : Vec Bool). q.items) (drop i ps)) f
  column_more word e = ap (λ n. n * 2 + cond (get_or p.items f false) 1 0) e
      ∙ sym (ap (λ (qs : List (Vec Bool)). word_of (map (λ (q : Vec Bool). q.items) qs) f) here)
    where
      here : drop i ps ≡ p ∷ drop (i + 1) ps
      here = drop_more ps i p inside ∙ ap (λ (q : Vec Bool). q ∷ drop (i + 1) ps) (sym is)

-- another bit fits, too
pub column_fits : (ps : List (Vec Bool)) (f i word : ℕ) → length ps ≤ 64 → 0 < i → i ≤ length ps →
    word ≡ word_of (map (λ (q : Vec Bool). q.items) (drop i ps)) f → word * 2 + 1 < 2 ^ 64
column_fits ps f i word few some within e = omega (arith, e, fits, count, half)
  where
    fits : word_of (map (λ (q : Vec Bool). q.items) (drop i ps)) f
        < 2 ^ length (map (λ (q : Vec Bool). q.items) (drop i ps))
    fits = word_fits (map (λ (q : Vec Bool). q.items) (drop i ps)) f

    count : length (map (λ (q : Vec Bool). q.items) (drop i ps)) ≤ 63
    count = omega (arith, length_mapped (λ (q : Vec Bool). q.items) (drop i ps), length-drop i ps)

    half : 2 ^ length (map (λ (q : Vec Bool). q.items) (drop i ps)) ≤ 2 ^ 63
    half = pow_mono count

-- each of the lists is as long
pub items_long : (ps : List (Vec Bool)) (n : ℕ) → All (λ (p : Vec Bool). length p.items ≡ n) ps → (i : ℕ) →
    i < length (map (λ (p : Vec Bool). p.items) ps) →
    length (get_or (map (λ (p : Vec Bool). p.items) ps) i []) ≡ n
items_long ps n long i l = All-get_or (λ (xs : List Bool). length xs ≡ n) (map (λ (p : Vec Bool). p.items) ps) i [] l
    (All-map (λ (xs : List Bool). length xs ≡ n) (λ (p : Vec Bool). p.items) ps long)

pub items_count : (ps : List (Vec Bool)) → length (map (λ (p : Vec Bool). p.items) ps) ≡ length ps
items_count ps = length_mapped (λ (p : Vec Bool). p.items) ps

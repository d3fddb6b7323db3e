-- Sets of listed products as words: bit i stands for product i. This project's own.
use Rattle.std.specs.Prelude.{◌≡◌, ℕ, zero, suc, ◌+◌, ◌*◌, ◌/◌, ◌%◌, ◌^◌, ◌<◌, ◌≤◌, ◌==◌, List, [], ◌∷◌, ◌++◌, Bool, true, false, ◌&&◌, not, cond, All, length, map, nat_lt, slice_index_or}
use Rattle.vpg_number.specs.Counted.{AreDistinct}

-- listed products, over a number of features
pub record Listing : Type 0 where
  pub features : ℕ
  pub products : List (List Bool)

-- whether a number is odd
abbrev pub odd : ℕ → Bool
odd n = n % 2 == 1

-- whether a word has a bit
abbrev pub bit : ℕ → ℕ → Bool
bit word i = odd (word / 2 ^ i)

-- whether two tests have the same answer
abbrev pub same : Bool → Bool → Bool
same true other = other
same false other = not other

-- whether a product is the listed one in each feature (features beyond its length are out)
abbrev pub agrees : (listed product : List Bool) → Bool
agrees [] product = true
agrees (x ∷ listed) [] = not x && agrees listed []
agrees (x ∷ listed) (y ∷ product) = same x y && agrees listed product

-- the place of the first listed product that agrees with the product; if none does, the number of the listed ones
abbrev pub place : List (List Bool) → List Bool → ℕ
place [] product = 0
place (listed ∷ products) product = cond (agrees listed product) 0 (suc (place products product))

-- one of the listed products agrees with the product
abbrev pub IsListed : List (List Bool) → List Bool → Type 0
IsListed products product = place products product < length products

-- whether a word has the bit of the first listed product that agrees with the product
abbrev pub in_word : List (List Bool) → ℕ → List Bool → Bool
in_word products word product =
    nat_lt (place products product) (length products) && bit word (place products product)

-- the word has bits of listed products only
abbrev pub Fits : List (List Bool) → ℕ → Type 0
Fits products word = word < 2 ^ length products

-- the word has the products that pass the test
pub record IsWordOf (products : List (List Bool)) (test : List Bool → Bool) (word : ℕ) : Type 0 where
  pub inside : Fits products word
  pub each : (product : List Bool) → in_word products word product ≡ test product

-- of the listed products the word has those that pass the test
pub record IsWordAmong (products : List (List Bool)) (test : List Bool → Bool) (word : ℕ) : Type 0 where
  pub inside : Fits products word
  pub each : (product : List Bool) → IsListed products product → in_word products word product ≡ test product

-- ---- columns

-- the word of the products that have a feature
abbrev pub word_of : List (List Bool) → ℕ → ℕ
word_of [] feature = 0
word_of (product ∷ products) feature = word_of products feature * 2 + cond (slice_index_or product feature false) 1 0

-- the words of the first features
abbrev pub columns_of : List (List Bool) → ℕ → List ℕ
columns_of products zero = []
columns_of products (suc n) = columns_of products n ++ word_of products n ∷ []

-- the first products of these words
abbrev pub rows : List ℕ → ℕ → List (List Bool)
rows columns zero = []
rows columns (suc n) = map odd columns ∷ rows (map (λ word. word / 2) columns) n

-- at most 64 distinct products, as a word for each feature
pub record AreColumns (features count all : ℕ) (columns : List ℕ) : Type 0 where
  pub few : count ≤ 64
  pub wide : length columns ≡ features
  pub fit : All (λ word. word < 2 ^ count) columns
  pub whole : all + 1 ≡ 2 ^ count
  pub distinct : AreDistinct (rows columns count)

-- The winners of some listed products after those of others.
use Rattle.std.proofs.Common.{◌≡◌, ℕ, zero, suc, ◌+◌, ◌-◌, ◌<◌, ◌≤◌, ◌⊎◌, inl, inr, List, [], ◌∷◌, ◌++◌, Bool, true, false, cond, length, get_or, take, drop, refl, sym, ◌∙◌, ap, ap₂, subst, append_assoc, length-append, length-take, length-drop, Contains, arith}
use Rattle.std.specs.Global.{Vec}
use Rattle.std.specs.List.{All}
use Rattle.std.proofs.lemmas.Bool.{cases_Bool, cases_eq, cases_lt}
use Rattle.std.proofs.lemmas.List.{get_or_append_left, get_or-take, get_or-drop, take-map, drop-map}
use Rattle.std.proofs.Math.Seq.{get_or-append_seam}
use Rattle.vpg_sides.specs.declared.player.Player.{Player}
use Rattle.vpg_sides.specs.declared.player.Player.TheVariants.{Even, Odd}
use Rattle.vpg_guards.specs.Formula.{Formula}
use Rattle.vpg_game.specs.Guarded.{GuardedGame}
use Rattle.vpg_determined.specs.Determined.{HasWin}
use Rattle.vpg_number.specs.Counted.{AreDistinct}
use Rattle.vpg_zielonka.specs.declared.universe.Universe.{Universe}
use Rattle.vpg_zielonka.specs.declared.universe.Universe.TheVariants.{Diagrams, Listed}
use Rattle.vpg_zielonka.specs.declared.subset.Subset.TheVariants.{Bits}
use Rattle.vpg_zielonka.specs.declared.winners.Shares.{Shares}
use Rattle.vpg_zielonka.specs.Parts.{game_in}
use Rattle.vpg_zielonka.specs.Universes.{bits_of, has, Grows}
use Rattle.vpg_zielonka.specs.Winners.{AreShared, AreFirstWinners, AreWinnersOf, ArePlayersOf, lists_of, players, winner_by}
use Rattle.vpg_zielonka.specs.Words.{Listing, bit, place, IsWordAmong}
use Rattle.vpg_zielonka.proofs.Columns.{items_long, items_count}
use Rattle.vpg_zielonka.proofs.Places.{place_own, has_listed}

-- ---- the players of a word

pub players_count : (word n : ℕ) → length (players word n) ≡ n
players_count word zero = refl
players_count word (suc n) = length-append (players word n) (winner_by word n ∷ []) ∙ last (players_count word n)
  where
    last : length (players word n) ≡ n → length (players word n) + 1 ≡ suc n
    last e = omega (arith, e)

players_at : (word n k : ℕ) → k < n → get_or (players word n) k Even ≡ winner_by word k
players_at word zero k l = absurd (omega arith)
players_at word (suc n) k l = of (cases_eq k n) (players_at word n k)
  where
    of : (k ≡ n) ⊎ (k ≡ n → ⊥) → (k < n → get_or (players word n) k Even ≡ winner_by word k) →
        get_or (players word n ++ winner_by word n ∷ []) k Even ≡ winner_by word k
    of (inl e) again = ap (λ i. get_or (players word n ++ winner_by word n ∷ []) i Even)
        (e ∙ sym (players_count word n))
        ∙ get_or-append_seam (players word n) (winner_by word n) [] Even ∙ ap (λ i. winner_by word i) (sym e)
    of (inr other) again = get_or_append_left (players word n) (winner_by word n ∷ []) Even k
        (omega (arith, other, players_count word n)) ∙ again (omega (arith, other))

-- one more player
pub players_push : (old found new : List Player) (word i : ℕ) (q : Player) → new ≡ found ++ q ∷ [] →
    q ≡ winner_by word i → found ≡ old ++ players word i → new ≡ old ++ players word (i + 1)
players_push old found new word i q pushed is so =
    pushed ∙ ap₂ (λ (xs : List Player) (r : Player). xs ++ r ∷ []) so is
    ∙ append_assoc old (players word i) (winner_by word i ∷ []) ∙ ap (λ n. old ++ players word n) (sym (more i))
  where
    more : (n : ℕ) → n + 1 ≡ suc n
    more n = omega arith

-- ---- parts of lists

get_or_after : {X : Type 0} (xs ys : List X) (i : ℕ) (d : X) → get_or (xs ++ ys) (length xs + i) d ≡ get_or ys i d
get_or_after [] ys i d = ap (λ n. get_or ys n d) (zeroed i)
  where
    zeroed : (i : ℕ) → 0 + i ≡ i
    zeroed i = omega arith
get_or_after (x ∷ xs) ys i d = ap (λ n. get_or (x ∷ (xs ++ ys)) n d) (more (length xs) i) ∙ get_or_after xs ys i d
  where
    more : (n i : ℕ) → suc n + i ≡ suc (n + i)
    more n i = omega arith

distinct_drop : {X : Type 0} (n : ℕ) (xs : List X) → AreDistinct xs → AreDistinct (drop n xs)
distinct_drop zero xs are = are
distinct_drop (suc n) [] are = are
distinct_drop (suc n) (x ∷ xs) are = distinct_drop n xs are.1

contains_taken : {X : Type 0} (n : ℕ) (xs : List X) (x : X) → Contains (take n xs) x → Contains xs x
contains_taken n xs x c = (c.0, omega (arith, c.1, length-take n xs), sym (get_or-take n xs c.0 x below) ∙ c.2)
  where
    below : c.0 < n
    below = omega (arith, c.1, length-take n xs)

distinct_take : {X : Type 0} (n : ℕ) (xs : List X) → AreDistinct xs → AreDistinct (take n xs)
distinct_take zero xs are = search
distinct_take (suc n) [] are = are
distinct_take (suc n) (x ∷ xs) are = (λ c. are.0 (contains_taken n xs x c), distinct_take n xs are.1)

-- some products of a list, one after another
module _ (products : List (Vec Bool)) (start count : ℕ) where
  pub lists_between : lists_of (take count (drop start products)) ≡ take count (drop start (lists_of products))
  lists_between = sym (take-map (λ (p : Vec Bool). p.items) count (drop start products))
      ∙ ap (λ (xs : List (List Bool)). take count xs) (sym (drop-map (λ (p : Vec Bool). p.items) start products))

  pub distinct_between : AreDistinct (lists_of products) → AreDistinct (lists_of (take count (drop start products)))
  distinct_between are = subst (λ (xs : List (List Bool)). AreDistinct xs) (sym lists_between)
      (distinct_take count (drop start (lists_of products)) (distinct_drop start (lists_of products) are))

-- words stay what they are
pub listing_stays : (listing : Listing) (universe : Universe) → Grows (Listed listing) universe →
    universe ≡ Listed listing
listing_stays listing (Diagrams arena) g = absurd g
listing_stays listing (Listed other) g = ap Listed g

-- ---- the winners

module _ (graph : GuardedGame Formula) (vertex : ℕ) where
  -- those of the next products after those of the first
  pub first_more : (products : List (List Bool)) (found : List Player) (count word : ℕ) →
      AreFirstWinners graph vertex products found → length found + count ≤ length products →
      ArePlayersOf graph vertex (take count (drop (length found) products)) word →
      AreFirstWinners graph vertex products (found ++ players word count)
  first_more products found count word are within next = record {
    count = omega (arith, within, length-append found (players word count), players_count word count);
    each = λ k l. of k l (cases_lt k (length found));
  }
    where
      at : (j : ℕ) → j < count → HasWin (game_in graph (get_or products (length found + j) []))
          (get_or (found ++ players word count) (length found + j) Even) vertex
      at j l = subst (λ (q : Player). HasWin (game_in graph (get_or products (length found + j) [])) q vertex)
          (sym (get_or_after found (players word count) j Even ∙ players_at word count j l))
          (subst (λ (p : List Bool). HasWin (game_in graph p) (winner_by word j) vertex)
          (get_or-take count (drop (length found) products) j [] l ∙ get_or-drop (length found) products j [])
          (next j (omega (
            arith,
            l,
            within,
            length-take count (drop (length found) products),
            length-drop (length found) products,
          ))))

      of : (k : ℕ) → k < length (found ++ players word count) → (k < length found) ⊎ (length found ≤ k) →
          HasWin (game_in graph (get_or products k [])) (get_or (found ++ players word count) k Even) vertex
      of k l (inl before) = subst (λ (q : Player). HasWin (game_in graph (get_or products k [])) q vertex)
          (sym (get_or_append_left found (players word count) Even k before)) (are.each k before)
      of k l (inr after) = subst (λ n. HasWin (game_in graph (get_or products n []))
          (get_or (found ++ players word count) n Even) vertex) back
          (at (k - length found) (omega (arith, l, length-append found (players word count), players_count word count)))
        where
          back : length found + (k - length found) ≡ k
          back = omega (arith, after)

  -- the first ones are all of them
  pub first_all : (products : List (List Bool)) (winners : List Player) → length products ≤ length winners →
      AreFirstWinners graph vertex products winners → AreWinnersOf graph vertex products winners
  first_all products winners long are = record {
    count = omega (arith, are.count);
    each = λ k l. are.each k (omega arith);
  }

  -- the bits of what Even wins stand for the winners
  pub shares_players : (listing : Listing) (n all : ℕ) (shares : Shares) → AreDistinct listing.products →
      ((i : ℕ) → i < length listing.products → length (get_or listing.products i []) ≡ n) →
      IsWordAmong listing.products (λ p. true) all → AreShared (Listed listing) graph vertex (Bits all) shares →
      ArePlayersOf graph vertex listing.products (bits_of shares.won)
  shares_players listing n all shares distinct long whole are k l = of (cases_Bool (bit (bits_of shares.won) k))
    where
      p : List Bool
      p = get_or listing.products k []

      own : place listing.products p ≡ k
      own = place_own n listing.products distinct long k l

      listed : place listing.products p < length listing.products
      listed = subst (λ i. i < length listing.products) (sym own) l

      won_bit : has (Listed listing) shares.won p ≡ bit (bits_of shares.won) k
      won_bit = has_listed listing.products (bits_of shares.won) p listed
          ∙ ap (λ i. bit (bits_of shares.won) i) own

      wins : (q : Player) → winner_by (bits_of shares.won) k ≡ q → HasWin (game_in graph p) q vertex →
          HasWin (game_in graph p) (winner_by (bits_of shares.won) k) vertex
      wins q e win = subst (λ (r : Player). HasWin (game_in graph p) r vertex) (sym e) win

      of : (bit (bits_of shares.won) k ≡ true) ⊎ (bit (bits_of shares.won) k ≡ false) →
          HasWin (game_in graph p) (winner_by (bits_of shares.won) k) vertex
      of (inl e) = wins Even (ap (λ (b : Bool). cond b Even Odd) e) (are.won p (won_bit ∙ e))
      of (inr e) = wins Odd (ap (λ (b : Bool). cond b Even Odd) e) (lost (are.all p (whole.each p listed)))
        where
          lost : (has (Listed listing) shares.won p ≡ true) ⊎ (has (Listed listing) shares.lost p ≡ true) →
              HasWin (game_in graph p) Odd vertex
          lost (inl h) = absurd (clash (sym (sym won_bit ∙ h) ∙ e))
            where
              clash : true ≡ false → ⊥
              clash d = cc
          lost (inr h) = are.lost p h

  -- one block of products
  pub block_players : (listing : Listing) (products : List (Vec Bool)) (n all word : ℕ) (shares : Shares)
      (universe : Universe) → listing.products ≡ lists_of products → AreDistinct (lists_of products) →
      All (λ (p : Vec Bool). length p.items ≡ n) products → IsWordAmong listing.products (λ p. true) all →
      Grows (Listed listing) universe → AreShared universe graph vertex (Bits all) shares →
      word ≡ bits_of shares.won → ArePlayersOf graph vertex (lists_of products) word
  block_players listing products n all word shares universe same distinct long whole grows are is =
      subst (λ w. ArePlayersOf graph vertex (lists_of products) w) (sym is)
      (subst (λ (qs : List (List Bool)). ArePlayersOf graph vertex qs (bits_of shares.won)) same
      (shares_players listing n all shares (subst (λ (qs : List (List Bool)). AreDistinct qs) (sym same) distinct)
      (subst (λ (qs : List (List Bool)). (i : ℕ) → i < length qs → length (get_or qs i []) ≡ n) (sym same)
      (items_long products n long)) whole
      (subst (λ (u : Universe). AreShared u graph vertex (Bits all) shares)
      (listing_stays listing universe grows) are)))

  -- a block after the first products
  pub block_more : (products : List (Vec Bool)) (found new : List Player) (start end count word : ℕ) →
      start ≡ length found → end ≡ start + count → end ≤ length products →
      AreFirstWinners graph vertex (lists_of products) found →
      ArePlayersOf graph vertex (lists_of (take (end - start) (drop start products))) word →
      new ≡ found ++ players word count → AreFirstWinners graph vertex (lists_of products) new
  block_more products found new start end count word starts ends within are next pushed =
      subst (λ (qs : List Player). AreFirstWinners graph vertex (lists_of products) qs) (sym pushed)
      (first_more (lists_of products) found count word are
      (omega (arith, starts, ends, within, items_count products))
      (subst (λ n. ArePlayersOf graph vertex (take count (drop n (lists_of products))) word) starts
      (subst (λ (qs : List (List Bool)). ArePlayersOf graph vertex qs word) (lists_between products start count)
      (subst (λ n. ArePlayersOf graph vertex (lists_of (take n (drop start products))) word) few next))))
    where
      few : end - start ≡ count
      few = omega (arith, ends)

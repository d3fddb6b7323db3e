-- A lift loads one successor after another.
use Rattle.std.proofs.Common.{◌≡◌, ◌≢◌, ℕ, zero, suc, ◌+◌, ◌-◌, ◌<◌, ◌≤◌, max, List, [], ◌∷◌, ◌++◌, length, map, take, set, get_or, refl, sym, ap, ◌∙◌, subst, arith, length-set}
use Rattle.std.proofs.lemmas.List.{get_or-set_same, get_or-set_other, take_all, take_more}
use Rattle.std.specs.Prelude.{slice_index, All}
use Rattle.vpg_sides.specs.declared.player.Player.{Player}
use Rattle.vpg_game.specs.Levels.{top_of}
use Rattle.vpg_game.specs.declared.levels.Level.{Level}
use Rattle.vpg_hope.specs.Games.{Game}
use Rattle.vpg_hope.specs.Arena.{vertex_at}
use Rattle.vpg_sides.specs.declared.which.Which.{Which}
use Rattle.vpg_sides.specs.declared.which.Which.TheVariants.{Hopeful, Dual}
use Rattle.vpg_sides.specs.declared.player.Player.TheVariants.{Even, Odd}
use Rattle.vpg_measure.specs.Lifts.{IsTableOf, best_for, lift_of}
use Rattle.vpg_measure.proofs.Progs.{least_of-le, greatest_of-le, slice_index-le}
use Rattle.vpg_measure.specs.Orders.{OrderView, IsOrder, order_levels, order_arena}
use Rattle.vpg_board.specs.declared.lifter.Lifter.{Lifter}
use Rattle.vpg_board.specs.Places.{vertices, places, place_of, table_in, lift_in, AreProgress, Below}
use Rattle.vpg_board.specs.Lifters.{sees}
use Rattle.vpg_board.specs.Seats.{SeesMore, IsSafe}
use Rattle.vpg_board.specs.Loading.{best_of}
use Rattle.vpg_board.proofs.Tables.{below_self, below_trans, below_write}
use Rattle.vpg_board.proofs.Halves.{table_at, place_less, lift_rises, safe_table}
use Rattle.vpg_board.proofs.Distinct.{successors_apart}

pub sees_none : (v : Lifter) → SeesMore v v
sees_none v = record { same = refl; wide = refl; more = below_self v.seen }

-- one more number was seen
pub sees_one : (v w : Lifter) (p n : ℕ) → SeesMore v w → slice_index w.seen p ≤ n → SeesMore v (sees w p n)
sees_one v w p n h up = record {
  same = ap (λ (x : Lifter). sees x p n) h.same;
  wide = length-set w.seen p n ∙ h.wide;
  more = below_trans v.seen w.seen (set w.seen p n) h.more (below_write w.seen p n up);
}

pub sees_trans : (u v w : Lifter) → SeesMore u v → SeesMore v w → SeesMore u w
sees_trans u v w h k = record {
  same = k.same ∙ ap (λ (x : Lifter). record x { seen = w.seen }) h.same;
  wide = k.wide ∙ h.wide;
  more = below_trans u.seen v.seen w.seen h.more k.more;
}

-- one number was seen, and then more
pub sees_looked : (initial looked w : Lifter) (p n : ℕ) → looked ≡ sees initial p n → slice_index initial.seen p ≤ n → SeesMore looked w → SeesMore initial w
sees_looked initial looked w p n looked_is up more = sees_trans initial looked w (subst (SeesMore initial) (sym looked_is) (sees_one initial initial p n (sees_none initial) up)) more

map_same : (f h : ℕ → ℕ) (xs : List ℕ) (n : ℕ) → ((j : ℕ) → j < n → j < length xs → f (get_or xs j 0) ≡ h (get_or xs j 0)) → map f (take n xs) ≡ map h (take n xs)
map_same f h xs zero each = refl
map_same f h [] (suc n) each = refl
map_same f h (x ∷ xs) (suc n) each = λ k. each 0 (omega arith) (omega arith) k ∷ map_same f h xs n (λ j l m. each (suc j) (omega arith) (omega arith)) k

map_last : (f : ℕ → ℕ) (xs : List ℕ) (y : ℕ) → map f (xs ++ y ∷ []) ≡ map f xs ++ f y ∷ []
map_last f [] y = refl
map_last f (x ∷ xs) y = λ k. f x ∷ map_last f xs y k

place_apart : (order : OrderView) (which : Which) (a b : ℕ) → a ≢ b → place_of order which b ≢ place_of order which a
place_apart order Hopeful a b apart e = apart (omega arith)
place_apart order Dual a b apart e = apart (omega arith)

module _ (order : OrderView) (is : IsOrder order) (which : Which) (v : ℕ) where
  abbrev successors : List ℕ
  successors = (vertex_at (order_arena which order) v).successors

  -- the values of the first successors, and one more
  pub values_more : (seen : List ℕ) (i n : ℕ) → length seen ≡ places order → All (λ w. w < vertices order) successors → i < length successors
      → map (λ w. slice_index (table_in order which (set seen (place_of order which (get_or successors i 0)) n)) w) (take (i + 1) successors)
      ≡ map (λ w. slice_index (table_in order which seen) w) (take i successors) ++ n ∷ []
  values_more seen i n wide closed inside =
      ap (λ l. map new l) (take_more successors i 0 inside)
      ∙ map_last new (take i successors) here
      ∙ (λ k. map_same new old successors i others k ++ last k ∷ [])
    where
      here : ℕ
      here = get_or successors i 0

      old : ℕ → ℕ
      old w = slice_index (table_in order which seen) w

      new : ℕ → ℕ
      new w = slice_index (table_in order which (set seen (place_of order which here) n)) w

      vertex : (j : ℕ) → j < length successors → get_or successors j 0 < vertices order
      vertex j l = closed j 0 l

      last : new here ≡ n
      last = table_at order which (set seen (place_of order which here) n) here (vertex i inside)
          ∙ get_or-set_same seen (place_of order which here) n 0 (omega (arith, place_less order which here (vertex i inside)))

      others : (j : ℕ) → j < i → j < length successors → new (get_or successors j 0) ≡ old (get_or successors j 0)
      others j l m = table_at order which (set seen (place_of order which here) n) (get_or successors j 0) (vertex j m)
          ∙ get_or-set_other seen (place_of order which here) (place_of order which (get_or successors j 0)) n 0
          (place_apart order which here (get_or successors j 0) (λ e. successors_apart order is which v j i l inside (sym e)))
          ∙ sym (table_at order which seen (get_or successors j 0) (vertex j m))

  abbrev owner : Player
  owner = (vertex_at (order_arena which order) v).owner

  abbrev top : ℕ
  top = top_of (order_levels which order)

  seen_wide : (initial w : Lifter) → initial.order ≡ order → SeesMore initial w → IsSafe w → length w.seen ≡ places order
  seen_wide initial w of_order more safe = safe.wide ∙ ap (λ x. places x) (ap (λ (x : Lifter). x.order) more.same ∙ of_order)

  -- one more successor was loaded
  pub after_load : (initial w x : Lifter) (word found i : ℕ) → All (λ s. s < vertices order) successors → i < length successors → word ≡ place_of order which (get_or successors i 0) + 1
      → initial.order ≡ order → SeesMore initial w → IsSafe w → x ≡ sees w (word - 1) found → slice_index w.seen (word - 1) ≤ found
      → SeesMore initial x × ((best better : ℕ) → best ≡ best_of order which w.seen v i → ((limit : ℕ) (values : List ℕ) → best ≡ best_for owner limit values → better ≡ best_for owner limit (values ++ found ∷ [])) → better ≡ best_of order which x.seen v (i + 1))
  after_load initial w x word found i closed inside word_is of_order more safe x_is up =
      (subst (SeesMore initial) (sym x_is) (sees_one initial w (word - 1) found more up), best_now)
    where
      place : ℕ
      place = place_of order which (get_or successors i 0)

      before : word - 1 ≡ place
      before = omega arith

      best_now : (best better : ℕ) → best ≡ best_of order which w.seen v i → ((limit : ℕ) (values : List ℕ) → best ≡ best_for owner limit values → better ≡ best_for owner limit (values ++ found ∷ [])) → better ≡ best_of order which x.seen v (i + 1)
      best_now best better is_best next =
          next top (map (λ s. slice_index (table_in order which w.seen) s) (take i successors)) is_best
          ∙ ap (best_for owner top) (sym (values_more w.seen i found (seen_wide initial w of_order more safe) closed inside))
          ∙ (λ k. best_for owner top (map (λ s. slice_index (table_in order which (set w.seen (sym before k) found)) s) (take (i + 1) successors)))
          ∙ ap (λ (y : Lifter). best_of order which y.seen v (i + 1)) (sym x_is)

  under_order : (initial w : Lifter) → initial.order ≡ order → SeesMore initial w → IsSafe w → (t : List ℕ) → AreProgress order t → Below w.seen t
  under_order initial w of_order more safe = subst (λ x. (t : List ℕ) → AreProgress x t → Below w.seen t) (ap (λ (x : Lifter). x.order) more.same ∙ of_order) safe.under

  seen_table : (initial w : Lifter) → initial.order ≡ order → SeesMore initial w → IsSafe w → IsTableOf (order_levels which order) (order_arena which order) (table_in order which w.seen)
  seen_table initial w of_order more safe = safe_table order which w.seen (seen_wide initial w of_order more safe) (under_order initial w of_order more safe)

  best_at_most : (player : Player) (f : ℕ → ℕ) (ws : List ℕ) (limit : ℕ) → ((w : ℕ) → f w ≤ limit) → best_for player limit (map f ws) ≤ limit
  best_at_most Even f ws limit h = least_of-le limit (map f ws)
  best_at_most Odd f ws limit h = greatest_of-le limit ws f h

  -- the best value is within the top
  pub best_within : (initial w : Lifter) (best i : ℕ) → initial.order ≡ order → SeesMore initial w → IsSafe w → best ≡ best_of order which w.seen v i → best ≤ top
  best_within initial w best i of_order more safe is_best =
      let table = seen_table initial w of_order more safe in
      let h = best_at_most owner (λ s. slice_index (table_in order which w.seen) s) (take i successors) top (slice_index-le top (table_in order which w.seen) table.within) in omega arith

  -- the lift of what was seen
  pub lift_is : (initial w : Lifter) (best lifted i : ℕ) → initial.order ≡ order → SeesMore initial w → IsSafe w → length successors ≤ i → best ≡ best_of order which w.seen v i
      → ((table : List ℕ) → IsTableOf (order_levels which order) (order_arena which order) table → best ≡ best_for owner top (map (λ s. slice_index table s) successors) → lifted ≡ lift_of (order_levels which order) table (vertex_at (order_arena which order) v))
      → lifted ≡ lift_in order which w.seen v
  lift_is initial w best lifted i of_order more safe all is_best law =
      law (table_in order which w.seen) (seen_table initial w of_order more safe) (is_best ∙ ap (λ l. best_for owner top (map (λ s. slice_index (table_in order which w.seen) s) l)) (take_all i successors all))

  abbrev Gives : List Level → Game → ℕ → ℕ → Type 0
  Gives ls arena best lifted = (table : List ℕ) → IsTableOf ls arena table → best ≡ best_for (vertex_at arena v).owner (top_of ls) (map (λ s. slice_index table s) (vertex_at arena v).successors) → lifted ≡ lift_of ls table (vertex_at arena v)

  pub lift_from : (ls : List Level) (arena : Game) (kept : List ℕ) → ls ≡ order_levels which order → arena ≡ order_arena which order → kept ≡ (vertex_at arena v).successors → (initial w : Lifter) (best lifted i : ℕ) → initial.order ≡ order → SeesMore initial w → IsSafe w
      → length kept ≤ i → best ≡ best_of order which w.seen v i → Gives ls arena best lifted → lifted ≡ lift_in order which w.seen v
  lift_from ls arena kept ls_is arena_is kept_is initial w best lifted i of_order more safe all is_best law =
      lift_is initial w best lifted i of_order more safe (subst (λ (l : List ℕ). length l ≤ i) (kept_is ∙ ap (λ a. (vertex_at a v).successors) arena_is) all) is_best
      (subst (λ a. Gives (order_levels which order) a best lifted) arena_is (subst (λ l. Gives l arena best lifted) ls_is law))

  -- the seat has then seen at least the lift of what it had seen before, and more where the word was raised
  pub after_raise : (initial w x : Lifter) (word found lifted : ℕ) → v < vertices order → word ≡ place_of order which v + 1 → initial.order ≡ order → length initial.seen ≡ places order → SeesMore initial w → IsSafe w → lifted ≡ lift_in order which w.seen v
      → x ≡ sees w (word - 1) (max found lifted) → slice_index w.seen (word - 1) ≤ found
      → SeesMore initial x × (lift_in order which initial.seen v ≤ slice_index (table_in order which x.seen) v)
      × (found < lifted → slice_index (table_in order which initial.seen) v < slice_index (table_in order which x.seen) v)
  after_raise initial w x word found lifted less word_is of_order wide more safe lifts x_is up = (
    subst (SeesMore initial) (sym x_is) (sees_one initial w (word - 1) (max found lifted) more (omega arith)),
    omega (arith, now, risen),
    λ raised. omega (arith, now, was, more.more place, up'),
  )
    where
      place : ℕ
      place = place_of order which v

      before : word - 1 ≡ place
      before = omega arith

      now : slice_index (table_in order which x.seen) v ≡ max found lifted
      now = ap (λ (y : Lifter). slice_index (table_in order which y.seen) v) x_is
          ∙ (λ k. slice_index (table_in order which (set w.seen (before k) (max found lifted))) v)
          ∙ table_at order which (set w.seen place (max found lifted)) v less
          ∙ get_or-set_same w.seen place (max found lifted) 0 (omega (arith, place_less order which v less, seen_wide initial w of_order more safe))

      was : slice_index (table_in order which initial.seen) v ≡ slice_index initial.seen place
      was = table_at order which initial.seen v less

      up' : slice_index w.seen place ≤ found
      up' = subst (λ p. slice_index w.seen p ≤ found) before up

      risen : lift_in order which initial.seen v ≤ lift_in order which w.seen v
      risen = lift_rises order which initial.seen w.seen v wide (seen_wide initial w of_order more safe) more.more (under_order initial w of_order more safe)

  -- a word that was no less than the lift when it was loaded is on or above the lift of what the seat had seen before
  pub after_look : (initial looked w : Lifter) (word before lifted : ℕ) → v < vertices order → word ≡ place_of order which v + 1 → initial.order ≡ order → length initial.seen ≡ places order
      → looked ≡ sees initial (word - 1) before → slice_index initial.seen (word - 1) ≤ before → SeesMore looked w → IsSafe w → lifted ≡ lift_in order which w.seen v
      → lifted ≤ before → lift_in order which initial.seen v ≤ slice_index (table_in order which w.seen) v
  after_look initial looked w word before lifted less word_is of_order wide looked_is up more safe lifts low =
      omega (arith, risen, was, more.more place, now)
    where
      place : ℕ
      place = place_of order which v

      first : word - 1 ≡ place
      first = omega arith

      since : SeesMore initial w
      since = sees_looked initial looked w (word - 1) before looked_is up more

      was : slice_index looked.seen place ≡ before
      was = ap (λ (y : Lifter). slice_index y.seen place) looked_is
          ∙ (λ k. slice_index (set initial.seen (first k) before) place)
          ∙ get_or-set_same initial.seen place before 0 (omega (arith, place_less order which v less))

      now : slice_index (table_in order which w.seen) v ≡ slice_index w.seen place
      now = table_at order which w.seen v less

      risen : lift_in order which initial.seen v ≤ lift_in order which w.seen v
      risen = lift_rises order which initial.seen w.seen v wide (seen_wide initial w of_order since safe) since.more (under_order initial w of_order since safe)

-- Each step of the table is the step of its name.
use Rattle.std.proofs.Common.{◌≡◌, ℕ, zero, suc, ◌+◌, ◌-◌, ◌%◌, ◌^◌, ◌<◌, max, true, cond, List, [], ◌∷◌, ◌++◌, length, set, get_or, refl, sym, ap, ◌∙◌, subst, arith, take, drop, add-one}
use Rattle.std.proofs.lemmas.List.Elements.{All-from_get_or}
use Rattle.std.specs.Prelude.{slice_index, All}
use Rattle.std.proofs.lemmas.Bool.Decides.{nat_tests}
use mathlib.Core.Option.{some, none, some-injective, some-ne-none}
use lib.ListN.{get_elem?}
use Rattle.atomic_table.specs.Table.{State, Me, step, keeps, opening, Allows, Splits, Joins, Final, Seen}
use Rattle.atomic_table.proofs.Lists.{set_here, set_else, set_again}
use Rattle.vpg_measure.specs.Orders.{OrderView, IsOrder}
use Rattle.vpg_board.specs.declared.lifter.Lifter.{Lifter}
use Rattle.vpg_board.specs.Places.{places, values, lift_at, AreProgress, Below}
use Rattle.vpg_board.specs.Lifters.{opener, spent, sees, claims, splits, newcomer, both}
use Rattle.vpg_board.specs.Run.{BoardState, Move, load, raise, claim, split, join, lifter, IsHere, opened, after, May, Reached, raised_to}
use Rattle.vpg_board.specs.Rule.{HasSeen, MeasuresKept, times}
use Rattle.vpg_board.specs.Seats.{IsSafe, AreSeatClaims}
use Rattle.vpg_board.specs.Taken.{IsOnBoard, Takes}
use Rattle.vpg_board.specs.Steps.{Shows, IsBoard, Leads, after_load, after_raise, after_claim, after_split, after_join, Loads, Raises, Claims, Looks}
use Rattle.vpg_board.proofs.Totals.{at_get, at_below}
use Rattle.vpg_board.proofs.Known.{claims_of_seat, safe_of_seat, below_word, claim_word, claims_reached, measures_reached}

index_word : (c : ℕ) (t : List ℕ) (i : ℕ) → 0 < i → get_or (c ∷ t) i 0 ≡ get_or t (i - 1) 0
index_word c t zero h = absurd (omega arith)
index_word c t (suc p) h = let e : p ≡ suc p - 1 = omega arith in ap (λ k. get_or t k 0) e

set_word : (c n : ℕ) (t : List ℕ) (i : ℕ) → 0 < i → set (c ∷ t) i n ≡ c ∷ set t (i - 1) n
set_word c n t zero h = absurd (omega arith)
set_word c n t (suc p) h = let e : p ≡ suc p - 1 = omega arith in ap (λ k. c ∷ set t k n) e

set_same : (t : List ℕ) (i : ℕ) → set t i (get_or t i 0) ≡ t
set_same [] i = refl
set_same (x ∷ t) zero = refl
set_same (x ∷ t) (suc i) = ap (λ u. x ∷ u) (set_same t i)

-- what stands in a list is there once at least
times_there : (ns : List ℕ) (k : ℕ) → k < length ns → 0 < times (get_or ns k 0) ns
times_there [] k h = absurd (omega arith)
times_there (n ∷ ns) zero h = let e : cond {A = ℕ} (Rattle.std.specs.Prelude.nat_eq n n) 1 0 ≡ 1 = grind (arith, nat_tests) in omega arith
times_there (n ∷ ns) (suc k) h = let a = times_there ns k (omega arith) in omega arith

abbrev S : Type 0
S = State (Unit {0}) Lifter

abbrev M : Type 0
M = Me (Unit {0}) Lifter

module _ (order : OrderView) where
  abbrev Holds : S → Type 0
  Holds = IsBoard order

  -- one step more
  next : (b : BoardState) (m : Move) → Reached order b → May order b m → Reached order (after order b m)
  next b m r may = (m ∷ r.0, (r.1, subst (λ x. May order x m) (sym r.2) may), ap (λ x. after order x m) r.2)

  -- the view of a seat is its lifter
  mine : (s : S) (b : BoardState) (id : ℕ) (v : Lifter) → Shows s b → get_elem? s.views id ≡ some v → lifter b id ≡ v
  mine s b id v shows at = at_get b.lifters id v spent (subst (λ l. get_elem? l id ≡ some v) shows.views at)

  is_here : (s : S) (b : BoardState) (id : ℕ) (v : Lifter) → Shows s b → get_elem? s.views id ≡ some v → 0 < v.stands → IsHere b id
  is_here s b id v shows at stands =
      let there = at_below b.lifters id v (subst (λ l. get_elem? l id ≡ some v) shows.views at) in
      (omega arith, subst (λ (x : Lifter). 0 < x.stands) (sym (mine s b id v shows at)) stands)

  pub begins : Holds (opening (0 ∷ values order) [] (opener order))
  begins = (opened order, ([], tt, refl), record { words = refl; views = refl })

  -- what a step leads to is a board
  pub led : (m : Move) (s t : S) → Leads order m s t → Holds t
  led m s t l = (after order l.board m, next l.board m l.reached l.may, l.behind)

  -- the seat took the step
  taken : (m : ℕ → Move) (s t : S) (id : ℕ) (v w : Lifter) → v.order ≡ order → Leads order (m id) s t → get_elem? s.views id ≡ some v → get_elem? t.views id ≡ some w → Takes m v w
  taken m s t id v w same l at at' = record {
    board = l.board;
    id = id;
    reached = subst (λ x. Reached x l.board) (sym same) l.reached;
    before = subst (λ (vs : List Lifter). get_elem? vs id ≡ some v) l.before.views at;
    may = subst (λ x. May x l.board (m id)) (sym same) l.may;
    behind = subst (λ x. get_elem? (after x l.board (m id)).lifters id ≡ some w) (sym same) (subst (λ (vs : List Lifter). get_elem? vs id ≡ some w) l.behind.views at');
  }

  pub on_board : (s : S) (id : ℕ) (v : Lifter) → v.order ≡ order → Holds s → get_elem? s.views id ≡ some v → IsOnBoard v
  on_board s id v same holds at = record {
    board = holds.0;
    id = id;
    reached = subst (λ x. Reached x holds.0) (sym same) holds.1;
    there = subst (λ (vs : List Lifter). get_elem? vs id ≡ some v) holds.2.views at;
  }

  pub load_leads : (s : S) (id i : ℕ) (v : Lifter) → Holds s → get_elem? s.views id ≡ some v → 0 < v.stands → 0 < i → i - 1 < places order → Leads order (load id (i - 1)) s (after_load s id v i)
  load_leads s id i v holds at stands some_word low =
      let b = holds.0 in let shows = holds.2 in let is = mine s b id v shows at in
      let p : ℕ = i - 1 in
      let found : ℕ = slice_index s.words i in
      let there : found ≡ get_or b.measures p 0 = ap (λ l. get_or l i 0) shows.words ∙ index_word b.claimed b.measures i some_word in
      let m : Move = load id p in record {
        board = b;
        reached = holds.1;
        before = shows;
        may = (is_here s b id v shows at stands, low);
        behind = record {
          words = ap (λ l. set l i (get_or l i 0)) shows.words ∙ set_same (b.claimed ∷ b.measures) i;
          views = λ j. set (shows.views j) id (sees (sym is j) p (there j));
        };
      }

  pub raise_leads : (s : S) (id i : ℕ) (v : Lifter) → Holds s → get_elem? s.views id ≡ some v → 0 < v.stands → 0 < i → i - 1 < places order → Leads order (raise id (i - 1)) s (after_raise s id v order i)
  raise_leads s id i v holds at stands some_word low =
      let b = holds.0 in let shows = holds.2 in let is = mine s b id v shows at in
      let p : ℕ = i - 1 in
      let there : slice_index s.words i ≡ get_or b.measures p 0 = ap (λ l. get_or l i 0) shows.words ∙ index_word b.claimed b.measures i some_word in
      let lifts : lift_at order v.seen p ≡ lift_at order (lifter b id).seen p = ap (λ (x : Lifter). lift_at order x.seen p) (sym is) in record {
        board = b;
        reached = holds.1;
        before = shows;
        may = (is_here s b id v shows at stands, low);
        behind = record {
          words = (λ j. set (shows.words j) i (max (there j) (lifts j))) ∙ set_word b.claimed (raised_to order b id p) b.measures i some_word;
          views = λ j. set (shows.views j) id (sees (sym is j) p (max (there j) (lifts j)));
        };
      }

  pub split_leads : (s : S) (id : ℕ) (v : Lifter) → Holds s → get_elem? s.views id ≡ some v → 0 < v.stands → v.opening ≡ true → v.splits < 63 → Leads order (split id) s (after_split s id v)
  split_leads s id v holds at stands opens few =
      let b = holds.0 in let is = mine s b id v holds.2 at in record {
        board = b;
        reached = holds.1;
        before = holds.2;
        may = (is_here s b id v holds.2 at stands, ap (λ x. x.opening) is ∙ opens, subst (λ (x : Lifter). x.splits < 63) (sym is) few);
        behind = record { words = holds.2.words; views = λ j. set (holds.2.views j) id (splits (sym is j)) ++ newcomer (sym is j) ∷ [] };
      }

  pub join_leads : (s : S) (id other : ℕ) (v w : Lifter) → Holds s → get_elem? s.views id ≡ some v → 0 < v.stands → ¬ (other ≡ id) → get_elem? s.views other ≡ some w → 0 < w.stands → Leads order (join id other) s (after_join s id v other w)
  join_leads s id other v w holds at stands apart at' stands' =
      let b = holds.0 in let is = mine s b id v holds.2 at in let is' = mine s b other w holds.2 at' in record {
        board = b;
        reached = holds.1;
        before = holds.2;
        may = (is_here s b id v holds.2 at stands, is_here s b other w holds.2 at' stands', apart);
        behind = record { words = holds.2.words; views = λ j. set (set (holds.2.views j) id (both (sym is j) (sym is' j))) other spent };
      }

  pub splitting : (id : ℕ) (v : Lifter) → 0 < v.stands → v.opening ≡ true → v.splits < 63 → Splits Holds id v (splits v) (newcomer v)
  splitting id v stands opens few s holds at = led (split id) s (after_split s id v) (split_leads s id v holds at stands opens few)

  pub joining : (id : ℕ) (v : Lifter) (other : ℕ) (w : Lifter) → 0 < v.stands → 0 < w.stands → Joins Holds id v other w (both v w) spent
  joining id v other w stands stands' s holds at apart there =
      let at' : get_elem? s.views other ≡ some w = sym (set_else s.views id other (both v w) apart) ∙ there in
      led (join id other) s (after_join s id v other w) (join_leads s id other v w holds at stands apart at' stands')

  module _ (is_order : IsOrder order) where
    kept : (s : S) (holds : Holds s) → MeasuresKept order holds.0
    kept s holds = measures_reached order is_order holds.0 holds.1

    -- what the rule says of a seat
    seat : (s : S) (holds : Holds s) (id : ℕ) (v : Lifter) → get_elem? s.views id ≡ some v → 0 < v.stands → HasSeen order holds.0.measures v
    seat s holds id v at stands = (kept s holds).seen id v (subst (λ l. get_elem? l id ≡ some v) holds.2.views at) stands

    safe : (s : S) (holds : Holds s) (id : ℕ) (v : Lifter) → get_elem? s.views id ≡ some v → 0 < v.stands → IsSafe v
    safe s holds id v at stands = safe_of_seat order holds.0.measures v (seat s holds id v at stands) (kept s holds).under

    claimed : (s : S) (holds : Holds s) (id : ℕ) (v : Lifter) → get_elem? s.views id ≡ some v → 0 < v.stands → AreSeatClaims v
    claimed s holds id v at stands =
        claims_of_seat order holds.0 id v (claims_reached order holds.0 holds.1) (subst (λ l. get_elem? l id ≡ some v) holds.2.views at) (seat s holds id v at stands).order_is

    -- the word of the claims
    pub claim_leads : (s : S) (id : ℕ) (v : Lifter) → Holds s → get_elem? s.views id ≡ some v → 0 < v.stands → v.empty ≡ 0 → Leads order (claim id) s (after_claim s id v)
    claim_leads s id v holds at stands none_left =
        let b = holds.0 in let shows = holds.2 in let is = mine s b id v shows at in
        let found : ℕ = slice_index s.words 0 in
        let there : found ≡ b.claimed = ap (λ l. get_or l 0 0) shows.words in
        let size' : places v.order ≡ places order = ap (λ x. places x) (seat s holds id v at stands).order_is in
        let small = claim_word order b (claims_reached order b holds.1) in
        let few = is_order.game.few in
        let up : (found + 1) % 2 ^ 64 ≡ b.claimed + 1 = mod_small (found + 1) (omega arith) ∙ ap (λ n. n + 1) there in record {
          board = b;
          reached = holds.1;
          before = shows;
          may = (is_here s b id v shows at stands, ap (λ (x : Lifter). x.empty) is ∙ none_left);
          behind = record { words = λ j. set (shows.words j) 0 (up j); views = λ j. set (shows.views j) id (claims (size' j) (sym is j) (there j)) };
        }
      where
        mod_small : (n : ℕ) → n < 2 ^ 64 → n % 2 ^ 64 ≡ n
        mod_small n h = omega arith

    pub loads : (slots id : ℕ) (v : M) (i : ℕ) → 0 < i → i - 1 < places order → 0 < v.0.stands → Allows Holds slots id v i (λ n. n) (Loads (step slots i 0 0 none) v)
    loads slots id v i some_word low stands s holds len at fits =
        let of_order = (seat s holds id v.0 at stands).order_is in
        let w : Lifter = sees v.0 (i - 1) (slice_index s.words i) in
        let t : S = after_load s id v.0 i in
        let l = load_leads s id i v.0 holds at stands some_word low in
        let holds' = led (load id (i - 1)) s t l in
        let there : slice_index s.words i ≡ get_or holds.0.measures (i - 1) 0 = ap (λ k. get_or k i 0) holds.2.words ∙ index_word holds.0.claimed holds.0.measures i some_word in
        let at' : get_elem? t.views id ≡ some w = set_here s.views id w (omega (arith, at_below s.views id v.0 at)) in (
          w,
          keeps,
          tt,
          holds',
          (refl, let h = (seat s holds id v.0 at stands).under (i - 1) in omega arith, safe t holds' id w at' stands, taken (λ j. load j (i - 1)) s t id v.0 w of_order l at at', on_board t id w of_order holds' at'),
        )

    pub raises : (slots id : ℕ) (v : M) (i k : ℕ) → 0 < i → i - 1 < places order → 0 < v.0.stands → k ≡ lift_at order v.0.seen (i - 1) → Allows Holds slots id v i (λ n. max n k) (Raises (step slots i k 0 none) v)
    raises slots id v i k some_word low stands lifts s holds len at fits =
        let of_order = (seat s holds id v.0 at stands).order_is in
        let w : Lifter = sees v.0 (i - 1) (max (slice_index s.words i) k) in
        let t : S = record { words = set s.words i (max (slice_index s.words i) k); homes = s.homes; views = set s.views id w } in
        let l : Leads order (raise id (i - 1)) s t =
        subst (λ n. Leads order (raise id (i - 1)) s (record { words = set s.words i (max (slice_index s.words i) n); homes = s.homes; views = set s.views id (sees v.0 (i - 1) (max (slice_index s.words i) n)) })) (sym lifts)
        (raise_leads s id i v.0 holds at stands some_word low) in
        let holds' = led (raise id (i - 1)) s t l in
        let there : slice_index s.words i ≡ get_or holds.0.measures (i - 1) 0 = ap (λ m. get_or m i 0) holds.2.words ∙ index_word holds.0.claimed holds.0.measures i some_word in
        let at' : get_elem? t.views id ≡ some w = set_here s.views id w (omega (arith, at_below s.views id v.0 at)) in (
          w,
          keeps,
          tt,
          holds',
          (refl, let h = (seat s holds id v.0 at stands).under (i - 1) in omega arith, safe t holds' id w at' stands, taken (λ j. raise j (i - 1)) s t id v.0 w of_order l at at', on_board t id w of_order holds' at'),
        )

    pub claiming : (slots id : ℕ) (v : M) → 0 < v.0.stands → v.0.empty ≡ 0 → Allows Holds slots id v 0 (λ n. (n + 1) % 2 ^ 64) (Claims (step slots 0 1 0 none) v)
    claiming slots id v stands none_left s holds len at fits =
        let found : ℕ = slice_index s.words 0 in
        let of_order = (seat s holds id v.0 at stands).order_is in
        let w : Lifter = claims (places v.0.order) v.0 found in
        let t : S = after_claim s id v.0 in
        let l = claim_leads s id v.0 holds at stands none_left in
        let holds' = led (claim id) s t l in
        let there : found ≡ holds.0.claimed = ap (λ k. get_or k 0 0) holds.2.words in
        let ruled = claims_reached order holds.0 holds.1 in
        let was = subst (λ k. get_elem? k id ≡ some v.0) holds.2.views at in
        let at' : get_elem? t.views id ≡ some w = set_here s.views id w (omega (arith, at_below s.views id v.0 at)) in (
          w,
          keeps,
          tt,
          holds',
          (
            refl,
            All-from_get_or (λ n. n < found) v.0.claims 0 (λ k h. let low = below_word order holds.0 id v.0 ruled was (get_or v.0.claims k 0) (times_there v.0.claims k h) in omega arith),
            claimed t holds' id w at' stands,
            taken claim s t id v.0 w of_order l at at',
            on_board t id w of_order holds' at',
          ),
        )

    pub looks : (slots id : ℕ) (v : M) → 0 < v.0.stands → Allows Holds slots id v 0 (λ n. n) (Looks (step slots 0 0 0 none) v)
    looks slots id v stands s holds len at fits =
        let same : s ≡ record { words = set s.words 0 (slice_index s.words 0); homes = s.homes; views = set s.views id v.0 } = λ j. record { words = sym (set_same s.words 0) j; homes = s.homes; views = sym (set_again s.views id v.0 at) j } in
        let of_order = (seat s holds id v.0 at stands).order_is in
        (v.0, keeps, tt, subst Holds same holds, (refl, safe s holds id v.0 at stands, claimed s holds id v.0 at stands, on_board s id v.0 of_order holds at))

    -- the words at the end
    pub ends : (id : ℕ) (v : Lifter) (words : List ℕ) (xs : List (Unit {0})) → 0 < v.stands → Final (Seen Holds id v) words xs
        → (c : ℕ) × (measures : List ℕ) × (words ≡ c ∷ measures) × Below v.seen measures × (length measures ≡ places order) × Below (values order) measures × ((t : List ℕ) → AreProgress order t → Below measures t)
    ends id v words xs stands final =
        let s = final.0 in let holds = final.1.0 in let b = holds.0 in
        let k = kept s holds in
        (b.claimed, b.measures, sym final.2 ∙ holds.2.words, (seat s holds id v final.1.1 stands).under, k.wide, k.over, k.under)

pub take_next : (ws : List ℕ) (from i x : ℕ) → get_elem? ws (from + i) ≡ some x → take (i + 1) (drop from ws) ≡ take i (drop from ws) ++ x ∷ []
take_next ws from i x h = ap (λ n. take n (drop from ws)) (add-one i) ∙ later (drop from ws) i (down ws from h)
  where
    later : (t : List ℕ) (i : ℕ) → get_elem? t i ≡ some x → take (suc i) t ≡ take i t ++ x ∷ []
    later [] i e = absurd (some-ne-none x (sym e))
    later (y ∷ t) zero e = ap (λ z. z ∷ []) (some-injective y x e)
    later (y ∷ t) (suc i) e = ap (λ l. y ∷ l) (later t i e)

    down : (ws : List ℕ) (from : ℕ) → get_elem? ws (from + i) ≡ some x → get_elem? (drop from ws) i ≡ some x
    down ws zero e = ap (λ k. get_elem? ws k) (let q : i ≡ 0 + i = omega arith in q) ∙ e
    down [] (suc n) e = absurd (some-ne-none x (sym e))
    down (y ∷ t) (suc n) e = down t n (ap (λ k. get_elem? (y ∷ t) k) (let q : suc (n + i) ≡ suc n + i = omega arith in q) ∙ e)

-- Steps that lifters took, one after another.
use Rattle.std.proofs.Common.{◌≡◌, ℕ, ◌+◌, ◌-◌, ◌<◌, ◌≤◌, Bool, true, false, true≢false, not, cond, ◌||◌, List, [], ◌∷◌, ◌++◌, length, map, take, set, get_or, Option, Some, None, refl, sym, ap, ap₂, ◌∙◌, subst, arith}
use Rattle.std.specs.Prelude.{All, IfSome, IfNone, MatchOption, is_some}
use Rattle.std.proofs.lemmas.Bool.{lt-ltb, le-ltb}
use Rattle.std.proofs.lemmas.List.{take_more, take_all}
use mathlib.Core.Option.{some}
use lib.ListN.{get_elem?}
use Rattle.atomic_table.specs.Seated.{TableId}
use Rattle.atomic_table.proofs.Lists.{set_here, at_longer, at_last}
use Rattle.vpg_hope.specs.Arena.{vertex_at}
use Rattle.vpg_sides.specs.declared.which.Which.{Which}
use Rattle.vpg_measure.specs.Orders.{OrderView, order_arena}
use Rattle.vpg_board.specs.declared.lifter.Lifter.{Lifter}
use Rattle.vpg_board.specs.Places.{vertices, places, place_of}
use Rattle.vpg_board.specs.Lifters.{opener, spent, claims, splits, newcomer, both}
use Rattle.vpg_board.specs.Run.{BoardState, Move, load, split, lifter, opened, after, May, Reached}
use Rattle.vpg_board.specs.Taken.{IsOnBoard, Takes, TakesAll, load_of}
use Rattle.vpg_board.specs.Seats.{SeesMore, IsSafe, AreSeatClaims, IsSeat}
use Rattle.vpg_board.proofs.Totals.{at_get, at_below}
use Rattle.vpg_board.proofs.Halves.{place_less}
use Rattle.vpg_board.proofs.Known.{claims_of_splits, claims_of_newcomer}

pub takes_next : (ms : List (ℕ → Move)) (m : ℕ → Move) (u v w : Lifter) → TakesAll ms u v → Takes m v w → TakesAll (ms ++ m ∷ []) u w
takes_next [] m u v w same step = (w, subst (λ (x : Lifter). Takes m x w) (sym same) step, refl)
takes_next (n ∷ ms) m u v w all step = (all.0, all.1, takes_next ms m all.0 v w all.2 step)

map_last : {A : Type 0} (f : ℕ → A) (xs : List ℕ) (y : ℕ) → map f (xs ++ y ∷ []) ≡ map f xs ++ f y ∷ []
map_last f [] y = refl
map_last f (x ∷ xs) y = ap (λ l. f x ∷ l) (map_last f xs y)

-- a word of a vertex was loaded
pub load_there : (order : OrderView) (which : Which) (x word : ℕ) (v w : Lifter) → word ≡ place_of order which x + 1 → Takes (λ j. load j (word - 1)) v w → Takes (load_of order which x) v w
load_there order which x word v w is step = let e : word - 1 ≡ place_of order which x = omega arith in subst (λ p. Takes (λ j. load j p) v w) e step

-- one more of a list was loaded
pub loads_next : (order : OrderView) (which : Which) (xs : List ℕ) (i word : ℕ) (u v w : Lifter) → i < length xs → word ≡ place_of order which (get_or xs i 0) + 1
    → TakesAll (map (load_of order which) (take i xs)) u v → Takes (λ j. load j (word - 1)) v w → TakesAll (map (load_of order which) (take (i + 1) xs)) u w
loads_next order which xs i word u v w inside is all step =
    subst (λ ms. TakesAll ms u w) (sym (ap (λ l. map (load_of order which) l) (take_more xs i 0 inside) ∙ map_last (load_of order which) (take i xs) (get_or xs i 0)))
    (takes_next (map (load_of order which) (take i xs)) (load_of order which (get_or xs i 0)) u v w all (load_there order which (get_or xs i 0) word v w is step))

-- all were loaded
pub loads_all : (order now : OrderView) (which : Which) (x i : ℕ) (u w : Lifter) → order ≡ now → length (vertex_at (order_arena which order) x).successors ≤ i
    → TakesAll (map (load_of order which) (take i (vertex_at (order_arena which order) x).successors)) u w → TakesAll (map (load_of now which) (vertex_at (order_arena which now) x).successors) u w
loads_all order now which x i u w same all steps =
    subst (λ o. TakesAll (map (load_of o which) (vertex_at (order_arena which o) x).successors) u w) same
    (subst (λ l. TakesAll (map (load_of order which) l) u w) (take_all i (vertex_at (order_arena which order) x).successors all) steps)

pub opener_on_board : (order : OrderView) → IsOnBoard (opener order)
opener_on_board order = record { board = opened order; id = 0; reached = ([], tt, refl); there = refl }

-- a lifter of a board may take a step where it knows enough
on_after : (b : BoardState) (v : Lifter) (m : Move) → Reached v.order b → May v.order b m → Reached v.order (after v.order b m)
on_after b v m r may = (m ∷ r.0, (r.1, subst (λ x. May v.order x m) (sym r.2) may), ap (λ x. after v.order x m) r.2)

module _ (v : Lifter) (on : IsOnBoard v) (stands : 0 < v.stands) (opens : v.opening ≡ true) (few : v.splits < 63) where
  is : lifter on.board on.id ≡ v
  is = at_get on.board.lifters on.id v spent on.there

  less : on.id < length on.board.lifters
  less = omega (arith, at_below on.board.lifters on.id v on.there)

  may : May v.order on.board (split on.id)
  may = ((less, subst (λ (x : Lifter). 0 < x.stands) (sym is) stands), ap (λ (x : Lifter). x.opening) is ∙ opens, subst (λ (x : Lifter). x.splits < 63) (sym is) few)

  pub takes_split : Takes split v (splits v)
  takes_split = record {
    board = on.board;
    id = on.id;
    reached = on.reached;
    before = on.there;
    may = may;
    behind = subst (λ (x : Lifter). get_elem? (after v.order on.board (split on.id)).lifters on.id ≡ some (splits x)) is
        (at_longer (set on.board.lifters on.id (splits (lifter on.board on.id))) (newcomer (lifter on.board on.id) ∷ []) on.id (splits (lifter on.board on.id)) (set_here on.board.lifters on.id (splits (lifter on.board on.id)) less));
  }

  pub on_board_splits : IsOnBoard (splits v)
  unfolding takes_split
  on_board_splits = record { board = after v.order on.board (split on.id); id = on.id; reached = on_after on.board v (split on.id) on.reached may; there = takes_split.behind }

  pub on_board_newcomer : IsOnBoard (newcomer v)
  on_board_newcomer = record {
    board = after v.order on.board (split on.id);
    id = length (set on.board.lifters on.id (splits (lifter on.board on.id)));
    reached = on_after on.board v (split on.id) on.reached may;
    there = subst (λ (x : Lifter). get_elem? (after v.order on.board (split on.id)).lifters (length (set on.board.lifters on.id (splits (lifter on.board on.id)))) ≡ some (newcomer x)) is
        (at_last (set on.board.lifters on.id (splits (lifter on.board on.id))) (newcomer (lifter on.board on.id)) (length (set on.board.lifters on.id (splits (lifter on.board on.id)))) refl);
  }

-- ---- the seats of a split

newcomer_safe : (v : Lifter) → IsSafe v → IsSafe (newcomer v)
newcomer_safe v safe = record { wide = safe.wide; over = safe.over; under = safe.under }

splits_safe : (v : Lifter) → IsSafe v → IsSafe (splits v)
splits_safe v safe = record { wide = safe.wide; over = safe.over; under = safe.under }

pub seat_splits : (table : TableId) (v : Lifter) (opening : Bool) (count : ℕ) (done : Bool) → IsSeat table v opening count done → v.opening ≡ true → v.splits < 63 → IsSeat table (splits v) opening (count + 1) done
seat_splits table v opening count done i opens few = record {
  words = i.words;
  stands = i.stands;
  safe = splits_safe v i.safe;
  claims = claims_of_splits v opens few i.claims;
  run = on_board_splits v i.run i.stands opens few;
  splits = ap (λ n. n + 1) i.splits;
  opens = i.opens;
  open_claims = i.open_claims;
  no_more = i.no_more;
}

pub seat_newcomer : (table : TableId) (v : Lifter) (opening : Bool) (count : ℕ) (done : Bool) → IsSeat table v opening count done → v.opening ≡ true → v.splits < 63 → IsSeat table (newcomer v) false 0 false
seat_newcomer table v opening count done i opens few = record {
  words = i.words;
  stands = omega arith;
  safe = newcomer_safe v i.safe;
  claims = claims_of_newcomer v;
  run = on_board_newcomer v i.run i.stands opens few;
  splits = refl;
  opens = refl;
  open_claims = λ _. refl;
  no_more = λ f. absurd (true≢false (sym f));
}

-- ---- the seat of a join

none_empty : (a b : Bool) (m n : ℕ) → (a ≡ false → m ≡ 0) → (b ≡ false → n ≡ 0) → (a || b) ≡ false → m + n ≡ 0
none_empty true b m n p q f = absurd (true≢false f)
none_empty false true m n p q f = absurd (true≢false f)
none_empty false false m n p q f = omega (arith, p refl, q refl)

some_empty : (a b : Bool) (m n : ℕ) → (a ≡ true → 0 < m) → (b ≡ true → 0 < n) → (a || b) ≡ true → 0 < m + n
some_empty true b m n p q f = omega (arith, p refl)
some_empty false true m n p q f = omega (arith, q refl)
some_empty false false m n p q f = absurd (true≢false (sym f))

pub seat_both : (t t' t'' : TableId) (v w x : Lifter) (o o' o'' : Bool) (n n' : ℕ) (d d' d'' : Bool) → IsSeat t v o n d → IsSeat t' w o' n' d' → t'' ≡ t → x ≡ both v w
    → IsSafe x → AreSeatClaims x → IsOnBoard x → o'' ≡ (o || o') → d'' ≡ (d || d') → IsSeat t'' x o'' (n + n') d''
seat_both t t' t'' v w x o o' o'' n n' d d' d'' i j table is safe claims run opening done = record {
  words = ap (λ (k : TableId). k.words) table ∙ i.words ∙ ap (λ (y : Lifter). places y.order + 1) (sym is);
  stands = subst (λ (y : Lifter). 0 < y.stands) (sym is) (omega (arith, i.stands, j.stands));
  safe = safe;
  claims = claims;
  run = run;
  splits = ap (λ (y : Lifter). y.splits) is ∙ ap₂ (λ (a b : ℕ). a + b) i.splits j.splits;
  opens = ap (λ (y : Lifter). y.opening) is ∙ ap₂ (λ (a b : Bool). a || b) i.opens j.opens ∙ sym opening;
  open_claims = λ f. ap (λ (y : Lifter). y.empty) is ∙ none_empty d d' v.empty w.empty i.open_claims j.open_claims (sym done ∙ f);
  no_more = λ f. subst (λ (y : Lifter). 0 < y.empty) (sym is) (some_empty d d' v.empty w.empty i.no_more j.no_more (sym done ∙ f));
}

-- ---- the seat of a claim

-- where the claim was a place, and where none was left
claims_some : (size n : ℕ) (v : Lifter) → n < size → claims size v n ≡ record v { claims = v.claims ++ n ∷ [] }
claims_some size n v less = ap (λ (b : Bool). record v { claims = cond b (v.claims ++ n ∷ []) v.claims; empty = cond b v.empty (v.empty + 1) }) (lt-ltb n size less)

claims_none : (size n : ℕ) (v : Lifter) → size ≤ n → claims size v n ≡ record v { empty = v.empty + 1 }
claims_none size n v more = ap (λ (b : Bool). record v { claims = cond b (v.claims ++ n ∷ []) v.claims; empty = cond b v.empty (v.empty + 1) }) (le-ltb n size more)

-- a claim that found this number, and what it gave
module _ (order : OrderView) (v w : Lifter) (n : ℕ) (found : Option (Which × ℕ)) (at : MatchOption found (places order ≤ n) (λ c. (c.1 < vertices order) × (place_of order c.0 c.1 ≡ n)))
    (same : v.order ≡ order) (is : w ≡ claims (places v.order) v n) where
  abbrev At : Option (Which × ℕ) → Type 0
  At r = MatchOption r (places order ≤ n) (λ c. (c.1 < vertices order) × (place_of order c.0 c.1 ≡ n))

  is_place : (c : Which × ℕ) → At (Some c) → n < places v.order
  is_place c h = subst (λ x. n < places x) (sym same) (subst (λ p. p < places order) h.1 (place_less order c.0 c.1 h.0))

  is_past : At None → places v.order ≤ n
  is_past h = subst (λ x. places x ≤ n) (sym same) h

  pub claim_vertex : IfSome found (λ c. c.1 < vertices order)
  claim_vertex = by found at
    where
      by : (r : Option (Which × ℕ)) → At r → IfSome r (λ c. c.1 < vertices order)
      by None h = tt
      by (Some c) h = h.0

  pub claim_place : IfSome found (λ c. w ≡ record v { claims = v.claims ++ place_of order c.0 c.1 ∷ [] })
  claim_place = by found at
    where
      by : (r : Option (Which × ℕ)) → At r → IfSome r (λ c. w ≡ record v { claims = v.claims ++ place_of order c.0 c.1 ∷ [] })
      by None h = tt
      by (Some c) h = is ∙ claims_some (places v.order) n v (is_place c h) ∙ ap (λ (p : ℕ). record v { claims = v.claims ++ p ∷ [] }) (sym h.1)

  pub claim_later : All (λ m. m < n) v.claims → IfSome found (λ c. All (λ m. m < place_of order c.0 c.1) v.claims)
  claim_later all = by found at
    where
      by : (r : Option (Which × ℕ)) → At r → IfSome r (λ c. All (λ m. m < place_of order c.0 c.1) v.claims)
      by None h = tt
      by (Some c) h = subst (λ (p : ℕ). All (λ m. m < p) v.claims) (sym h.1) all

  pub claim_none : IfNone found ((w ≡ record v { empty = w.empty }) × (0 < w.empty))
  claim_none = by found at
    where
      by : (r : Option (Which × ℕ)) → At r → IfNone r ((w ≡ record v { empty = w.empty }) × (0 < w.empty))
      by None h =
          let e : w ≡ record v { empty = v.empty + 1 } = is ∙ claims_none (places v.order) n v (is_past h) in
          (e ∙ ap (λ (k : ℕ). record v { empty = k }) (sym (ap (λ (y : Lifter). y.empty) e)), subst (λ (y : Lifter). 0 < y.empty) (sym e) (omega arith))
      by (Some c) h = tt

  claim_empty : (done : Bool) → is_some found ≡ not done → v.empty ≡ 0 → (done ≡ false → w.empty ≡ 0) × (done ≡ true → 0 < w.empty)
  claim_empty done e none = by found at e
    where
      by : (r : Option (Which × ℕ)) → At r → is_some r ≡ not done → (done ≡ false → w.empty ≡ 0) × (done ≡ true → 0 < w.empty)
      by None h e' = (λ f. absurd (true≢false (sym (e' ∙ ap not f))), λ _. subst (λ (y : Lifter). 0 < y.empty) (sym (is ∙ claims_none (places v.order) n v (is_past h))) (omega arith))
      by (Some c) h e' = (λ _. ap (λ (y : Lifter). y.empty) (is ∙ claims_some (places v.order) n v (is_place c h)) ∙ none, λ t. absurd (true≢false (e' ∙ ap not t)))

  pub seat_claims : (table table' : TableId) (opening : Bool) (count : ℕ) (done : Bool) → IsSeat table v opening count false → table' ≡ table → AreSeatClaims w → IsOnBoard w → is_some found ≡ not done → IsSeat table' w opening count done
  seat_claims table table' opening count done i table_is kept run given = record {
    words = ap (λ (k : TableId). k.words) table_is ∙ i.words ∙ ap (λ (y : Lifter). places y.order + 1) (sym is);
    stands = subst (λ (y : Lifter). 0 < y.stands) (sym is) i.stands;
    safe = subst IsSafe (sym is) (record { wide = i.safe.wide; over = i.safe.over; under = i.safe.under });
    claims = kept;
    run = run;
    splits = ap (λ (y : Lifter). y.splits) is ∙ i.splits;
    opens = ap (λ (y : Lifter). y.opening) is ∙ i.opens;
    open_claims = (claim_empty done given (i.open_claims refl)).0;
    no_more = (claim_empty done given (i.open_claims refl)).1;
  }

-- ---- the seat of a lift

pub seat_sees : (table table' : TableId) (v w : Lifter) (opening : Bool) (count : ℕ) (done : Bool) → IsSeat table v opening count done → table' ≡ table → SeesMore v w → IsSafe w → IsOnBoard w → IsSeat table' w opening count done
seat_sees table table' v w opening count done i table_is more safe run = record {
  words = ap (λ (k : TableId). k.words) table_is ∙ i.words ∙ ap (λ (y : Lifter). places y.order + 1) (sym more.same);
  stands = subst (λ (y : Lifter). 0 < y.stands) (sym more.same) i.stands;
  safe = safe;
  claims = subst AreSeatClaims (sym more.same) (record { once = i.claims.once; below = i.claims.below; room = i.claims.room; few = i.claims.few; all = i.claims.all });
  run = run;
  splits = ap (λ (y : Lifter). y.splits) more.same ∙ i.splits;
  opens = ap (λ (y : Lifter). y.opening) more.same ∙ i.opens;
  open_claims = λ f. ap (λ (y : Lifter). y.empty) more.same ∙ i.open_claims f;
  no_more = λ t. subst (λ (y : Lifter). 0 < y.empty) (sym more.same) (i.no_more t);
}

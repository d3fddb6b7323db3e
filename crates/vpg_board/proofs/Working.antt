-- Lifters that lift what they claim.
use Rattle.std.proofs.Common.{◌≡◌, ◌≢◌, ℕ, ◌<◌, ◌≤◌, List, [], ◌∷◌, ◌++◌, length, refl, sym, ap, ap₂, ◌∙◌, subst, true, false, arith}
use Rattle.std.proofs.lemmas.Bool.Decides.{nat_tests}
use Rattle.std.specs.Prelude.{◌||◌, slice_index}
use mathlib.Core.Logic.{dite}
use native.Mathlib.Decide.{ℕ_discrete, dec_lt}
use Rattle.vpg_hope.specs.Arena.{vertex_at}
use Rattle.vpg_sides.specs.declared.which.Which.{Which}
use Rattle.vpg_measure.specs.Lifts.{lift_of, IsBelowTable}
use Rattle.vpg_measure.specs.Orders.{OrderView, IsOrder, order_levels, order_arena, order_table}
use Rattle.vpg_board.specs.declared.lifter.Lifter.{Lifter}
use Rattle.vpg_board.specs.Places.{vertices, places, place_of, values, table_in, lift_in, lift_at}
use Rattle.vpg_board.specs.Lifters.{opener, splits, newcomer, both}
use Rattle.vpg_board.specs.Rule.{times}
use Rattle.vpg_board.specs.Seats.{BoardView, SeatView, opening_seat, SeesMore, IsSafe, AreAll, HasAllAtEnd}
use Rattle.vpg_board.specs.Worked.{Worked, Works, SameStand, HasWorked}
use Rattle.vpg_board.proofs.Totals.{times-append}
use Rattle.vpg_board.proofs.Tables.{below_greater, below_greater_right}
use Rattle.vpg_board.proofs.Halves.{table_at, table_wide, place_less, lift_place, lift_rises, values_wide, values_in}

times_other : (n p : ℕ) → p ≢ n → times n (p ∷ []) ≡ 0
times_other n p h = grind (arith, nat_tests)

pub worked_opener : (order : OrderView) → Worked (opener order)
worked_opener order p h = absurd (omega arith)

pub worked_newcomer : (v : Lifter) → Worked (newcomer v)
worked_newcomer v p some = absurd (omega arith)

-- the lifter where what it has seen rose, and its claims stayed
worked_more : (v w : Lifter) → SeesMore v w → Worked v → Worked w
worked_more v w more h p some =
    subst (λ (x : Lifter). lift_at x.order (values x.order) p ≤ slice_index w.seen p) (sym more.same)
    (let a = h p (subst (λ (x : Lifter). 0 < times p x.claims) more.same some) in let b = more.more p in omega arith)

-- one more place was claimed, and lifted
pub worked_claim : (v w x : Lifter) (which : Which) (u : ℕ) → u < vertices v.order → length (values v.order) ≡ places v.order → IsSafe v → w ≡ record v { claims = v.claims ++ place_of v.order which u ∷ [] } → SeesMore w x
    → lift_in v.order which w.seen u ≤ slice_index (table_in v.order which x.seen) u → Worked v → Worked x
worked_claim v w x which u less wide safe w_is more lifted h q some = dite (ℕ_discrete p q) here elsewhere
  where
    p : ℕ
    p = place_of v.order which u

    same : x ≡ record v { seen = x.seen; claims = v.claims ++ p ∷ [] }
    same = more.same ∙ ap (λ (y : Lifter). record y { seen = x.seen }) w_is

    seen : w.seen ≡ v.seen
    seen = ap (λ (y : Lifter). y.seen) w_is

    rises : lift_at v.order (values v.order) p ≤ slice_index x.seen p
    rises = omega (
      arith,
      lift_place v.order which (values v.order) u less,
      lift_rises v.order which (values v.order) v.seen u wide safe.wide safe.over safe.under,
      subst (λ l. lift_in v.order which l u ≤ slice_index (table_in v.order which x.seen) u) seen lifted,
      table_at v.order which x.seen u less,
    )

    at : (k : ℕ) → lift_at v.order (values v.order) k ≤ slice_index x.seen k → lift_at x.order (values x.order) k ≤ slice_index x.seen k
    at k = subst (λ (y : Lifter). lift_at y.order (values y.order) k ≤ slice_index x.seen k) (sym same)

    here : p ≡ q → lift_at x.order (values x.order) q ≤ slice_index x.seen q
    here e = at q (subst (λ k. lift_at v.order (values v.order) k ≤ slice_index x.seen k) e rises)

    elsewhere : p ≢ q → lift_at x.order (values x.order) q ≤ slice_index x.seen q
    elsewhere apart =
        let t = times-append q v.claims (p ∷ []) in
        let o = times_other q p apart in
        let c = ap (λ (y : Lifter). times q y.claims) same in
        let a = h q (omega arith) in
        let b = subst (λ (l : List ℕ). slice_index l q ≤ slice_index x.seen q) seen (more.more q) in
        at q (omega arith)

pub worked_both : (v w : Lifter) → v.order ≡ w.order → Worked v → Worked w → Worked (both v w)
worked_both v w same h k p some =
    let t = times-append p v.claims w.claims in dite (dec_lt 0 (times p v.claims))
    (λ mine. omega (arith, h p mine, below_greater v.seen w.seen p))
    (λ none. omega (arith, subst (λ x. lift_at x (values x) p ≤ slice_index w.seen p) (sym same) (k p (omega arith)), below_greater_right v.seen w.seen p))

pub same_stand : (v : Lifter) → SameStand v v
same_stand v = record { opening = refl; stands = refl }

-- where all places were claimed and lifted, the harvest is on or above the lift of the order's tables
pub all_lifted : (order : OrderView) → IsOrder order → (v : Lifter) (which : Which) (table : List ℕ) → v.order ≡ order → length v.seen ≡ places order → AreAll order v.claims → Worked v → IsBelowTable (table_in order which v.seen) table
    → (u : ℕ) → u < vertices order → lift_of (order_levels which order) (order_table which order) (vertex_at (order_arena which order) u) ≤ slice_index table u
all_lifted order is v which table same wide all worked below u less =
    let p : ℕ = place_of order which u in
    let claimed : 0 < times p v.claims = let a = all p in let b = once p (places order) (place_less order which u less) in omega arith in
    let w = subst (λ x. lift_at x (values x) p ≤ slice_index v.seen p) same (worked p claimed) in
    let l : lift_in order which (values order) u ≡ lift_of (order_levels which order) (order_table which order) (vertex_at (order_arena which order) u) =
    ap (λ t. lift_of (order_levels which order) t (vertex_at (order_arena which order) u)) (values_in order is which) in
    let b = below.1 u (subst (λ n. u < n) (sym (table_wide order which v.seen wide)) less) in
    omega (arith, lift_place order which (values order) u less, table_at order which v.seen u less)
  where
    once : (m n : ℕ) → m < n → Rattle.std.specs.Prelude.cond {A = ℕ} (Rattle.std.specs.Prelude.nat_lt m n) 1 0 ≡ 1
    once m n h = grind (arith, nat_tests)

-- none was left
pub none_left : (board : BoardView) (before : Lifter) (old new : SeatView) → Works board old → SameStand before old.lifter → new.board ≡ old.board → new.lifter ≡ record old.lifter { empty = new.lifter.empty } → 0 < new.lifter.empty → HasAllAtEnd new.lifter → HasWorked board before new
none_left board before old new works stand same same' some all = record {
  works = record { order = works.order; own = works.own ∙ sym (ap (λ (v : Lifter). v.order) same'); board_is = same ∙ works.board_is; safe = subst IsSafe (sym same') (record { wide = works.safe.wide; over = works.safe.over; under = works.safe.under }); worked = subst Worked (sym same') works.worked };
  stand = record { opening = ap (λ (v : Lifter). v.opening) same' ∙ stand.opening; stands = let a = ap (λ (v : Lifter). v.stands) same' in let b = ap (λ (v : Lifter). v.splits) same' in omega (arith, stand.stands) };
  none_left = some;
  all = all;
}

-- one more vertex was claimed and lifted
pub one_more : (board : BoardView) (before : Lifter) (old mid new : SeatView) (which : Which) (u : ℕ) → Works board old → SameStand before old.lifter → mid.board ≡ old.board → u < vertices board.order
    → mid.lifter ≡ record old.lifter { claims = old.lifter.claims ++ place_of board.order which u ∷ [] } → new.board ≡ mid.board → SeesMore mid.lifter new.lifter → IsSafe new.lifter
    → lift_in board.order which mid.lifter.seen u ≤ slice_index (table_in board.order which new.lifter.seen) u → Works board new × SameStand before new.lifter
one_more board before old mid new which u works stand same less claimed same' more safe lifted =
    let is : board.order ≡ old.lifter.order = works.own in (
      record {
        order = works.order;
        own = is ∙ sym (ap (λ (v : Lifter). v.order) more.same ∙ ap (λ (v : Lifter). v.order) claimed);
        board_is = same' ∙ same ∙ works.board_is;
        safe = safe;
        worked = worked_claim old.lifter mid.lifter new.lifter which u (subst (λ x. u < vertices x) is less) (subst (λ x. length (values x) ≡ places x) is (values_wide board.order works.order)) works.safe
            (claimed ∙ ap (λ x. record old.lifter { claims = old.lifter.claims ++ place_of x which u ∷ [] }) is) more
            (subst (λ x. lift_in x which mid.lifter.seen u ≤ slice_index (table_in x which new.lifter.seen) u) is lifted) works.worked;
      },
      record {
        opening = ap (λ (v : Lifter). v.opening) more.same ∙ ap (λ (v : Lifter). v.opening) claimed ∙ stand.opening;
        stands =
            let a = ap (λ (v : Lifter). v.stands) more.same ∙ ap (λ (v : Lifter). v.stands) claimed in
            let b = ap (λ (v : Lifter). v.splits) more.same ∙ ap (λ (v : Lifter). v.splits) claimed in omega (arith, stand.stands);
      },
    )

-- the opening seat has no claims
pub works_open : (board : BoardView) (seat : SeatView) → IsOrder board.order → seat ≡ opening_seat board → IsSafe seat.lifter → Works board seat
works_open board seat is same safe = record {
  order = is;
  own = sym (ap (λ (s : SeatView). s.lifter.order) same);
  board_is = ap (λ (s : SeatView). s.board) same;
  safe = safe;
  worked = subst (λ (s : SeatView). Worked s.lifter) (sym same) (worked_opener board.order);
}

-- a seat that was split
pub works_split : (board : BoardView) (old new : SeatView) → Works board old → new.board ≡ old.board → new.lifter ≡ splits old.lifter → Works board new
works_split board old new works same is = record {
  order = works.order;
  own = works.own ∙ sym (ap (λ (v : Lifter). v.order) is);
  board_is = same ∙ works.board_is;
  safe = subst IsSafe (sym is) (record { wide = works.safe.wide; over = works.safe.over; under = works.safe.under });
  worked = subst Worked (sym is) works.worked;
}

-- the seat that was split off
pub works_newcomer : (board : BoardView) (old other : SeatView) → Works board old → other.board ≡ old.board → other.lifter ≡ newcomer old.lifter → Works board other
works_newcomer board old other works same is = record {
  order = works.order;
  own = works.own ∙ sym (ap (λ (v : Lifter). v.order) is);
  board_is = same ∙ works.board_is;
  safe = subst IsSafe (sym is) (record { wide = works.safe.wide; over = works.safe.over; under = works.safe.under });
  worked = subst Worked (sym is) (worked_newcomer old.lifter);
}

-- a seat that took in the one that it split off, once both have worked
pub has_worked_both : (board : BoardView) (before : Lifter) (mine other new : SeatView) → HasWorked board (splits before) mine → HasWorked board (newcomer before) other
    → new.board ≡ mine.board → new.lifter ≡ both mine.lifter other.lifter → IsSafe new.lifter → HasAllAtEnd new.lifter → HasWorked board before new
has_worked_both board before mine other new done other_done same is safe all =
    let order_is = ap (λ (v : Lifter). v.order) is in
    let own = done.works.own in record {
      works = record {
        order = done.works.order;
        own = own ∙ sym order_is;
        board_is = same ∙ done.works.board_is;
        safe = safe;
        worked = subst Worked (sym is) (worked_both mine.lifter other.lifter (sym own ∙ other_done.works.own) done.works.worked other_done.works.worked);
      };
      stand = record {
        opening = ap (λ (v : Lifter). v.opening) is ∙ ap₂ (λ a b. a || b) done.stand.opening other_done.stand.opening ∙ or_false before.opening;
        stands =
            let a = ap (λ (v : Lifter). v.stands) is in let b = ap (λ (v : Lifter). v.splits) is in
            omega (arith, done.stand.stands, other_done.stand.stands);
      };
      none_left = let a = ap (λ (v : Lifter). v.empty) is in omega (arith, done.none_left);
      all = all;
    }
  where
    or_false : (b : Rattle.std.specs.Prelude.Bool) → (b || false) ≡ b
    or_false true = refl
    or_false false = refl

-- a seat that has seen more
pub more_seen : (board : BoardView) (before : Lifter) (old new : SeatView) → Works board old → SameStand before old.lifter → new.board ≡ old.board → SeesMore old.lifter new.lifter → IsSafe new.lifter → Works board new × SameStand before new.lifter
more_seen board before old new works stand same more safe = (
  record {
    order = works.order;
    own = works.own ∙ sym (ap (λ (v : Lifter). v.order) more.same);
    board_is = same ∙ works.board_is;
    safe = safe;
    worked = worked_more old.lifter new.lifter more works.worked;
  },
  record {
    opening = ap (λ (v : Lifter). v.opening) more.same ∙ stand.opening;
    stands = let a = ap (λ (v : Lifter). v.stands) more.same in let b = ap (λ (v : Lifter). v.splits) more.same in omega (arith, stand.stands);
  },
)

pub stand_trans : (u v w : Lifter) → SameStand u v → SameStand v w → SameStand u w
stand_trans u v w one other = record { opening = other.opening ∙ one.opening; stands = omega (arith, one.stands, other.stands) }

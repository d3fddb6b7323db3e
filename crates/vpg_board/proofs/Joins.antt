-- The joins of a run, as its lifters know them.
use Rattle.std.proofs.Common.{◌≡◌, ℕ, zero, suc, List, [], ◌∷◌, ◌++◌, set, get_or, refl, sym, ap, subst, All}
use Rattle.std.proofs.lemmas.List.Elements.{All-nil, All-cons, All-append, All-weaker}
use mathlib.Core.Option.{some, some-injective, some-ne-none}
use lib.ListN.{get_elem?}
use Rattle.vpg_measure.specs.Orders.{OrderView}
use Rattle.vpg_board.specs.declared.lifter.Lifter.{Lifter}
use Rattle.vpg_board.specs.declared.lifter.Joined.{Joined}
use Rattle.vpg_board.specs.Places.{places}
use Rattle.vpg_board.specs.Lifters.{opener, spent, sees, claims, splits, newcomer, both, part_of}
use Rattle.vpg_board.specs.Run.{BoardState, Move, load, raise, claim, split, join, lifter, after, May, ran, IsBoardRun, raised_to}
use Rattle.vpg_board.specs.Taken.{IsOnBoard}
use Rattle.vpg_board.specs.Joins.{Happened, IsOfRun}

-- ---- all lifters of a board

abbrev Every : (Lifter → Type 0) → List Lifter → Type 0
Every P vs = (k : ℕ) (v : Lifter) → get_elem? vs k ≡ some v → P v

module _ (P : Lifter → Type 0) where
  every_set : (vs : List Lifter) (i : ℕ) (x : Lifter) → Every P vs → P x → Every P (set vs i x)
  every_set [] i x all here k v at = absurd (some-ne-none v (sym at))
  every_set (y ∷ vs) zero x all here zero v at = subst P (some-injective x v at) here
  every_set (y ∷ vs) zero x all here (suc k) v at = all (suc k) v at
  every_set (y ∷ vs) (suc i) x all here zero v at = all zero v at
  every_set (y ∷ vs) (suc i) x all here (suc k) v at = every_set vs i x (λ j w e. all (suc j) w e) here k v at

  every_push : (vs : List Lifter) (x : Lifter) → Every P vs → P x → Every P (vs ++ x ∷ [])
  every_push [] x all here zero v at = subst P (some-injective x v at) here
  every_push [] x all here (suc k) v at = absurd (some-ne-none v (sym at))
  every_push (y ∷ vs) x all here zero v at = all zero v at
  every_push (y ∷ vs) x all here (suc k) v at = every_push vs x (λ j w e. all (suc j) w e) here k v at

  every_at : (vs : List Lifter) (i : ℕ) (d : Lifter) → Every P vs → P d → P (get_or vs i d)
  every_at [] i d all none = none
  every_at (y ∷ vs) zero d all none = all zero y refl
  every_at (y ∷ vs) (suc i) d all none = every_at vs i d (λ j w e. all (suc j) w e) none

-- ---- joins stay in the run

module _ (order : OrderView) where
  later_still : (run : List Move) (m : Move) (j : Joined) → Happened order run j → Happened order (m ∷ run) j
  later_still run m j h = record {
    later = m ∷ h.later;
    earlier = h.earlier;
    one = h.one;
    other = h.other;
    run_is = ap (λ ms. m ∷ ms) h.run_is;
    one_here = h.one_here;
    other_here = h.other_here;
    apart = h.apart;
    one_knew = h.one_knew;
    other_knew = h.other_knew;
  }

  abbrev Knows : List Move → Lifter → Type 0
  Knows run v = All (Happened order run) v.joins

  knows_none : (run : List Move) → All (Happened order run) []
  knows_none run = All-nil (Happened order run)

  knows_still : (run : List Move) (m : Move) (v : Lifter) → Knows run v → Knows (m ∷ run) v
  knows_still run m v all = All-weaker (Happened order run) (Happened order (m ∷ run)) (λ j h. later_still run m j h) v.joins all

  knows_lifter : (run : List Move) (m : Move) (i : ℕ) → Every (Knows run) (ran order run).lifters → Knows (m ∷ run) (lifter (ran order run) i)
  knows_lifter run m i all =
      knows_still run m (lifter (ran order run) i) (every_at (Knows run) (ran order run).lifters i spent all (knows_none run))

  knows_set : (run : List Move) (m : Move) (i : ℕ) (x : Lifter) → x.joins ≡ (lifter (ran order run) i).joins → Every (Knows run) (ran order run).lifters → Every (Knows (m ∷ run)) (set (ran order run).lifters i x)
  knows_set run m i x same all =
      every_set (Knows (m ∷ run)) (ran order run).lifters i x (λ k v e. knows_still run m v (all k v e))
      (subst (λ (js : List Joined). All (Happened order (m ∷ run)) js) (sym same) (knows_lifter run m i all))

  knows_both : (run : List Move) (i j : ℕ) → May order (ran order run) (join i j) → Every (Knows run) (ran order run).lifters →
      Knows (join i j ∷ run) (both (lifter (ran order run) i) (lifter (ran order run) j))
  knows_both run i j may all =
      let v = lifter (ran order run) i in
      let w = lifter (ran order run) j in
      All-cons (Happened order (join i j ∷ run)) (record { one = part_of v; other = part_of w }) (v.joins ++ w.joins)
      (record { later = []; earlier = run; one = i; other = j; run_is = refl; one_here = may.0; other_here = may.1; apart = may.2; one_knew = refl; other_knew = refl })
      (All-append (Happened order (join i j ∷ run)) v.joins w.joins (knows_lifter run (join i j) i all) (knows_lifter run (join i j) j all))

  knows_next : (run : List Move) (m : Move) → May order (ran order run) m → Every (Knows run) (ran order run).lifters → Every (Knows (m ∷ run)) (after order (ran order run) m).lifters
  knows_next run (load i p) may all = knows_set run (load i p) i (sees (lifter (ran order run) i) p (get_or (ran order run).measures p 0)) refl all
  knows_next run (raise i p) may all = knows_set run (raise i p) i (sees (lifter (ran order run) i) p (raised_to order (ran order run) i p)) refl all
  knows_next run (claim i) may all = knows_set run (claim i) i (claims (places order) (lifter (ran order run) i) (ran order run).claimed) refl all
  knows_next run (split i) may all =
      every_push (Knows (split i ∷ run)) (set (ran order run).lifters i (splits (lifter (ran order run) i))) (newcomer (lifter (ran order run) i))
      (knows_set run (split i) i (splits (lifter (ran order run) i)) refl all) (knows_none (split i ∷ run))
  knows_next run (join i j) may all =
      every_set (Knows (join i j ∷ run)) (set (ran order run).lifters i (both (lifter (ran order run) i) (lifter (ran order run) j))) j spent
      (every_set (Knows (join i j ∷ run)) (ran order run).lifters i (both (lifter (ran order run) i) (lifter (ran order run) j)) (λ k v e. knows_still run (join i j) v (all k v e)) (knows_both run i j may all))
      (knows_none (join i j ∷ run))

  knows_all : (run : List Move) → IsBoardRun order run → Every (Knows run) (ran order run).lifters
  knows_all [] is zero v at = subst (Knows []) (some-injective (opener order) v at) (knows_none [])
  knows_all [] is (suc k) v at = absurd (some-ne-none v (sym at))
  knows_all (m ∷ run) is k v at = knows_next run m is.1 (knows_all run is.0) k v at

  pub of_run : (run : List Move) (id : ℕ) (v : Lifter) → IsBoardRun order run → get_elem? (ran order run).lifters id ≡ some v → IsOfRun order run v
  of_run run id v may there = record { may = may; id = id; there = there; joins = knows_all run may id v there }

-- what a seat shows is of one run
pub one_run : (v : Lifter) → IsOnBoard v → (run : List Move) × IsOfRun v.order run v
one_run v on =
    let r = on.reached in
    (r.0, of_run v.order r.0 on.id v r.1 (subst (λ (b : BoardState). get_elem? b.lifters on.id ≡ some v) (sym r.2) on.there))

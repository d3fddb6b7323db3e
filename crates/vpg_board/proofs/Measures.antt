-- Every step keeps the measures.
use Rattle.std.proofs.Common.{◌≡◌, ◌≢◌, ℕ, zero, suc, ◌<◌, ◌≤◌, max, List, [], ◌∷◌, ◌++◌, length, set, get_or, refl, sym, ◌∙◌, subst, ⊎_elim, arith, length-set}
use mathlib.Core.Option.{some, some-injective, some-ne-none}
use lib.ListN.{get_elem?}
use Rattle.atomic_table.proofs.Lists.{at_set, at_snoc}
use Rattle.vpg_measure.specs.Orders.{OrderView}
use Rattle.vpg_board.specs.declared.lifter.Lifter.{Lifter}
use Rattle.vpg_board.specs.Places.{places, values, lift_at, AreProgress, Below}
use Rattle.vpg_board.specs.Lifters.{greater, opener, spent, sees, claims, splits, newcomer, both}
use Rattle.vpg_board.specs.Run.{BoardState, Move, load, raise, claim, split, join, lifter, IsHere, opened, after, IsStep}
use Rattle.vpg_board.specs.Rule.{HasSeen, MeasuresKept}
use Rattle.vpg_board.proofs.Totals.{get_at}
use Rattle.vpg_board.proofs.Tables.{below_self, below_trans, below_write, write_below, below_greater, greater_below, length-greater}

-- every lifter that is left has seen what lies between the opening table and the words
abbrev pub AllSeen : OrderView → List ℕ → List Lifter → Type 0
AllSeen order table lifters = (i : ℕ) (v : Lifter) → get_elem? lifters i ≡ some v → 0 < v.stands → HasSeen order table v

all_set : (order : OrderView) (table : List ℕ) (lifters : List Lifter) (i : ℕ) (w : Lifter) → AllSeen order table lifters → (0 < w.stands → HasSeen order table w) → AllSeen order table (set lifters i w)
all_set order table lifters i w all here j u e =
    ⊎_elim
    (λ (t : (j ≡ i) × (w ≡ u)). subst (λ (x : Lifter). 0 < x.stands → HasSeen order table x) t.1 here)
    (λ (t : (j ≢ i) × (get_elem? lifters j ≡ some u)). all j u t.1)
    (at_set lifters i j w u e)

all_snoc : (order : OrderView) (table : List ℕ) (lifters : List Lifter) (w : Lifter) → AllSeen order table lifters → (0 < w.stands → HasSeen order table w) → AllSeen order table (lifters ++ w ∷ [])
all_snoc order table lifters w all here j u e =
    ⊎_elim
    (λ (old : get_elem? lifters j ≡ some u). all j u old)
    (λ (new : w ≡ u). subst (λ (x : Lifter). 0 < x.stands → HasSeen order table x) new here)
    (at_snoc lifters w u j e)

-- a higher table is above what was seen
seen_higher : (order : OrderView) (table higher : List ℕ) (v : Lifter) → Below table higher → HasSeen order table v → HasSeen order higher v
seen_higher order table higher v up h = record { order_is = h.order_is; wide = h.wide; over = h.over; under = below_trans v.seen table higher h.under up }

-- a number between what was seen at the place and the word
seen_there : (order : OrderView) (table : List ℕ) (v : Lifter) (p n : ℕ) → HasSeen order table v → get_or v.seen p 0 ≤ n → n ≤ get_or table p 0 → HasSeen order table (sees v p n)
seen_there order table v p n h low high = record {
  order_is = h.order_is;
  wide = length-set v.seen p n ∙ h.wide;
  over = below_trans (values order) v.seen (set v.seen p n) h.over (below_write v.seen p n low);
  under = write_below v.seen table p n h.under high;
}

seen_both : (order : OrderView) (table : List ℕ) (v w : Lifter) → HasSeen order table v → HasSeen order table w → HasSeen order table (both v w)
seen_both order table v w h k = record {
  order_is = h.order_is;
  wide = length-greater v.seen w.seen (h.wide ∙ sym k.wide) ∙ h.wide;
  over = below_trans (values order) v.seen (greater v.seen w.seen) h.over (below_greater v.seen w.seen);
  under = greater_below v.seen w.seen table h.under k.under;
}

get_or_set : (t : List ℕ) (p n : ℕ) → p < length t → get_or (set t p n) p 0 ≡ n
get_or_set [] p n h = absurd (omega arith)
get_or_set (x ∷ t) zero n h = refl
get_or_set (x ∷ t) (suc p) n h = get_or_set t p n (omega arith)

module _ (order : OrderView) where
  abbrev Kept : BoardState → Type 0
  Kept = MeasuresKept order

  here : (b : BoardState) (i : ℕ) → Kept b → IsHere b i → HasSeen order b.measures (lifter b i)
  here b i k h = let at : suc i ≤ length b.lifters = omega (arith, h.0) in k.seen i (lifter b i) (get_at b.lifters i spent at) h.1

  pub measures_opened : length (values order) ≡ places order → ((t : List ℕ) → AreProgress order t → Below (values order) t) → Kept (opened order)
  measures_opened wide low = record { wide = wide; over = below_self (values order); under = low; seen = one }
    where
      one : AllSeen order (values order) (opener order ∷ [])
      one zero v e some_stand = subst (HasSeen order (values order)) (some-injective (opener order) v e) (record { order_is = refl; wide = wide; over = below_self (values order); under = below_self (values order) })
      one (suc i) v e some_stand = absurd (some-ne-none v (sym e))

  pub measures_after : ((t u : List ℕ) (p : ℕ) → p < places order → length t ≡ places order → Below t u → AreProgress order u → lift_at order t p ≤ get_or u p 0) → (b : BoardState) (m : Move) → Kept b → IsStep order b m → Kept (after order b m)
  measures_after stays b (load i p) k may = let h = here b i k may.0 in record {
    wide = k.wide;
    over = k.over;
    under = k.under;
    seen = all_set order b.measures b.lifters i (sees (lifter b i) p (get_or b.measures p 0)) k.seen (λ _. seen_there order b.measures (lifter b i) p (get_or b.measures p 0) h (h.under p) (omega arith));
  }
  measures_after stays b (raise i p) k may =
      let h = here b i k may.0 in
      let v : Lifter = lifter b i in
      let n : ℕ = max (get_or b.measures p 0) (lift_at order v.seen p) in
      let up : Below b.measures (set b.measures p n) = below_write b.measures p n (omega arith) in
      let same : get_or (set b.measures p n) p 0 ≡ n = get_or_set b.measures p n (omega (arith, may.1, k.wide)) in
      let low : get_or v.seen p 0 ≤ n = omega (arith, h.under p) in record {
        wide = length-set b.measures p n ∙ k.wide;
        over = below_trans (values order) b.measures (set b.measures p n) k.over up;
        under = λ t is. write_below b.measures t p n (k.under t is) (let a = k.under t is p in let c = stays v.seen t p may.1 h.wide (below_trans v.seen b.measures t h.under (k.under t is)) is in omega arith);
        seen = all_set order (set b.measures p n) b.lifters i (sees v p n) (λ j u e s. seen_higher order b.measures (set b.measures p n) u up (k.seen j u e s))
            (λ _. seen_there order (set b.measures p n) v p n (seen_higher order b.measures (set b.measures p n) v up h) low (omega arith));
      }
  measures_after stays b (claim i) k may = let h = here b i k may in record {
    wide = k.wide;
    over = k.over;
    under = k.under;
    seen = all_set order b.measures b.lifters i (claims (places order) (lifter b i) b.claimed) k.seen (λ _. record { order_is = h.order_is; wide = h.wide; over = h.over; under = h.under });
  }
  measures_after stays b (split i) k may = let h = here b i k may in record {
    wide = k.wide;
    over = k.over;
    under = k.under;
    seen = all_snoc order b.measures (set b.lifters i (splits (lifter b i))) (newcomer (lifter b i))
        (all_set order b.measures b.lifters i (splits (lifter b i)) k.seen (λ _. record { order_is = h.order_is; wide = h.wide; over = h.over; under = h.under }))
        (λ _. record { order_is = h.order_is; wide = h.wide; over = h.over; under = h.under });
  }
  measures_after stays b (join i j) k may = let h = here b i k may.0 in let g = here b j k may.1 in record {
    wide = k.wide;
    over = k.over;
    under = k.under;
    seen = all_set order b.measures (set b.lifters i (both (lifter b i) (lifter b j))) j spent
        (all_set order b.measures b.lifters i (both (lifter b i) (lifter b j)) k.seen (λ _. seen_both order b.measures (lifter b i) (lifter b j) h g))
        (λ s. absurd (omega arith));
  }

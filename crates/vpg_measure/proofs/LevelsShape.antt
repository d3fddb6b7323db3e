-- The levels of the priorities are their shape.
use Rattle.std.proofs.Common.{◌≡◌, ℕ, zero, suc, ◌+◌, ◌<◌, ◌≤◌, ◌%◌, ◌==◌, ◌⊎◌, inl, inr, true, false, cond, ◌&&◌, List, [], ◌∷◌, map, get_or, max, refl, sym, ◌∙◌, subst, nat_lt, eqb-true, eq-eqb, ne_eqb, ltb-true, Contains, All, zero-add, arith}
use Rattle.std.proofs.lemmas.Bool.{cases_Bool, cases_eq, and_parts, and_cases, eqb-false, ltb-false}
use Rattle.std.proofs.lemmas.List.Sums.{get_or-le-sum_by, sum_by-cons}
use Rattle.std.proofs.lemmas.List.Elements.{Contains-get_or, All-cons, All-nil}
use Rattle.vpg_game.specs.Levels.{is_odd, count_of, levels_below, bound_of, levels_of}
use Rattle.vpg_sides.specs.Players.{IsOdd}
use Rattle.vpg_game.specs.declared.levels.Level.{Level}
use Rattle.vpg_measure.specs.Measures.{Shape, IsShape}
use Rattle.vpg_hope.proofs.Edges.{Contains-first, Contains-later, Contains-cases, not_in_nil}
use Rattle.vpg_measure.proofs.Signature.{IsFalling}
use Rattle.vpg_measure.proofs.Shapes.{contains_or_not, all_pairs_from_falling}

counts-contained : (ps : List ℕ) (p : ℕ) → Contains ps p → 0 < count_of p ps
counts-contained ps p c = of (get_or-le-sum_by (λ q. cond (q == p) 1 0) ps c.0 p c.1)
  where
    one : ◌≡◌ {A = ℕ} (cond (get_or ps c.0 p == p) 1 0) 1
    one = rw (eq-eqb (get_or ps c.0 p) p c.2) refl

    of : cond (get_or ps c.0 p == p) 1 0 ≤ count_of p ps → 0 < count_of p ps
    of h = omega (arith, one)

none_counted : (ps : List ℕ) (p : ℕ) → (Contains ps p → ⊥) → count_of p ps ≡ 0
none_counted [] p n = refl
none_counted (q ∷ ps) p n = sum_by-cons (λ x. cond (x == p) 1 0) q ps ∙ rw (ne_eqb q p (λ e. n (subst (λ x. Contains (q ∷ ps) x) e (Contains-first q ps))), zero-add) (none_counted ps p (λ c. n (Contains-later q ps p c)))

contained-counts : (ps : List ℕ) (p : ℕ) → 0 < count_of p ps → Contains ps p
contained-counts ps p l = of (contains_or_not ps p)
  where
    of : Contains ps p ⊎ (Contains ps p → ⊥) → Contains ps p
    of (inl c) = c
    of (inr n) = absurd (omega (arith, none_counted ps p n))

module _ (ps : List ℕ) where
  abbrev priorities_in : Shape → List ℕ
  priorities_in shape = map (λ place. place.priority) shape

  record IsShapeBelow (n : ℕ) (shape : Shape) : Type 0 where
    falling : IsFalling shape
    below : All (λ place. place.priority < n) shape
    odd : All (λ place. IsOdd place.priority) shape
    counted : All (λ place. place.count ≡ count_of place.priority ps) shape
    occurring : All (λ place. Contains ps place.priority) shape
    complete : (q : ℕ) → Contains ps q → IsOdd q → q < n → Contains (priorities_in shape) q

  weaken : (n : ℕ) (shape : Shape) → All (λ place. place.priority < n) shape → All (λ place. place.priority < suc n) shape
  weaken n shape h k d l = raise (h k d l)
    where
      raise : {x : ℕ} → x < n → x < suc n
      raise l = omega arith

  below : (n : ℕ) → IsShapeBelow n ((levels_below n ps))
  below zero = record {
    falling = tt;
    below = All-nil (λ place. place.priority < zero);
    odd = All-nil (λ place. IsOdd place.priority);
    counted = All-nil (λ place. place.count ≡ count_of place.priority ps);
    occurring = All-nil (λ place. Contains ps place.priority);
    complete = λ q c odd l. absurd (omega arith);
  }
  below (suc n) = grow (below n) (cases_Bool (is_odd n && nat_lt 0 (count_of n ps)))
    where
      rest : Shape
      rest = (levels_below n ps)

      grow : IsShapeBelow n ((levels_below n ps)) → ((is_odd n && nat_lt 0 (count_of n ps)) ≡ true) ⊎ ((is_odd n && nat_lt 0 (count_of n ps)) ≡ false) → IsShapeBelow (suc n) ((levels_below (suc n) ps))
      grow s (inr f) = rw f record {
        falling = s.falling;
        below = weaken n ((levels_below n ps)) s.below;
        odd = s.odd;
        counted = s.counted;
        occurring = s.occurring;
        complete = λ q c odd l. complete q c odd l (cases_eq q n);
      }
        where
          absent : Contains ps n → IsOdd n → ⊥
          absent c odd = of (and_cases (is_odd n) (nat_lt 0 (count_of n ps)) f)
            where
              of : (is_odd n ≡ false) ⊎ (nat_lt 0 (count_of n ps) ≡ false) → ⊥
              of (inl e) = eqb-false (n % 2) 1 e odd
              of (inr e) = omega (arith, ltb-false 0 (count_of n ps) e, counts-contained ps n c)

          complete : (q : ℕ) → Contains ps q → IsOdd q → q < suc n → (q ≡ n) ⊎ (q ≡ n → ⊥) → Contains (priorities_in ((levels_below n ps))) q
          complete q c odd l (inl e) = absurd (absent (subst (λ x. Contains ps x) e c) (subst (λ x. IsOdd x) e odd))
          complete q c odd l (inr e) = s.complete q c odd (omega arith)
      grow s (inl t) = rw t record {
        falling = (s.below, s.falling);
        below = All-cons (λ x. x.priority < suc n) place ((levels_below n ps)) (omega arith) (weaken n ((levels_below n ps)) s.below);
        odd = All-cons (λ x. IsOdd x.priority) place ((levels_below n ps)) (eqb-true (n % 2) 1 parts.0) s.odd;
        counted = All-cons (λ x. x.count ≡ count_of x.priority ps) place ((levels_below n ps)) refl s.counted;
        occurring = All-cons (λ x. Contains ps x.priority) place ((levels_below n ps)) (contained-counts ps n (ltb-true 0 (count_of n ps) parts.1)) s.occurring;
        complete = λ q c odd l. complete q c odd l (cases_eq q n);
      }
        where
          parts : (is_odd n ≡ true) × (nat_lt 0 (count_of n ps) ≡ true)
          parts = and_parts (is_odd n) (nat_lt 0 (count_of n ps)) t

          place : Level
          place = record { priority = n; count = count_of n ps }

          complete : (q : ℕ) → Contains ps q → IsOdd q → q < suc n → (q ≡ n) ⊎ (q ≡ n → ⊥) → Contains (n ∷ priorities_in ((levels_below n ps))) q
          complete q c o l (inl e) = subst (λ x. Contains (n ∷ priorities_in ((levels_below n ps))) x) (sym e) (Contains-first n (priorities_in ((levels_below n ps))))
          complete q c o l (inr e) = Contains-later n (priorities_in ((levels_below n ps))) q (s.complete q c o (omega arith))

bounded : (ps : List ℕ) (q : ℕ) → Contains ps q → q < bound_of ps
bounded [] q c = absurd (not_in_nil q c)
bounded (p ∷ ps) q c = of (Contains-cases p ps q c) (bounded ps q)
  where
    of : (p ≡ q) ⊎ Contains ps q → (Contains ps q → q < bound_of ps) → q < max (p + 1) (bound_of ps)
    of (inl e) rest = omega arith
    of (inr k) rest = omega (arith, rest k)

pub levels_shape : (ps : List ℕ) → IsShape ps ((levels_of ps))
levels_shape ps = of (below ps (bound_of ps))
  where
    of : IsShapeBelow ps (bound_of ps) ((levels_of ps)) → IsShape ps ((levels_of ps))
    of s = record {
      falling = all_pairs_from_falling ((levels_of ps)) s.falling;
      odd = s.odd;
      counted = s.counted;
      occurring = s.occurring;
      complete = λ k d l odd. s.complete (get_or ps k d) (Contains-get_or ps k d l) odd (bounded ps (get_or ps k d) (Contains-get_or ps k d l));
    }

-- Each list of priorities has one shape.
use Rattle.std.proofs.Common.{◌≡◌, ℕ, zero, suc, ◌<◌, ◌%◌, ◌⊎◌, inl, inr, List, [], ◌∷◌, get_or, map, max, refl, sym, ap, ◌∙◌, subst, Contains, All, AllPairs, count_by, ◌==◌, arith}
use Rattle.std.proofs.lemmas.Bool.{cases_eq}
use Rattle.std.proofs.lemmas.List.Elements.{All-head, All-tail, All-cons, All-nil, All-contains, All-map, Contains-get_or}
use Rattle.vpg_sides.specs.Players.{IsOdd}
use Rattle.vpg_game.specs.declared.levels.Level.{Level}
use Rattle.vpg_measure.specs.Measures.{Shape, IsShape}
use Rattle.vpg_measure.proofs.Signature.{IsFalling, falling_by_recursion, below_all}
use Rattle.vpg_hope.proofs.Edges.{Contains-cases, Contains-first, Contains-later, not_in_nil}

pub contains_or_not : (xs : List ℕ) (x : ℕ) → Contains xs x ⊎ (Contains xs x → ⊥)
contains_or_not [] x = inr (λ c. not_in_nil x c)
contains_or_not (y ∷ xs) x = decide (cases_eq y x) (contains_or_not xs x)
  where
    decide : (y ≡ x) ⊎ (y ≡ x → ⊥) → Contains xs x ⊎ (Contains xs x → ⊥) → Contains (y ∷ xs) x ⊎ (Contains (y ∷ xs) x → ⊥)
    decide (inl e) rest = inl (subst (λ z. Contains (y ∷ xs) z) e (Contains-first y xs))
    decide (inr n) (inl c) = inl (Contains-later y xs x c)
    decide (inr n) (inr m) = inr (λ c. neither (Contains-cases y xs x c))
      where
        neither : (y ≡ x) ⊎ Contains xs x → ⊥
        neither (inl e) = n e
        neither (inr c) = m c

pub all_pairs_from_falling : (shape : Shape) → IsFalling shape → AllPairs (λ a b. b.priority < a.priority) shape
all_pairs_from_falling [] h i j d l k = absurd (omega arith)
all_pairs_from_falling (place ∷ shape) h i zero d l k = absurd (omega arith)
all_pairs_from_falling (place ∷ shape) h zero (suc j) d l k = h.0 j d (omega arith)
all_pairs_from_falling (place ∷ shape) h (suc i) (suc j) d l k = all_pairs_from_falling shape h.1 i j d (omega arith) (omega arith)

module _ (ps : List ℕ) where
  abbrev count_in : ℕ → ℕ
  count_in p = count_by (λ q. q == p) ps

  abbrev priorities_in : Shape → List ℕ
  priorities_in shape = map (λ place. place.priority) shape

  -- the places for the priorities below n
  record IsShapeBelow (n : ℕ) (shape : Shape) : Type 0 where
    falling : IsFalling shape
    below : All (λ place. place.priority < n) shape
    odd : All (λ place. IsOdd place.priority) shape
    counted : All (λ place. place.count ≡ count_in place.priority) shape
    occurring : All (λ place. Contains ps place.priority) shape
    complete : (q : ℕ) → Contains ps q → IsOdd q → q < n → Contains (priorities_in shape) q

  weaken : (n : ℕ) (shape : Shape) → All (λ place. place.priority < n) shape → All (λ place. place.priority < suc n) shape
  weaken n shape h k d l = raise (h k d l)
    where
      raise : {x : ℕ} → x < n → x < suc n
      raise l = omega arith

  shape_below : (n : ℕ) → (shape : Shape) × IsShapeBelow n shape
  shape_below zero = (
    [],
    record {
      falling = tt;
      below = All-nil (λ place. place.priority < zero);
      odd = All-nil (λ place. IsOdd place.priority);
      counted = All-nil (λ place. place.count ≡ count_in place.priority);
      occurring = All-nil (λ place. Contains ps place.priority);
      complete = λ q c odd l. absurd (omega arith);
    },
  )
  shape_below (suc n) = grow (shape_below n) (cases_eq (n % 2) 1) (contains_or_not ps n)
    where
      without : (s : (shape : Shape) × IsShapeBelow n shape) → (Contains ps n → IsOdd n → ⊥) → (shape : Shape) × IsShapeBelow (suc n) shape
      without s none = (
        s.0,
        record {
          falling = s.1.falling;
          below = weaken n s.0 s.1.below;
          odd = s.1.odd;
          counted = s.1.counted;
          occurring = s.1.occurring;
          complete = λ q c odd l. complete q c odd l (cases_eq q n);
        },
      )
        where
          complete : (q : ℕ) → Contains ps q → IsOdd q → q < suc n → (q ≡ n) ⊎ (q ≡ n → ⊥) → Contains (priorities_in s.0) q
          complete q c odd l (inl e) = absurd (none (subst (λ x. Contains ps x) e c) (subst (λ x. IsOdd x) e odd))
          complete q c odd l (inr e) = s.1.complete q c odd (omega arith)

      grow : (shape : Shape) × IsShapeBelow n shape → IsOdd n ⊎ (IsOdd n → ⊥) → Contains ps n ⊎ (Contains ps n → ⊥) → (shape : Shape) × IsShapeBelow (suc n) shape
      grow s (inr even) occurs = without s (λ c odd. even odd)
      grow s (inl odd) (inr absent) = without s (λ c odd. absent c)
      grow s (inl odd) (inl occurs) = (
        place ∷ s.0,
        record {
          falling = (s.1.below, s.1.falling);
          below = All-cons (λ x. x.priority < suc n) place s.0 (omega arith) (weaken n s.0 s.1.below);
          odd = All-cons (λ x. IsOdd x.priority) place s.0 odd s.1.odd;
          counted = All-cons (λ x. x.count ≡ count_in x.priority) place s.0 refl s.1.counted;
          occurring = All-cons (λ x. Contains ps x.priority) place s.0 occurs s.1.occurring;
          complete = λ q c o l. complete q c o l (cases_eq q n);
        },
      )
        where
          place : Level
          place = record { priority = n; count = count_in n }

          complete : (q : ℕ) → Contains ps q → IsOdd q → q < suc n → (q ≡ n) ⊎ (q ≡ n → ⊥) → Contains (n ∷ priorities_in s.0) q
          complete q c o l (inl e) = subst (λ x. Contains (n ∷ priorities_in s.0) x) (sym e) (Contains-first n (priorities_in s.0))
          complete q c o l (inr e) = Contains-later n (priorities_in s.0) q (s.1.complete q c o (omega arith))

  -- what the places say of a priority that they contain
  shape_priority : (shape : Shape) → IsShape ps shape → (q : ℕ) → Contains (priorities_in shape) q → IsOdd q × Contains ps q
  shape_priority shape h q c = (
    All-contains (λ x. IsOdd x) (priorities_in shape) q (All-map (λ x. IsOdd x) (λ (place : Level). place.priority) shape h.odd) c,
    All-contains (λ x. Contains ps x) (priorities_in shape) q (All-map (λ x. Contains ps x) (λ (place : Level). place.priority) shape h.occurring) c,
  )

  shape_has : (shape : Shape) → IsShape ps shape → (q : ℕ) → IsOdd q → Contains ps q → Contains (priorities_in shape) q
  shape_has shape h q odd c = All-contains (λ x. IsOdd x → Contains (priorities_in shape) x) ps q h.complete c odd

  same_place : (a b : Level) → a.priority ≡ b.priority → a.count ≡ b.count → a ≡ b
  same_place a b e f = λ i. record { priority = e i; count = f i }

  same_falling : (a b : Shape) → IsFalling a → IsFalling b → All (λ place. place.count ≡ count_in place.priority) a → All (λ place. place.count ≡ count_in place.priority) b →
      ((q : ℕ) → Contains (priorities_in a) q → Contains (priorities_in b) q) → ((q : ℕ) → Contains (priorities_in b) q → Contains (priorities_in a) q) → a ≡ b
  same_falling [] [] fa fb ca cb to from = refl
  same_falling [] (y ∷ b) fa fb ca cb to from = absurd (not_in_nil y.priority (from y.priority (Contains-first y.priority (priorities_in b))))
  same_falling (x ∷ a) [] fa fb ca cb to from = absurd (not_in_nil x.priority (to x.priority (Contains-first x.priority (priorities_in a))))
  same_falling (x ∷ a) (y ∷ b) fa fb ca cb to from = joined (same_falling a b fa.1 fb.1 (All-tail counted x a ca) (All-tail counted y b cb))
    where
      counted : Level → Type 0
      counted place = place.count ≡ count_in place.priority

      heads : x.priority ≡ y.priority
      heads = of (Contains-cases y.priority (priorities_in b) x.priority (to x.priority (Contains-first x.priority (priorities_in a)))) (Contains-cases x.priority (priorities_in a) y.priority (from y.priority (Contains-first y.priority (priorities_in b))))
        where
          of : (y.priority ≡ x.priority) ⊎ Contains (priorities_in b) x.priority → (x.priority ≡ y.priority) ⊎ Contains (priorities_in a) y.priority → x.priority ≡ y.priority
          of (inl e) r = sym e
          of (inr c) (inl e) = e
          of (inr c) (inr d) = absurd (omega (arith, below_all b y.priority fb.0 x.priority c, below_all a x.priority fa.0 y.priority d))

      counts : x.count ≡ y.count
      counts = All-head counted x a ca ∙ ap (λ p. count_in p) heads ∙ sym (All-head counted y b cb)

      joined : (((q : ℕ) → Contains (priorities_in a) q → Contains (priorities_in b) q) → ((q : ℕ) → Contains (priorities_in b) q → Contains (priorities_in a) q) → a ≡ b) → x ∷ a ≡ y ∷ b
      joined rest = λ i. same_place x y heads counts i ∷ rest to_rest from_rest i
        where
          to_rest : (q : ℕ) → Contains (priorities_in a) q → Contains (priorities_in b) q
          to_rest q c = of (Contains-cases y.priority (priorities_in b) q (to q (Contains-later x.priority (priorities_in a) q c)))
            where
              of : (y.priority ≡ q) ⊎ Contains (priorities_in b) q → Contains (priorities_in b) q
              of (inl e) = absurd (omega (arith, below_all a x.priority fa.0 q c, heads))
              of (inr d) = d

          from_rest : (q : ℕ) → Contains (priorities_in b) q → Contains (priorities_in a) q
          from_rest q c = of (Contains-cases x.priority (priorities_in a) q (from q (Contains-later y.priority (priorities_in b) q c)))
            where
              of : (x.priority ≡ q) ⊎ Contains (priorities_in a) q → Contains (priorities_in a) q
              of (inl e) = absurd (omega (arith, below_all b y.priority fb.0 q c, heads))
              of (inr d) = d

-- a number above all elements
above_all : (ps : List ℕ) → (n : ℕ) × ((q : ℕ) → Contains ps q → q < n)
above_all [] = (0, λ q c. absurd (not_in_nil q c))
above_all (p ∷ ps) = of (above_all ps)
  where
    of : (n : ℕ) × ((q : ℕ) → Contains ps q → q < n) → (n : ℕ) × ((q : ℕ) → Contains (p ∷ ps) q → q < n)
    of m = (max (suc p) m.0, λ q c. in_either q (Contains-cases p ps q c))
      where
        in_either : (q : ℕ) → (p ≡ q) ⊎ Contains ps q → q < max (suc p) m.0
        in_either q (inl e) = omega arith
        in_either q (inr c) = omega (arith, m.1 q c)

pub has_shape : (ps : List ℕ) → (shape : Shape) × IsShape ps shape
has_shape ps = of (above_all ps)
  where
    of : (n : ℕ) × ((q : ℕ) → Contains ps q → q < n) → (shape : Shape) × IsShape ps shape
    of n = from (shape_below ps n.0)
      where
        from : (shape : Shape) × IsShapeBelow ps n.0 shape → (shape : Shape) × IsShape ps shape
        from s = (
          s.0,
          record {
            falling = all_pairs_from_falling s.0 s.1.falling;
            odd = s.1.odd;
            counted = s.1.counted;
            occurring = s.1.occurring;
            complete = λ k d l odd. complete (get_or ps k d) (Contains-get_or ps k d l) odd;
          },
        )
          where
            complete : (q : ℕ) → Contains ps q → IsOdd q → Contains (priorities_in ps s.0) q
            complete q c odd = s.1.complete q c odd (n.1 q c)

pub same_shape : (ps : List ℕ) (a b : Shape) → IsShape ps a → IsShape ps b → a ≡ b
same_shape ps a b h k = same_falling ps a b (falling_by_recursion a h.falling) (falling_by_recursion b k.falling) h.counted k.counted
    (λ q c. shape_has ps b k q (shape_priority ps a h q c).0 (shape_priority ps a h q c).1)
    (λ q c. shape_has ps a h q (shape_priority ps b k q c).0 (shape_priority ps b k q c).1)

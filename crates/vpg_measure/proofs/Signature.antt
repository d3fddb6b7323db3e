-- A winning strategy of Even gives a progress table: the component at an odd priority p is the greatest number of
-- vertices of priority p that a trail through vertices of priority at most p leaves.
use Rattle.std.proofs.Common.{◌≡◌, ◌≢◌, ℕ, suc, ◌<◌, ◌≤◌, ◌%◌, ◌⊎◌, inl, inr, List, [], ◌∷◌, length, get_or, map, max, refl, sym, ◌∙◌, subst, Contains, All, AllPairs, count_by, ◌==◌, eq-eqb, arith}
use Rattle.std.specs.List.{AllZip}
use Rattle.std.proofs.lemmas.Bool.{cases_lt, cases_order}
use Rattle.std.proofs.lemmas.List.{get_or-map, length-map}
use Rattle.std.proofs.lemmas.List.Elements.{All-head, All-tail}
use Rattle.vpg_sides.specs.declared.player.Player.{Player}
use Rattle.vpg_sides.specs.declared.player.Player.TheVariants.{Even, Odd}
use Rattle.vpg_sides.specs.Players.{IsOdd}
use Rattle.vpg_hope.specs.Games.{Game, Vertex, isolated, owner_of, priority_of, priorities}
use Rattle.vpg_hope.specs.Strategies.{Strategy, AllowsMove, Reaches, Walk, Wins, here, move, moves}
use Rattle.vpg_game.specs.declared.levels.Level.{Level}
use Rattle.vpg_measure.specs.Measures.{Shape, IsShape, Measure, IsMeasure, LexBelow, LexAtMost, AtMost, Fits, above, Top, Components}
use Rattle.vpg_measure.specs.Tables.{Table, IsProgressMeasure, IsBelowAllProgress, FitsAt, FitsFor}
use Rattle.vpg_measure.proofs.Lex.{at_most_cons}
use Rattle.vpg_measure.proofs.Above.{above-more, above-none}
use Rattle.vpg_hope.proofs.Reach.{cases_player, reaches_move}
use Rattle.vpg_hope.proofs.Finite.{Classically, decided, all_below, greatest}
use Rattle.vpg_hope.proofs.Trails.{Way, nowhere, further, Trail, stop, meet, pass, trail_bound}
use Rattle.vpg_hope.proofs.Edges.{AreEdgesInside, Contains-cases, edge_inside, not_in_nil}

-- the places in falling order, by recursion
abbrev pub IsFalling : Shape → Type 0
IsFalling [] = Unit {0}
IsFalling (place ∷ shape) = All (λ b. b.priority < place.priority) shape × IsFalling shape

pub falling_by_recursion : (shape : Shape) → AllPairs (λ a b. b.priority < a.priority) shape → IsFalling shape
falling_by_recursion [] h = tt
falling_by_recursion (place ∷ shape) h = (λ k d l. h 0 (suc k) d (omega arith) (omega arith), falling_by_recursion shape (λ i j d l k. h (suc i) (suc j) d (omega arith) (omega arith)))

pub below_all : (shape : Shape) (p : ℕ) → All (λ b. b.priority < p) shape → (q : ℕ) → Contains (map (λ place. place.priority) shape) q → q < p
below_all [] p h q c = absurd (not_in_nil q c)
below_all (place ∷ shape) p h q c = of (Contains-cases place.priority (map (λ x. x.priority) shape) q c) (below_all shape p (All-tail (λ b. b.priority < p) place shape h) q)
  where
    of : (place.priority ≡ q) ⊎ Contains (map (λ x. x.priority) shape) q → (Contains (map (λ x. x.priority) shape) q → q < p) → q < p
    of (inl e) rest = subst (λ n. n < p) e (All-head (λ b. b.priority < p) place shape h)
    of (inr k) rest = rest k

module _ (game : Game) (strategy : Strategy) (start : ℕ) where
  -- a move from a reachable vertex of priority at most p
  abbrev Step : ℕ → ℕ → ℕ → Type 0
  Step p v w = Reaches game Even strategy start v × AllowsMove game Even strategy v w × (priority_of game v ≤ p)

  abbrev HasPriority : ℕ → ℕ → Type 0
  HasPriority p v = priority_of game v ≡ p

  -- the greatest number of vertices of priority p on such a trail
  record IsGreatestCount (p v c : ℕ) : Type 0 where
    trail : Trail (Step p) (HasPriority p) v c
    most : (k : ℕ) → Trail (Step p) (HasPriority p) v k → k ≤ c

  record IsComponent (v c : ℕ) (place : Level) : Type 0 where
    in_range : c ≤ place.count
    is_count : IsGreatestCount place.priority v c

  abbrev AreComponents : ℕ → List ℕ → Shape → Type 0
  AreComponents v cs shape = AllZip (λ c place. IsComponent v c place) cs shape

  components_in_range : (v : ℕ) (cs : List ℕ) (shape : Shape) → AreComponents v cs shape → IsMeasure shape (Components cs)
  components_in_range v [] [] h = tt
  components_in_range v (c ∷ cs) [] h = absurd h
  components_in_range v [] (place ∷ shape) h = absurd h
  components_in_range v (c ∷ cs) (place ∷ shape) h = (h.0.in_range, components_in_range v cs shape h.1)

  -- a move from a vertex of lower priority loses nothing, and one from a vertex of this priority counts it
  count_kept : (p v w c d : ℕ) → Step p v w → IsGreatestCount p v c → IsGreatestCount p w d → d ≤ c
  count_kept p v w c d s h k = h.most d (pass s k.trail)

  count_more : (p v w c d : ℕ) → Step p v w → HasPriority p v → IsGreatestCount p v c → IsGreatestCount p w d → d < c
  count_more p v w c d s e h k = h.most (suc d) (meet e s k.trail)

  -- so the tuples of the two ends of a move compare as the edge asks
  move_at_most : (v w : ℕ) → Reaches game Even strategy start v → AllowsMove game Even strategy v w → (cs ds : List ℕ) (shape : Shape) → AreComponents v cs shape → AreComponents w ds shape → LexAtMost (above shape (priority_of game v) ds) (above shape (priority_of game v) cs)
  move_at_most v w r a [] [] [] h k = inl refl
  move_at_most v w r a (c ∷ cs) ds [] h k = absurd h
  move_at_most v w r a [] (d ∷ ds) [] h k = absurd k
  move_at_most v w r a [] ds (place ∷ shape) h k = absurd h
  move_at_most v w r a (c ∷ cs) [] (place ∷ shape) h k = absurd k
  move_at_most v w r a (c ∷ cs) (d ∷ ds) (place ∷ shape) h k = decide (cases_lt place.priority (priority_of game v)) (move_at_most v w r a cs ds shape h.1 k.1)
    where
      q : ℕ
      q = priority_of game v

      decide : (place.priority < q) ⊎ (q ≤ place.priority) → LexAtMost (above shape q ds) (above shape q cs) → LexAtMost (above (place ∷ shape) q (d ∷ ds)) (above (place ∷ shape) q (c ∷ cs))
      decide (inl low) rest = rw (above-none place shape q (d ∷ ds) low, above-none place shape q (c ∷ cs) low) (inl refl)
      decide (inr high) rest = rw (above-more place shape q d ds high, above-more place shape q c cs high) (compared (cases_order d c))
        where
          at_head : d ≤ c
          at_head = count_kept place.priority v w c d (r, a, high) h.0.is_count k.0.is_count

          compared : (d ≡ c) ⊎ ((d < c) ⊎ (c < d)) → LexAtMost (d ∷ above shape q ds) (c ∷ above shape q cs)
          compared (inl e) = at_most_cons d c (above shape q ds) (above shape q cs) e rest
          compared (inr (inl l)) = inr (inl l)
          compared (inr (inr l)) = absurd (omega (arith, at_head))

  -- strictly at a place of the priority of the vertex
  move_below : (v w : ℕ) → Reaches game Even strategy start v → AllowsMove game Even strategy v w → (cs ds : List ℕ) (shape : Shape) → IsFalling shape →
      Contains (map (λ place. place.priority) shape) (priority_of game v) → AreComponents v cs shape → AreComponents w ds shape → LexBelow (above shape (priority_of game v) ds) (above shape (priority_of game v) cs)
  move_below v w r a cs ds [] falling has h k = absurd (not_in_nil (priority_of game v) has)
  move_below v w r a [] ds (place ∷ shape) falling has h k = absurd h
  move_below v w r a (c ∷ cs) [] (place ∷ shape) falling has h k = absurd k
  move_below v w r a (c ∷ cs) (d ∷ ds) (place ∷ shape) falling has h k =
      rw (above-more place shape q d ds high, above-more place shape q c cs high) (compared (Contains-cases place.priority (map (λ x. x.priority) shape) q has) (λ rest. move_below v w r a cs ds shape falling.1 rest h.1 k.1))
    where
      q : ℕ
      q = priority_of game v

      high : q ≤ place.priority
      high = of (Contains-cases place.priority (map (λ x. x.priority) shape) q has)
        where
          of : (place.priority ≡ q) ⊎ Contains (map (λ x. x.priority) shape) q → q ≤ place.priority
          of (inl e) = omega arith
          of (inr c) = omega (arith, below_all shape place.priority falling.0 q c)

      compared : (place.priority ≡ q) ⊎ Contains (map (λ x. x.priority) shape) q → (Contains (map (λ x. x.priority) shape) q → LexBelow (above shape q ds) (above shape q cs)) → LexBelow (d ∷ above shape q ds) (c ∷ above shape q cs)
      compared (inl e) rest = inl (count_more place.priority v w c d (r, a, high) (sym e) h.0.is_count k.0.is_count)
      compared (inr e) rest = ordered (cases_order d c)
        where
          at_head : d ≤ c
          at_head = count_kept place.priority v w c d (r, a, high) h.0.is_count k.0.is_count

          ordered : (d ≡ c) ⊎ ((d < c) ⊎ (c < d)) → LexBelow (d ∷ above shape q ds) (c ∷ above shape q cs)
          ordered (inl same) = inr (same, rest e)
          ordered (inr (inl l)) = inl l
          ordered (inr (inr l)) = absurd (omega (arith, at_head))

  move_fits : (v w : ℕ) → Reaches game Even strategy start v → AllowsMove game Even strategy v w → (cs ds : List ℕ) (shape : Shape) → IsShape (priorities game) shape →
      AreComponents v cs shape → AreComponents w ds shape → Fits shape (priority_of game v) (Components cs) (Components ds)
  move_fits v w r a cs ds shape is_shape h k =
      (move_at_most v w r a cs ds shape h k, λ odd. move_below v w r a cs ds shape falling (has odd) h k)
    where
      falling : IsFalling shape
      falling = falling_by_recursion shape is_shape.falling

      inside : v < length game
      inside = edge_inside game v w a.0

      has : IsOdd (priority_of game v) → Contains (map (λ place. place.priority) shape) (priority_of game v)
      has odd = rw at_v at (is_shape.complete v 0 (rw length-map inside) (rw at_v odd))
        where
          at_v : get_or (priorities game) v 0 ≡ priority_of game v
          at_v = get_or-map (λ (vertex : Vertex). vertex.priority) game v isolated 0 inside

  -- a way through priorities of at most p from a vertex of priority p is a walk whose greatest priority is p
  record IsWalk (p v u : ℕ) : Type 0 where
    greatest_priority : ℕ
    walk : Walk game Even strategy v u greatest_priority
    bounded : greatest_priority ≤ p
    reached : HasPriority p v → greatest_priority ≡ p

  way_walk : (p : ℕ) {v w u : ℕ} → Step p v w → Way (Step p) w u → IsWalk p v u
  way_walk p {v} s nowhere = record { greatest_priority = priority_of game v; walk = move s.1; bounded = s.2; reached = λ e. e }
  way_walk p {v} {w} {u} s (further s' way) = longer (way_walk p s' way)
    where
      longer : IsWalk p w u → IsWalk p v u
      longer h = record { greatest_priority = max (priority_of game v) h.greatest_priority; walk = moves s.1 h.walk; bounded = bounded s.2 h.bounded; reached = λ e. reached e h.bounded }
        where
          bounded : priority_of game v ≤ p → h.greatest_priority ≤ p → max (priority_of game v) h.greatest_priority ≤ p
          bounded a b = omega arith

          reached : priority_of game v ≡ p → h.greatest_priority ≤ p → max (priority_of game v) h.greatest_priority ≡ p
          reached a b = omega arith

  module _ (wins : Wins game Even strategy start) where
    acyclic : (p : ℕ) → IsOdd p → (v w : ℕ) → HasPriority p v → Step p v w → Way (Step p) w v → ⊥
    acyclic p odd v w e s way = clash (way_walk p s way)
      where
        clash : IsWalk p v v → ⊥
        clash h = parities (wins.cycles v h.greatest_priority s.0 h.walk) (h.reached e)
          where
            parities : h.greatest_priority % 2 ≡ 0 → h.greatest_priority ≡ p → ⊥
            parities even same = clash_of p odd (subst (λ n. n % 2 ≡ 0) same even)
              where
                clash_of : (n : ℕ) → n % 2 ≡ 1 → n % 2 ≡ 0 → ⊥
                clash_of n a b = omega arith

    -- a trail leaves no more vertices of an odd priority than the game has
    count_bound : (p : ℕ) → IsOdd p → (v k : ℕ) → Trail (Step p) (HasPriority p) v k → k ≤ count_by (λ q. q == p) (priorities game)
    count_bound p odd = trail_bound (Step p) (HasPriority p) (acyclic p odd) (λ q. q == p) (priorities game) 0
        (λ v w s. rw length-map (edge_inside game v w s.1.0))
        (λ v inside e. eq-eqb (get_or (priorities game) v 0) p (get_or-map (λ (vertex : Vertex). vertex.priority) game v isolated 0 (rw length-map at inside) ∙ e))

    component_exists : (v : ℕ) (place : Level) → IsOdd place.priority → place.count ≡ count_by (λ q. q == place.priority) (priorities game) → Classically ((c : ℕ) × IsComponent v c place)
    component_exists v place odd counted refuted =
        greatest place.count (Trail (Step place.priority) (HasPriority place.priority) v) stop
        (λ k t. rw counted (count_bound place.priority odd v k t))
        (λ c. refuted (c.0, record { in_range = rw counted (count_bound place.priority odd v c.0 c.1); is_count = record { trail = c.1; most = c.2 } }))

    components_exist : (v : ℕ) (shape : Shape) → All (λ place. IsOdd place.priority) shape → All (λ place. place.count ≡ count_by (λ q. q == place.priority) (priorities game)) shape → Classically ((cs : List ℕ) × AreComponents v cs shape)
    components_exist v [] odd counted refuted = refuted ([], tt)
    components_exist v (place ∷ shape) odd counted refuted =
        component_exists v place (odd 0 place (omega arith)) (counted 0 place (omega arith)) (λ c.
        components_exist v shape (λ i d l. odd (suc i) d (omega arith)) (λ i d l. counted (suc i) d (omega arith)) (λ cs. refuted (c.0 ∷ cs.0, (c.1, cs.1))))

    module _ (closed : AreEdgesInside game) (inside : start < length game) (shape : Shape) (is_shape : IsShape (priorities game) shape) where
      -- the value of a vertex: its components where it can be reached, Top elsewhere
      abbrev IsValue : ℕ → Measure → Type 0
      IsValue v m = (Reaches game Even strategy start v × ((cs : List ℕ) × (m ≡ Components cs) × AreComponents v cs shape)) ⊎ ((Reaches game Even strategy start v → ⊥) × (m ≡ Top))

      value_exists : (v : ℕ) → Classically ((m : Measure) × IsValue v m)
      value_exists v refuted = decided (Reaches game Even strategy start v) (λ d. split d)
        where
          split : Reaches game Even strategy start v ⊎ (Reaches game Even strategy start v → ⊥) → ⊥
          split (inl r) = components_exist v shape is_shape.odd is_shape.counted (λ cs. refuted (Components cs.0, inl (r, (cs.0, refl, cs.1))))
          split (inr n) = refuted (Top, inr (n, refl))

      -- a table with these values is a progress table
      values_progress : (table : Table) → ((v : ℕ) → v < length game → IsValue v (table v)) → IsProgressMeasure shape game table
      values_progress table values = record { in_range = λ v l. in_range v (values v l); fits = λ v l. fits v (values v l) }
        where
          in_range : (v : ℕ) → IsValue v (table v) → IsMeasure shape (table v)
          in_range v (inl h) = subst (λ m. IsMeasure shape m) (sym h.1.1) (components_in_range v h.1.0 shape h.1.2)
          in_range v (inr h) = subst (λ m. IsMeasure shape m) (sym h.1) tt

          along : (v w : ℕ) → Reaches game Even strategy start v → AllowsMove game Even strategy v w → (cs : List ℕ) → table v ≡ Components cs → AreComponents v cs shape → Fits shape (priority_of game v) (table v) (table w)
          along v w r a cs e h = to_value (values w (closed v w a.0))
            where
              to_value : IsValue w (table w) → Fits shape (priority_of game v) (table v) (table w)
              to_value (inl k) = rw (e, k.1.1) (move_fits v w r a cs k.1.0 shape is_shape h k.1.2)
              to_value (inr k) = absurd (k.0 (reaches_move game Even strategy r a))

          fits : (v : ℕ) → IsValue v (table v) → FitsAt shape game table v (table v)
          fits v (inl h) = of (cases_player (owner_of game v) Even)
            where
              of : (owner_of game v ≡ Even) ⊎ (owner_of game v ≡ Odd) → FitsAt shape game table v (table v)
              of (inl even) = rw even (chosen (wins.can_move v h.0 even))
                where
                  chosen : (w : ℕ) × AllowsMove game Even strategy v w → FitsFor Even shape game table v (table v)
                  chosen w = inr (w.0, w.1.0, along v w.0 h.0 w.1 h.1.0 h.1.1 h.1.2)
              of (inr odd) = rw odd all
                where
                  all : FitsFor Odd shape game table v (table v)
                  all w e = along v w h.0 (e, λ even. absurd (clash even)) h.1.0 h.1.1 h.1.2
                    where
                      clash : owner_of game v ≡ Even → ⊥
                      clash even = cc (even, odd)
          fits v (inr h) = top_fits (owner_of game v)
            where
              top_fits : (player : Player) → FitsFor player shape game table v (table v)
              top_fits Even = inl h.1
              top_fits Odd = λ w e. rw h.1 (over (table w))
                where
                  over : (m : Measure) → Fits shape (priority_of game v) Top m
                  over Top = tt
                  over (Components b) = tt

      -- there is a progress table below Top at the start
      pub progress_below_top : Classically ((table : Table) × IsProgressMeasure shape game table × (table start ≢ Top))
      progress_below_top refuted = all_below (length game) (λ v. (m : Measure) × IsValue v m) (λ v l. value_exists v) chosen
        where
          chosen : ((v : ℕ) → v < length game → (m : Measure) × IsValue v m) → ⊥
          chosen value = refuted (table, values_progress table values, low (values start inside))
            where
              pick : (v : ℕ) → (v < length game) ⊎ (length game ≤ v) → Measure
              pick v (inl l) = (value v l).0
              pick v (inr l) = Top

              table : Table
              table v = pick v (cases_lt v (length game))

              picked : (v : ℕ) → v < length game → (d : (v < length game) ⊎ (length game ≤ v)) → IsValue v (pick v d)
              picked v l (inl k) = (value v k).1
              picked v l (inr k) = absurd (omega arith)

              values : (v : ℕ) → v < length game → IsValue v (table v)
              values v l = picked v l (cases_lt v (length game))

              low : IsValue start (table start) → table start ≢ Top
              low (inl h) e = tuple_not_top h.1.0 (sym h.1.1 ∙ e)
                where
                  tuple_not_top : (a : List ℕ) → Components a ≡ Top → ⊥
                  tuple_not_top a e = cc
              low (inr h) e = h.0 here

      -- so a table below every progress table that is Top at the start contradicts the strategy
      pub top_refutes : (table : Table) → IsBelowAllProgress shape game table → table start ≡ Top → ⊥
      top_refutes table below e = progress_below_top (λ t. below_top (table start) (t.0 start) (below start inside t.0 t.1) e t.2)
        where
          below_top : (m n : Measure) → AtMost m n → m ≡ Top → n ≢ Top → ⊥
          below_top Top Top h e n = n refl
          below_top Top (Components b) h e n = h
          below_top (Components a) n h e low = cc

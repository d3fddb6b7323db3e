-- Closed walks and simple cycles say the same.
use Rattle.std.proofs.Common.{◌≡◌, ◌≢◌, ℕ, zero, suc, ◌<◌, ◌≤◌, ◌⊎◌, inl, inr, List, [], ◌∷◌, length, get_or, map, max, refl, sym, subst, Contains, All, AllPairs, arith}
use Rattle.std.proofs.lemmas.Bool.{cases_eq}
use Rattle.std.proofs.lemmas.List.Elements.{Contains-get_or, All-tail}
use Rattle.vpg_sides.specs.declared.player.Player.{Player}
use Rattle.vpg_hope.specs.Games.{Game, priority_of}
use Rattle.vpg_hope.specs.Strategies.{Strategy, AllowsMove, Reaches, Walk, Path, IsSimpleCycle, here, onward, move, moves, done, step}
use Rattle.vpg_hope.proofs.Edges.{Contains-first, Contains-later, Contains-cases, not_in_nil}
use Rattle.vpg_hope.proofs.Finite.{AreDistinct}
use Rattle.vpg_hope.proofs.Trails.{Way, nowhere, further}
use Rattle.vpg_measure.proofs.Shapes.{contains_or_not}

all_pairs_from_distinct : (vs : List ℕ) → AreDistinct vs → AllPairs (λ a b. a ≢ b) vs
all_pairs_from_distinct [] h i j d l k = absurd (omega arith)
all_pairs_from_distinct (v ∷ vs) h i zero d l k = absurd (omega arith)
all_pairs_from_distinct (v ∷ vs) h zero (suc j) d l k = λ e. h.0 (subst (λ x. Contains vs x) (sym e) (Contains-get_or vs j d (omega arith)))
all_pairs_from_distinct (v ∷ vs) h (suc i) (suc j) d l k = all_pairs_from_distinct vs h.1 i j d (omega arith) (omega arith)

module _ (game : Game) (player : Player) (strategy : Strategy) (m : ℕ) where
  -- a move from a vertex of priority at most m
  abbrev Step : ℕ → ℕ → Type 0
  Step v w = AllowsMove game player strategy v w × (priority_of game v ≤ m)

  way_join : {u v w : ℕ} → Way Step u v → Way Step v w → Way Step u w
  way_join nowhere r = r
  way_join (further s q) r = further s (way_join q r)

  way_reaches : {u v : ℕ} → Way Step u v → Reaches game player strategy u v
  way_reaches nowhere = here
  way_reaches (further s q) = onward s.0 (way_reaches q)

  walk_way : {u v n : ℕ} → Walk game player strategy u v n → n ≤ m → Way Step u v
  walk_way (move {v} {w} a) l = further (a, l) nowhere
  walk_way (moves {v} {w} {u} {m = n} a q) l = further (a, omega arith) (walk_way q (omega arith))

  -- a walk whose greatest priority is m leaves a vertex of priority m
  record Turns (u v : ℕ) : Type 0 where
    at_vertex : ℕ
    next : ℕ
    to_there : Way Step u at_vertex
    has_priority : priority_of game at_vertex ≡ m
    from_there : Step at_vertex next
    back : Way Step next v

  walk_turns : {u v n : ℕ} → Walk game player strategy u v n → n ≡ m → Turns u v
  walk_turns (move {v} {w} a) e = record { at_vertex = v; next = w; to_there = nowhere; has_priority = e; from_there = (a, omega arith); back = nowhere }
  walk_turns (moves {v} {w} {u} {m = n} a q) e = decide (cases_eq (priority_of game v) m) (walk_turns q) (walk_way q)
    where
      decide : (priority_of game v ≡ m) ⊎ (priority_of game v ≡ m → ⊥) → (n ≡ m → Turns w u) → (n ≤ m → Way Step w u) → Turns v u
      decide (inl same) later way = record { at_vertex = v; next = w; to_there = nowhere; has_priority = same; from_there = (a, omega arith); back = way (omega arith) }
      decide (inr other) later way = prepend (later (omega arith))
        where
          prepend : Turns w u → Turns v u
          prepend t = record { at_vertex = t.at_vertex; next = t.next; to_there = further (a, omega arith) t.to_there; has_priority = t.has_priority; from_there = t.from_there; back = t.back }

  -- a path that leaves no vertex twice and not the last one
  record IsSimple (u v : ℕ) (vs : List ℕ) : Type 0 where
    path : Path game player strategy u v vs
    distinct : AreDistinct vs
    avoids : Contains vs v → ⊥
    bounded : (w : ℕ) → Contains vs w → priority_of game w ≤ m

  suffix : {u v : ℕ} {vs : List ℕ} → Path game player strategy u v vs → AreDistinct vs → (Contains vs v → ⊥) → ((w : ℕ) → Contains vs w → priority_of game w ≤ m) → (x : ℕ) → Contains vs x → (ws : List ℕ) × IsSimple x v ws
  suffix done d n b x c = absurd (not_in_nil x c)
  suffix (step {v} {w} {u} {vs} a p) d n b x c = of (Contains-cases v vs x c) (suffix p d.1 (λ k. n (Contains-later v vs u k)) (λ y k. b y (Contains-later v vs y k)) x)
    where
      of : (v ≡ x) ⊎ Contains vs x → (Contains vs x → (ws : List ℕ) × IsSimple x u ws) → (ws : List ℕ) × IsSimple x u ws
      of (inl e) rest = subst (λ y. (ws : List ℕ) × IsSimple y u ws) e (v ∷ vs, record { path = step a p; distinct = d; avoids = n; bounded = b })
      of (inr k) rest = rest k

  shorten : {u v : ℕ} → Way Step u v → (vs : List ℕ) × IsSimple u v vs
  shorten nowhere = ([], record { path = done; distinct = tt; avoids = λ c. not_in_nil _ c; bounded = λ w c. absurd (not_in_nil w c) })
  shorten (further {v} {w} {u} s q) = extend (shorten q) (cases_eq v u)
    where
      extend : (vs : List ℕ) × IsSimple w u vs → (v ≡ u) ⊎ (v ≡ u → ⊥) → (vs : List ℕ) × IsSimple v u vs
      extend r (inl e) = subst (λ y. (vs : List ℕ) × IsSimple v y vs) e ([], record { path = done; distinct = tt; avoids = λ c. not_in_nil v c; bounded = λ x c. absurd (not_in_nil x c) })
      extend r (inr apart) = of (contains_or_not r.0 v)
        where
          of : Contains r.0 v ⊎ (Contains r.0 v → ⊥) → (vs : List ℕ) × IsSimple v u vs
          of (inl c) = suffix r.1.path r.1.distinct r.1.avoids r.1.bounded v c
          of (inr n) = (v ∷ r.0, record { path = step s.0 r.1.path; distinct = (n, r.1.distinct); avoids = λ c. avoids (Contains-cases v r.0 u c); bounded = λ x c. bounded x (Contains-cases v r.0 x c) })
            where
              avoids : (v ≡ u) ⊎ Contains r.0 u → ⊥
              avoids (inl e) = apart e
              avoids (inr c) = r.1.avoids c

              bounded : (x : ℕ) → (v ≡ x) ⊎ Contains r.0 x → priority_of game x ≤ m
              bounded x (inl e) = subst (λ y. priority_of game y ≤ m) e s.1
              bounded x (inr c) = r.1.bounded x c

  -- each closed walk has a simple cycle of its greatest priority
  pub record HasSimpleCycle (u : ℕ) : Type 0 where
    pub at_vertex : ℕ
    pub reached : Reaches game player strategy u at_vertex
    pub vertices : List ℕ
    pub cycle : IsSimpleCycle game player strategy at_vertex vertices m

  pub simple_cycle : {u : ℕ} → Walk game player strategy u u m → HasSimpleCycle u
  simple_cycle {u} walk = of (walk_turns walk refl)
    where
      of : Turns u u → HasSimpleCycle u
      of t = close (shorten (way_join t.back t.to_there))
        where
          x : ℕ
          x = t.at_vertex

          close : (vs : List ℕ) × IsSimple t.next t.at_vertex vs → HasSimpleCycle u
          close r = record {
            at_vertex = t.at_vertex;
            reached = way_reaches t.to_there;
            vertices = t.at_vertex ∷ r.0;
            cycle = record {
              path = step t.from_there.0 r.1.path;
              distinct = all_pairs_from_distinct (t.at_vertex ∷ r.0) (r.1.avoids, r.1.distinct);
              bounded = λ k d l. bounded (get_or (t.at_vertex ∷ r.0) k d) (Contains-cases t.at_vertex r.0 (get_or (t.at_vertex ∷ r.0) k d) (Contains-get_or (t.at_vertex ∷ r.0) k d l));
              attained = subst (λ p. Contains (map (priority_of game) (t.at_vertex ∷ r.0)) p) t.has_priority (Contains-first (priority_of game t.at_vertex) (map (priority_of game) r.0));
            };
          }
            where
              bounded : (y : ℕ) → (t.at_vertex ≡ y) ⊎ Contains r.0 y → priority_of game y ≤ m
              bounded y (inl e) = subst (λ z. priority_of game z ≤ m) e t.from_there.1
              bounded y (inr c) = r.1.bounded y c

  -- a simple cycle is a closed walk of its greatest priority
  record IsPathWalk (u v : ℕ) (vs : List ℕ) : Type 0 where
    greatest : ℕ
    walk : Walk game player strategy u v greatest
    bounded : greatest ≤ m
    attains : Contains (map (priority_of game) vs) m → m ≤ greatest

  path_walk : {u v : ℕ} {vs : List ℕ} → Path game player strategy u v vs → All (λ w. priority_of game w ≤ m) vs → (0 < length vs) → IsPathWalk u v vs
  path_walk done b l = absurd (omega arith)
  path_walk (step {v} {w} {u} a done) b l = record { greatest = priority_of game v; walk = move a; bounded = b 0 v (omega arith); attains = λ c. of (Contains-cases (priority_of game v) [] m c) }
    where
      of : (priority_of game v ≡ m) ⊎ Contains [] m → m ≤ priority_of game v
      of (inl e) = omega arith
      of (inr c) = absurd (not_in_nil m c)
  path_walk (step {v} {w} {u} a (step {w = x} {vs = vs} b p)) h l = longer (path_walk (step b p) (All-tail (λ y. priority_of game y ≤ m) v (w ∷ vs) h) (omega arith))
    where
      longer : IsPathWalk w u (w ∷ vs) → IsPathWalk v u (v ∷ w ∷ vs)
      longer r = record { greatest = max (priority_of game v) r.greatest; walk = moves a r.walk; bounded = both (h 0 v (omega arith)) r.bounded; attains = λ c. of (Contains-cases (priority_of game v) (map (priority_of game) (w ∷ vs)) m c) }
        where
          both : priority_of game v ≤ m → r.greatest ≤ m → max (priority_of game v) r.greatest ≤ m
          both a b = omega arith

          of : (priority_of game v ≡ m) ⊎ Contains (map (priority_of game) (w ∷ vs)) m → m ≤ max (priority_of game v) r.greatest
          of (inl e) = omega arith
          of (inr c) = omega (arith, r.attains c)

  pub cycle_walk : (u : ℕ) (vs : List ℕ) → IsSimpleCycle game player strategy u vs m → Walk game player strategy u u m
  cycle_walk u vs h = of (path_walk h.path h.bounded (nonempty vs h.attained))
    where
      nonempty : (ws : List ℕ) → Contains (map (priority_of game) ws) m → 0 < length ws
      nonempty [] c = absurd (not_in_nil m c)
      nonempty (w ∷ ws) c = omega arith

      of : IsPathWalk u u vs → Walk game player strategy u u m
      of r = subst (λ n. Walk game player strategy u u n) same r.walk
        where
          same : r.greatest ≡ m
          same = omega (arith, r.bounded, r.attains h.attained)

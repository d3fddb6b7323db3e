-- The edges into a vertex are looked at one after another, in all products at once.
use Rattle.std.proofs.Common.{◌≡◌, ℕ, zero, suc, ◌+◌, ◌<◌, ◌≤◌, ◌⊎◌, inl, inr, ◌↔◌, List, [], ◌∷◌, Bool, true, false, ◌||◌, length, get_or, set, refl, sym, ◌∙◌, ap, subst, Contains, arith}
use Rattle.std.proofs.lemmas.Bool.{cases_eq, cases_lt}
use Rattle.std.proofs.lemmas.List.{get_or_default}
use Rattle.vpg_sides.specs.declared.player.Player.{Player}
use Rattle.vpg_guards.specs.Formula.{Formula}
use Rattle.vpg_game.specs.Guarded.{GuardedGame}
use Rattle.vpg_hope.specs.Games.{HasEdge}
use Rattle.vpg_zielonka.specs.declared.subset.Subset.{Subset}
use Rattle.vpg_zielonka.specs.declared.universe.Universe.{Universe}
use Rattle.vpg_zielonka.specs.Universes.{no_subset, IsInside, has, IsSetOf, IsGrown}
use Rattle.vpg_zielonka.proofs.Growing.{grown_self, grown_then, inside_grown, set_same}
use Rattle.vpg_zielonka.specs.Attractors.{Vertices}
use Rattle.vpg_zielonka.specs.declared.edges.Edge.{Edge}
use Rattle.vpg_zielonka.specs.Drawing.{Joins, IsSettled, IsDrawnFrom}
use Rattle.vpg_zielonka.specs.Edges.{edge_at, numbers_at, Leads}
use Rattle.vpg_zielonka.specs.Parts.{set_at, game_in, part_in, AreSets}
use Rattle.vpg_zielonka.proofs.Confining.{enters_in, edge_read, read_from}
use Rattle.vpg_zielonka.proofs.Listing.{AreEdges, edges_grown}
use Rattle.vpg_zielonka.proofs.Drawing.{drawn_self, drawn_then, settled_later, step_drawn, step_settled}
use Rattle.vpg_zielonka.proofs.Filling.{part_known, part_inside, part_beyond, part_grown, sets_grown}

-- ---- lists with one element changed

pub set_here : {X : Type 0} (xs : List X) (i : ℕ) (x d : X) → i < length xs → get_or (set xs i x) i d ≡ x
set_here [] i x d l = absurd (omega arith)
set_here (y ∷ xs) zero x d l = refl
set_here (y ∷ xs) (suc i) x d l = set_here xs i x d (omega arith)

pub set_there : {X : Type 0} (xs : List X) (i j : ℕ) (x d : X) → (j ≡ i → ⊥) → get_or (set xs i x) j d ≡ get_or xs j d
set_there [] i j x d n = refl
set_there (y ∷ xs) zero zero x d n = absurd (n refl)
set_there (y ∷ xs) zero (suc j) x d n = refl
set_there (y ∷ xs) (suc i) zero x d n = refl
set_there (y ∷ xs) (suc i) (suc j) x d n = set_there xs i j x d (λ e. n (ap suc e))

pub set_count : {X : Type 0} (xs : List X) (i : ℕ) (x : X) → length (set xs i x) ≡ length xs
set_count [] i x = refl
set_count (y ∷ xs) zero x = refl
set_count (y ∷ xs) (suc i) x = ap suc (set_count xs i x)

-- the waiting vertices stay when one more waits
pub wait_more : (list : List Bool) (v x : ℕ) → get_or list x false ≡ true → get_or (set list v true) x false ≡ true
wait_more list v x e = of (cases_eq x v)
  where
    below : (l : List Bool) (y : ℕ) → get_or l y false ≡ true → y < length l
    below [] y f = cc
    below (b ∷ l) zero f = omega arith
    below (b ∷ l) (suc y) f = omega (arith, below l y f)

    of : (x ≡ v) ⊎ (x ≡ v → ⊥) → get_or (set list v true) x false ≡ true
    of (inl eq) = subst (λ y. get_or (set list y true) x false ≡ true) eq (set_here list x true false (below list x e))
    of (inr n) = set_there list v x true false n ∙ e

-- ---- what is added to one vertex

-- in each product the vertex has what it had or what was added, and the others stay
abbrev pub IsAdded : Universe → Universe → List Subset → List Subset → (List Bool → Bool) → ℕ → Type 0
IsAdded a b drawn more joins v0 =
    (p : List Bool) → (part_in b more p v0 ≡ (part_in a drawn p v0 || joins p)) ×
    ((v : ℕ) → (v ≡ v0 → ⊥) → part_in b more p v ≡ part_in a drawn p v)

module _ (a b : Universe) (g : IsGrown a b) (n : ℕ) (drawn : List Subset) (are : AreSets a n drawn) (joins : List Bool → Bool)
    (v0 : ℕ) where
  pub added_none : ((p : List Bool) → joins p ≡ false) → IsAdded a b drawn drawn joins v0
  added_none none p = (
    part_grown a b g n drawn are p v0 ∙ same (part_in a drawn p v0) (joins p) (none p),
    λ v out. part_grown a b g n drawn are p v,
  )
    where
      same : (x y : Bool) → y ≡ false → x ≡ (x || y)
      same true y e = refl
      same false y e = sym e

  module _ (new : Subset) (inside : v0 < length drawn)
      (is : IsSetOf b (λ p. has a (set_at drawn v0) p || joins p) new) where
    pub added_some : IsAdded a b drawn (set drawn v0 new) joins v0
    added_some p = (here, there)
      where
        here : part_in b (set drawn v0 new) p v0 ≡ (part_in a drawn p v0 || joins p)
        here = part_inside b (set drawn v0 new) p v0 (subst (λ n. v0 < n) (sym (set_count drawn v0 new)) inside)
            ∙ ap (λ (s : Subset). has b s p) (set_here drawn v0 new no_subset inside) ∙ is.each p
            ∙ ap (λ (c : Bool). c || joins p) (sym (part_inside a drawn p v0 inside))

        there : (v : ℕ) → (v ≡ v0 → ⊥) → part_in b (set drawn v0 new) p v ≡ part_in a drawn p v
        there v out = of (cases_lt v (length drawn))
          where
            of : (v < length drawn) ⊎ (length drawn ≤ v) → part_in b (set drawn v0 new) p v ≡ part_in a drawn p v
            of (inl l) = part_inside b (set drawn v0 new) p v (subst (λ n. v < n) (sym (set_count drawn v0 new)) l)
                ∙ ap (λ (s : Subset). has b s p) (set_there drawn v0 v new no_subset out)
                ∙ g.same (set_at drawn v) (are.inside v l) p ∙ sym (part_inside a drawn p v l)
            of (inr l) = part_beyond b (set drawn v0 new) p v
                (subst (λ n. n ≤ v) (sym (set_count drawn v0 new)) l) ∙ sym (part_beyond a drawn p v l)

    pub added_sets : AreSets b n (set drawn v0 new)
    added_sets = record {
      count_is = set_count drawn v0 new ∙ are.count_is;
      inside = λ v l. of v (subst (λ n. v < n) (set_count drawn v0 new) l) (cases_eq v v0);
    }
      where
        of : (v : ℕ) → v < length drawn → (v ≡ v0) ⊎ (v ≡ v0 → ⊥) → IsInside b (set_at (set drawn v0 new) v)
        of v l (inl e) = subst (λ x. IsInside b (set_at (set drawn v0 new) x)) (sym e)
            (subst (λ (s : Subset). IsInside b s) (sym (set_here drawn v0 new no_subset inside)) is.inside)
        of v l (inr out) = subst (λ (s : Subset). IsInside b s)
            (sym (set_there drawn v0 v new no_subset out))
            (inside_grown a b g (set_at drawn v) (are.inside v l))

-- ---- the edges into one vertex

module _ (old : Universe) (graph : GuardedGame Formula) (edges : List Edge) (leaving entering : List (List ℕ))
    (player : Player) (part first : List Subset) (w : ℕ) where
  abbrev numbers : List ℕ
  numbers = numbers_at entering w

  -- an edge that is not looked at yet
  abbrev Unlooked : ℕ → List Bool → ℕ → ℕ → Type 0
  Unlooked i p v x = (j : ℕ) × (i ≤ j) × (j < length numbers) × Leads old edges p (get_or numbers j 0) v x

  abbrev Waits : List Bool → ℕ → List Bool → ℕ → ℕ → Type 0
  Waits waiting i p v x = (get_or waiting x false ≡ true) ⊎ ((x ≡ w) × Unlooked i p v x)

  -- the first edges into the vertex were looked at
  pub record IsLookedAt (now : Universe) (drawn : List Subset) (waiting : List Bool) (i : ℕ) : Type 0 where
    pub grown : IsGrown old now
    pub sets : AreSets now (length graph) drawn
    pub count : length waiting ≡ length graph
    pub more : (p : List Bool) → IsDrawnFrom (game_in graph p) player (part_in old part p) (part_in old first p)
        (part_in now drawn p)
    pub settled : (p : List Bool) → IsSettled (game_in graph p) player (part_in old part p) (part_in now drawn p)
        (Waits waiting i p)

  pub looked_none : (waiting : List Bool) → AreEdges old graph edges leaving entering → AreSets old (length graph) first →
      length waiting ≡ length graph → ((p : List Bool) → IsSettled (game_in graph p) player (part_in old part p)
      (part_in old first p) (λ v x. (get_or waiting x false ≡ true) ⊎ (x ≡ w))) → IsLookedAt old first waiting 0
  looked_none waiting are firsts count settled = record {
    grown = grown_self old;
    sets = firsts;
    count = count;
    more = λ p. drawn_self (game_in graph p) player (part_in old part p) (part_in old first p);
    settled = λ p. settled_later (game_in graph p) player (part_in old part p) (part_in old first p)
        (λ v x. (get_or waiting x false ≡ true) ⊎ (x ≡ w)) (Waits waiting 0 p) (λ v x m edge h. later p v x m edge h)
        (settled p);
  }
    where
      later : (p : List Bool) (v x : ℕ) → part_in old part p v ≡ true → HasEdge (game_in graph p) v x →
          (get_or waiting x false ≡ true) ⊎ (x ≡ w) → Waits waiting 0 p v x
      later p v x m edge (inl e) = inl e
      later p v x m edge (inr e) = inr (e, found (are.complete p v x (part_known old part p v m) edge))
        where
          found : (k : ℕ) × Leads old edges p k v x → Unlooked 0 p v x
          found k = at ((are.enter w k.0).1 (k.1.inside, k.1.to ∙ e))
            where
              zeroed : (l : List ℕ) (j k : ℕ) → j < length l → get_or l j k ≡ k → get_or l j 0 ≡ k
              zeroed [] j k l e = absurd (omega arith)
              zeroed (x ∷ l) zero k b e = e
              zeroed (x ∷ l) (suc j) k b e = zeroed l j k (omega arith) e

              at : Contains numbers k.0 → Unlooked 0 p v x
              at c = (
                c.0,
                omega arith,
                c.1,
                subst (λ n. Leads old edges p n v x) (sym (zeroed numbers c.0 k.0 c.1 c.2)) k.1,
              )

  pub looked_all : (now : Universe) (drawn : List Subset) (waiting : List Bool) →
      IsLookedAt now drawn waiting (length numbers) → (p : List Bool) → IsSettled (game_in graph p) player
      (part_in old part p) (part_in now drawn p) (λ v x. get_or waiting x false ≡ true)
  looked_all now drawn waiting is p =
      settled_later (game_in graph p) player (part_in old part p) (part_in now drawn p)
      (Waits waiting (length numbers) p) (λ v x. get_or waiting x false ≡ true) (λ v x m edge h. of v x h) (is.settled p)
    where
      of : (v x : ℕ) → Waits waiting (length numbers) p v x → get_or waiting x false ≡ true
      of v x (inl e) = e
      of v x (inr h) = absurd (over h.1)
        where
          over : Unlooked (length numbers) p v x → ⊥
          over j = omega (arith, j.1, j.2)

  -- one more edge was looked at
  module _ (a b : Universe) (drawn more : List Subset) (waiting later : List Bool) (i k : ℕ) (joins : List Bool → Bool)
      (is : IsLookedAt a drawn waiting i) (are : AreEdges a graph edges leaving entering)
      (parts : AreSets old (length graph) part) (at : get_or numbers i 0 ≡ k) (inside : k < length edges)
      (to : (edge_at edges k).to ≡ w) (olds : IsInside old (edge_at edges k).products)
      (grown : IsGrown a b) (sets : AreSets b (length graph) more) (count : length later ≡ length graph)
      (added : IsAdded a b drawn more joins (edge_at edges k).from)
      (joining : (p : List Bool) → (joins p ≡ true) ↔ ((has a (edge_at edges k).products p ≡ true) ×
      Joins (game_in graph p) player (part_in a part p) (part_in a drawn p) (edge_at edges k).from (edge_at edges k).to))
      (stay : (x : ℕ) → get_or waiting x false ≡ true → get_or later x false ≡ true)
      (waits : (p : List Bool) → joins p ≡ true → get_or later (edge_at edges k).from false ≡ true) where
    abbrev v0 : ℕ
    v0 = (edge_at edges k).from

    abbrev Looked : List Bool → Type 0
    Looked p = has a (edge_at edges k).products p ≡ true

    same_part : (p : List Bool) → part_in a part p ≡ part_in old part p
    same_part p = λ x v. part_grown old a is.grown (length graph) part parts p v x

    joining_old : (p : List Bool) → (joins p ≡ true) ↔ (Looked p ×
        Joins (game_in graph p) player (part_in old part p) (part_in a drawn p) v0 w)
    joining_old p = subst (λ y. (joins p ≡ true) ↔ (Looked p ×
        Joins (game_in graph p) player (part_in old part p) (part_in a drawn p) v0 y)) to
        (subst (λ (m : Vertices). (joins p ≡ true) ↔ (Looked p ×
        Joins (game_in graph p) player m (part_in a drawn p) v0 (edge_at edges k).to)) (same_part p) (joining p))

    edge : (p : List Bool) → Looked p → HasEdge (game_in graph p) v0 w
    edge p h = are.sound p k v0 w (record { inside = inside; from = refl; to = to; holds = h })

    pub looked_more : IsLookedAt b more later (i + 1)
    looked_more = record {
      grown = grown_then old a b is.grown grown;
      sets = sets;
      count = count;
      more = λ p. drawn_then (game_in graph p) player (part_in old part p) (part_in old first p) (part_in a drawn p)
          (part_in b more p) (is.more p)
          (step_drawn (game_in graph p) player (part_in old part p) (part_in a drawn p) (part_in b more p) v0 w
          (joins p) (Looked p) (added p).0 (added p).1 (joining_old p) (edge p));
      settled = λ p. step_settled (game_in graph p) player (part_in old part p) (part_in a drawn p) (part_in b more p)
          v0 w (joins p) (Looked p) (added p).0 (added p).1 (joining_old p) (Waits waiting i p) (Waits later (i + 1) p)
          (λ j v. inl (waits p j)) (λ v x h. next p v x h) (is.settled p);
    }
      where
        next : (p : List Bool) (v x : ℕ) → Waits waiting i p v x →
            Waits later (i + 1) p v x ⊎ ((v ≡ v0) × (x ≡ w) × Looked p)
        next p v x (inl e) = inl (inl (stay x e))
        next p v x (inr h) = of h.0 h.1 (cases_eq h.1.0 i)
          where
            of : x ≡ w → (u : Unlooked i p v x) → (u.0 ≡ i) ⊎ (u.0 ≡ i → ⊥) →
                Waits later (i + 1) p v x ⊎ ((v ≡ v0) × (x ≡ w) × Looked p)
            of e u (inr n) = inl (inr (e, (u.0, beyond u.1, u.2, u.3)))
              where
                beyond : i ≤ u.0 → i + 1 ≤ u.0
                beyond l = omega (arith, n)
            of e u (inl j) = inr (led (subst (λ n. Leads old edges p n v x) (ap (λ n. get_or numbers n 0) j ∙ at) u.3))
              where
                led : Leads old edges p k v x → (v ≡ v0) × (x ≡ w) × Looked p
                led l = (sym l.from, e, is.grown.same (edge_at edges k).products olds p ∙ l.holds)

-- ---- the edge that was read, and what joins by it

-- the set that is read at a vertex
pub set_read : (sets : List Subset) (v : ℕ) (s : Subset) → v < length sets → s ≡ get_or sets v s → s ≡ set_at sets v
set_read sets v s l h = h ∙ get_or_default sets v s no_subset l

module _ (old : Universe) (graph : GuardedGame Formula) (edges : List Edge) (leaving entering : List (List ℕ))
    (player : Player) (part first : List Subset) (w : ℕ) (are : AreEdges old graph edges leaving entering)
    (parts : AreSets old (length graph) part) (a : Universe) (drawn : List Subset) (waiting : List Bool) (i : ℕ)
    (is : IsLookedAt old graph edges leaving entering player part first w a drawn waiting i)
    (read : List ℕ) (enter : read ≡ numbers_at entering w) (more_numbers : i < length read) where
  abbrev k : ℕ
  k = get_or read i 0

  pub number_inside : k < length edges
  number_inside = (enters_in old graph edges leaving entering are read w i more_numbers enter).0

  leads_to : (edge_at edges k).to ≡ w
  leads_to = (enters_in old graph edges leaving entering are read w i more_numbers enter).1

  -- where the edge that was read comes from
  pub from_drawn : (e : Edge) → e ≡ get_or edges k e → e.from < length drawn
  from_drawn e h = subst (λ n. e.from < n) (sym is.sets.count_is)
      (read_from old graph edges leaving entering are k e number_inside h)

  pub from_waiting : (e : Edge) → e ≡ get_or edges k e → e.from < length waiting
  from_waiting e h = subst (λ n. e.from < n) (sym is.count)
      (read_from old graph edges leaving entering are k e number_inside h)

  pub drawn_inside : (e : Edge) → e ≡ get_or edges k e → (s : Subset) → s ≡ get_or drawn e.from s → IsInside a s
  drawn_inside e h s r = subst (λ (x : Subset). IsInside a x) (sym (set_read drawn e.from s (from_drawn e h) r))
      (is.sets.inside e.from (from_drawn e h))

  module _ (j : Universe) (g : IsGrown a j) (joins : Subset)
      (joining : (p : List Bool) → (has j joins p ≡ true) ↔ ((has a (edge_at edges k).products p ≡ true) ×
      Joins (game_in graph p) player (part_in a part p) (part_in a drawn p) (edge_at edges k).from (edge_at edges k).to))
    where
      step : (b : Universe) → IsGrown a b → (more : List Subset) (later : List Bool) → AreSets b (length graph) more →
          length later ≡ length graph → IsAdded a b drawn more (λ p. has j joins p) (edge_at edges k).from →
          ((x : ℕ) → get_or waiting x false ≡ true → get_or later x false ≡ true) →
          ((p : List Bool) → has j joins p ≡ true → get_or later (edge_at edges k).from false ≡ true) →
          IsLookedAt old graph edges leaving entering player part first w b more later (i + 1)
      step b h more later sets count added stay waits =
          looked_more old graph edges leaving entering player part first w a b drawn more waiting later i k
          (λ p. has j joins p) is (edges_grown old a is.grown graph edges leaving entering are) parts
          (ap (λ (xs : List ℕ). get_or xs i 0) (sym enter)) number_inside leads_to (are.inside k number_inside)
          h sets count added joining stay waits

      -- nothing joins
      pub looked_same : ((p : List Bool) → has j joins p ≡ false) →
          IsLookedAt old graph edges leaving entering player part first w j drawn waiting (i + 1)
      looked_same none = step j g drawn waiting (sets_grown a j g (length graph) drawn is.sets) is.count
          (added_none a j g (length graph) drawn is.sets (λ p. has j joins p) (edge_at edges k).from none)
          (λ x e. e) (λ p e. absurd (clash (none p) e))
        where
          clash : {b : Bool} → b ≡ false → b ≡ true → ⊥
          clash f t = cc (f, t)

      -- what joins is added, and the vertex waits
      pub looked_joined : (b : Universe) → IsGrown j b → (e : Edge) → e ≡ get_or edges k e → (s : Subset) →
          s ≡ get_or drawn e.from s → (new : Subset) → IsSetOf b (λ p. has j s p || has j joins p) new →
          (more : List Subset) → more ≡ set drawn e.from new → (later : List Bool) → later ≡ set waiting e.from true →
          IsLookedAt old graph edges leaving entering player part first w b more later (i + 1)
      looked_joined b h e e_is s s_is new is_set more more_is later later_is =
          subst (λ (xs : List Subset). IsLookedAt old graph edges leaving entering player part first w b xs later (i + 1))
          (sym (more_is ∙ ap (λ x. set drawn x new) from_is))
          (step b (grown_then a j b g h) (set drawn v0 new) later
          (added_sets a b (grown_then a j b g h) (length graph) drawn is.sets (λ p. has j joins p) v0 new inside at)
          (ap (λ (l : List Bool). length l) later_at ∙ set_count waiting v0 true ∙ is.count)
          (added_some a b (grown_then a j b g h) (length graph) drawn is.sets (λ p. has j joins p) v0 new inside at)
          (λ x t. subst (λ (l : List Bool). get_or l x false ≡ true) (sym later_at) (wait_more waiting v0 x t))
          (λ p t. subst (λ (l : List Bool). get_or l v0 false ≡ true) (sym later_at)
          (set_here waiting v0 true false (subst (λ n. v0 < n) (sym is.count) (are.from_inside k number_inside)))))
        where
          v0 : ℕ
          v0 = (edge_at edges k).from

          from_is : e.from ≡ v0
          from_is = ap (λ (x : Edge). x.from) (edge_read edges k e number_inside e_is)

          later_at : later ≡ set waiting v0 true
          later_at = later_is ∙ ap (λ x. set waiting x true) from_is

          inside : v0 < length drawn
          inside = subst (λ n. v0 < n) (sym is.sets.count_is) (are.from_inside k number_inside)

          s_at : s ≡ set_at drawn v0
          s_at = set_read drawn e.from s (from_drawn e e_is) s_is ∙ ap (λ x. set_at drawn x) from_is

          at : IsSetOf b (λ p. has a (set_at drawn v0) p || has j joins p) new
          at = set_same b (λ p. has j s p || has j joins p) (λ p. has a (set_at drawn v0) p || has j joins p)
              (λ p. ap (λ (c : Bool). c || has j joins p)
              (ap (λ (x : Subset). has j x p) s_at ∙ g.same (set_at drawn v0) (is.sets.inside v0 inside) p)) new is_set

-- The products in which a vertex is confined, and in which it joins what is drawn, by sets.
use Rattle.std.proofs.Common.{◌≡◌, ℕ, zero, suc, ◌+◌, ◌<◌, ◌⊎◌, inl, inr, ◌↔◌, List, [], ◌∷◌, Bool, true, false, not, ◌&&◌, length, get_or, refl, sym, ◌∙◌, ap, subst, Contains, arith}
use Rattle.std.proofs.lemmas.Bool.{cases_eq}
use Rattle.std.proofs.lemmas.List.{get_or_default}
use Rattle.vpg_sides.specs.declared.player.Player.{Player}
use Rattle.vpg_guards.specs.Formula.{Formula}
use Rattle.vpg_game.specs.Guarded.{GuardedGame}
use Rattle.vpg_game.specs.Game.{vertex_in}
use Rattle.vpg_hope.specs.Games.{owner_of, priority_of}
use Rattle.vpg_zielonka.specs.declared.subset.Subset.{Subset}
use Rattle.vpg_zielonka.specs.declared.universe.Universe.{Universe}
use Rattle.vpg_zielonka.specs.Universes.{IsInside, has, IsSetOf, IsGrown}
use Rattle.vpg_zielonka.proofs.Growing.{grown_then}
use Rattle.vpg_zielonka.specs.declared.edges.Edge.{Edge}
use Rattle.vpg_zielonka.specs.Drawing.{Confines, Joins}
use Rattle.vpg_zielonka.specs.Edges.{no_edge, edge_at, numbers_at, Leads}
use Rattle.vpg_zielonka.specs.Parts.{set_at, game_in, part_in, AreSets}
use Rattle.vpg_zielonka.proofs.Filling.{part_inside, part_known, part_grown}
use Rattle.vpg_zielonka.proofs.Listing.{AreEdges}

pub owner_is : (graph : GuardedGame Formula) (p : List Bool) (v : ℕ) →
    owner_of (game_in graph p) v ≡ (vertex_in graph v).owner
owner_is [] p v = refl
owner_is (x ∷ graph) p zero = refl
owner_is (x ∷ graph) p (suc v) = owner_is graph p v

pub priority_is : (graph : GuardedGame Formula) (p : List Bool) (v : ℕ) →
    priority_of (game_in graph p) v ≡ (vertex_in graph v).priority
priority_is [] p v = refl
priority_is (x ∷ graph) p zero = refl
priority_is (x ∷ graph) p (suc v) = priority_is graph p v

-- ---- tests

pub cut_true : (x c t g : Bool) → ((x && not ((c && not t) && g)) ≡ true) ↔
    ((x ≡ true) × (g ≡ true → c ≡ true → t ≡ true))
cut_true false c t g = (λ e. cc, λ h. h.0)
cut_true true false t g = (λ e. (refl, λ f h. cc), λ h. refl)
cut_true true true true g = (λ e. (refl, λ f h. refl), λ h. refl)
cut_true true true false false = (λ e. (refl, λ f h. cc), λ h. refl)
cut_true true true false true = (λ e. cc, λ h. absurd (lost (h.1 refl refl)))
  where
    lost : false ≡ true → ⊥
    lost e = cc

pub step_true : (c w o g : Bool) → ((((c && w) && not o) && g) ≡ true) ↔
    ((c ≡ true) × (w ≡ true) × (o ≡ false) × (g ≡ true))
step_true false w o g = (λ e. cc, λ h. h.0)
step_true true false o g = (λ e. cc, λ h. h.1)
step_true true true true g = (λ e. cc, λ h. sym h.2)
step_true true true false g = (λ e. (refl, refl, refl, e), λ h. h.3)

-- ---- one edge after another

-- the edge of this number leads to what is drawn, where it leads to the part
abbrev pub ConfinesBy : Universe → List Edge → List Subset → List Subset → List Bool → ℕ → Type 0
ConfinesBy universe edges part drawn p k =
    has universe (edge_at edges k).products p ≡ true → has universe (set_at part (edge_at edges k).to) p ≡ true →
    has universe (set_at drawn (edge_at edges k).to) p ≡ true

-- the first of these edges are looked at
abbrev pub IsConfinedTo : Universe → Universe → List Edge → List Subset → List Subset → Subset → Subset → List ℕ → ℕ → Type 0
IsConfinedTo old new edges part drawn set kept numbers i =
    (p : List Bool) → (has new kept p ≡ true) ↔ ((has old set p ≡ true) × ((j : ℕ) → j < i →
    ConfinesBy old edges part drawn p (get_or numbers j 0)))

module _ (old : Universe) (edges : List Edge) (part drawn : List Subset) (set : Subset) (numbers : List ℕ) where
  pub confined_more : (a b : Universe) → IsGrown old a → (kept next : Subset) (i k : ℕ) → get_or numbers i 0 ≡ k →
      IsInside old (edge_at edges k).products → IsInside old (set_at part (edge_at edges k).to) →
      IsInside old (set_at drawn (edge_at edges k).to) →
      IsSetOf b (λ p. has a kept p && not ((has a (set_at part (edge_at edges k).to) p
      && not (has a (set_at drawn (edge_at edges k).to) p)) && has a (edge_at edges k).products p)) next →
      IsConfinedTo old a edges part drawn set kept numbers i →
      IsConfinedTo old b edges part drawn set next numbers (i + 1)
  confined_more a b g kept next i k at g_in c_in t_in is so p = (λ e. there (cut.0 (sym (is.each p) ∙ e)), back)
    where
      cut : ((has a kept p && not (((has a (set_at part (edge_at edges k).to) p) && not (has a (set_at drawn (edge_at edges k).to) p)) && (has a (edge_at edges k).products p))) ≡ true) ↔
          ((has a kept p ≡ true) × ((has a (edge_at edges k).products p) ≡ true → (has a (set_at part (edge_at edges k).to) p) ≡ true → (has a (set_at drawn (edge_at edges k).to) p) ≡ true))
      cut = cut_true (has a kept p) (has a (set_at part (edge_at edges k).to) p) (has a (set_at drawn (edge_at edges k).to) p) (has a (edge_at edges k).products p)

      by : ((has a (edge_at edges k).products p) ≡ true → (has a (set_at part (edge_at edges k).to) p) ≡ true → (has a (set_at drawn (edge_at edges k).to) p) ≡ true) → ConfinesBy old edges part drawn p k
      by h x y = sym (g.same (set_at drawn (edge_at edges k).to) t_in p)
          ∙ h (g.same (edge_at edges k).products g_in p ∙ x) (g.same (set_at part (edge_at edges k).to) c_in p ∙ y)

      of_by : ConfinesBy old edges part drawn p k → (has a (edge_at edges k).products p) ≡ true → (has a (set_at part (edge_at edges k).to) p) ≡ true → (has a (set_at drawn (edge_at edges k).to) p) ≡ true
      of_by h x y = g.same (set_at drawn (edge_at edges k).to) t_in p
          ∙ h (sym (g.same (edge_at edges k).products g_in p) ∙ x)
          (sym (g.same (set_at part (edge_at edges k).to) c_in p) ∙ y)

      there : (has a kept p ≡ true) × ((has a (edge_at edges k).products p) ≡ true → (has a (set_at part (edge_at edges k).to) p) ≡ true → (has a (set_at drawn (edge_at edges k).to) p) ≡ true) →
          (has old set p ≡ true) × ((j : ℕ) → j < i + 1 → ConfinesBy old edges part drawn p (get_or numbers j 0))
      there h = (((so p).0 h.0).0, λ j l. each j l (cases_eq j i))
        where
          each : (j : ℕ) → j < i + 1 → (j ≡ i) ⊎ (j ≡ i → ⊥) → ConfinesBy old edges part drawn p (get_or numbers j 0)
          each j l (inl e) = subst (λ n. ConfinesBy old edges part drawn p n)
              (sym (ap (λ n. get_or numbers n 0) e ∙ at)) (by h.1)
          each j l (inr n) = ((so p).0 h.0).1 j (omega (arith, n))

      back : (has old set p ≡ true) × ((j : ℕ) → j < i + 1 → ConfinesBy old edges part drawn p (get_or numbers j 0)) →
          has b next p ≡ true
      back h = is.each p ∙ cut.1 (
        (so p).1 (h.0, λ j l. h.1 j (omega arith)),
        of_by (subst (λ n. ConfinesBy old edges part drawn p n) at (h.1 i (omega arith))),
      )

-- ---- the numbers of a vertex

pub number_shown : (l : List ℕ) (j : ℕ) → j < length l → Contains l (get_or l j 0)
number_shown l j k = (j, k, shown l j k)
  where
    shown : (l : List ℕ) (j : ℕ) → j < length l → get_or l j (get_or l j 0) ≡ get_or l j 0
    shown [] j b = absurd (omega arith)
    shown (x ∷ l) zero b = refl
    shown (x ∷ l) (suc j) b = shown l j (omega arith)

module _ (universe : Universe) (graph : GuardedGame Formula) (edges : List Edge) (leaving entering : List (List ℕ))
    (are : AreEdges universe graph edges leaving entering) (numbers : List ℕ) (v j : ℕ) (inside : j < length numbers) where
  pub leaves_in : numbers ≡ numbers_at leaving v →
      (get_or numbers j 0 < length edges) × ((edge_at edges (get_or numbers j 0)).from ≡ v)
  leaves_in e = (are.leave v (get_or numbers j 0)).0
      (subst (λ (l : List ℕ). Contains l (get_or numbers j 0)) e (number_shown numbers j inside))

  pub enters_in : numbers ≡ numbers_at entering v →
      (get_or numbers j 0 < length edges) × ((edge_at edges (get_or numbers j 0)).to ≡ v)
  enters_in e = (are.enter v (get_or numbers j 0)).0
      (subst (λ (l : List ℕ). Contains l (get_or numbers j 0)) e (number_shown numbers j inside))

-- all edges of a vertex are looked at
module _ (old : Universe) (graph : GuardedGame Formula) (edges : List Edge) (leaving entering : List (List ℕ))
    (part drawn : List Subset) (are : AreEdges old graph edges leaving entering) (parts : AreSets old (length graph) part)
    (drawns : AreSets old (length graph) drawn) (v : ℕ) (p : List Bool) where
  in_part : (sets : List Subset) → AreSets old (length graph) sets → (w : ℕ) → w < length graph →
      part_in old sets p w ≡ has old (set_at sets w) p
  in_part sets is w l = part_inside old sets p w (subst (λ n. w < n) (sym is.count_is) l)

  pub confines_all : ((j : ℕ) → j < length (numbers_at leaving v) →
      ConfinesBy old edges part drawn p (get_or (numbers_at leaving v) j 0)) →
      Confines (game_in graph p) (part_in old part p) (part_in old drawn p) v
  confines_all h w edge m = of (are.complete p v w (part_known old part p w m) edge)
    where
      of : (k : ℕ) × Leads old edges p k v w → part_in old drawn p w ≡ true
      of k = found ((are.leave v k.0).1 (k.1.inside, k.1.from))
        where
          to_in : w < length graph
          to_in = subst (λ n. n < length graph) k.1.to (are.to_inside k.0 k.1.inside)

          by : ConfinesBy old edges part drawn p k.0 → part_in old drawn p w ≡ true
          by c = in_part drawn drawns w to_in ∙ ap (λ n. has old (set_at drawn n) p) (sym k.1.to)
              ∙ c k.1.holds (ap (λ n. has old (set_at part n) p) k.1.to ∙ sym (in_part part parts w to_in) ∙ m)

          found : Contains (numbers_at leaving v) k.0 → part_in old drawn p w ≡ true
          found c = by (subst (λ n. ConfinesBy old edges part drawn p n) (at c) (h c.0 c.1))
            where
              first : (l : List ℕ) (j k : ℕ) → j < length l → get_or l j k ≡ k → get_or l j 0 ≡ k
              first [] j k l e = absurd (omega arith)
              first (x ∷ l) zero k b e = e
              first (x ∷ l) (suc j) k b e = first l j k (omega arith) e

              at : (c : Contains (numbers_at leaving v) k.0) → get_or (numbers_at leaving v) c.0 0 ≡ k.0
              at c = first (numbers_at leaving v) c.0 k.0 c.1 c.2

  pub all_confine : Confines (game_in graph p) (part_in old part p) (part_in old drawn p) v → (j : ℕ) →
      j < length (numbers_at leaving v) → ConfinesBy old edges part drawn p (get_or (numbers_at leaving v) j 0)
  all_confine h j l x y = of ((are.leave v (get_or (numbers_at leaving v) j 0)).0 (j, l, shown (numbers_at leaving v) j l))
    where
      shown : (l : List ℕ) (j : ℕ) → j < length l → get_or l j (get_or l j 0) ≡ get_or l j 0
      shown [] j b = absurd (omega arith)
      shown (x ∷ l) zero b = refl
      shown (x ∷ l) (suc j) b = shown l j (omega arith)

      of : ((get_or (numbers_at leaving v) j 0) < length edges) × ((edge_at edges (get_or (numbers_at leaving v) j 0)).from ≡ v) → has old (set_at drawn (edge_at edges (get_or (numbers_at leaving v) j 0)).to) p ≡ true
      of (inside, from) = sym (in_part drawn drawns (edge_at edges (get_or (numbers_at leaving v) j 0)).to (are.to_inside (get_or (numbers_at leaving v) j 0) inside))
          ∙ h (edge_at edges (get_or (numbers_at leaving v) j 0)).to (are.sound p (get_or (numbers_at leaving v) j 0) v (edge_at edges (get_or (numbers_at leaving v) j 0)).to
          (record { inside = inside; from = from; to = refl; holds = x }))
          (in_part part parts (edge_at edges (get_or (numbers_at leaving v) j 0)).to (are.to_inside (get_or (numbers_at leaving v) j 0) inside) ∙ y)

-- ---- an edge that was read

-- the edge that is read at a number
pub edge_read : (edges : List Edge) (k : ℕ) (e : Edge) → k < length edges → e ≡ get_or edges k e → e ≡ edge_at edges k
edge_read edges k e l h =
    h ∙ get_or_default edges k e no_edge l

module _ (universe : Universe) (graph : GuardedGame Formula) (edges : List Edge) (leaving entering : List (List ℕ))
    (are : AreEdges universe graph edges leaving entering) (k : ℕ) (e : Edge) (inside : k < length edges)
    (read : e ≡ get_or edges k e) where
  pub read_from : e.from < length graph
  read_from = subst (λ (x : Edge). x.from < length graph) (sym (edge_read edges k e inside read)) (are.from_inside k inside)

  pub read_owner : (o : Player) → o ≡ (vertex_in graph e.from).owner → o ≡ (vertex_in graph (edge_at edges k).from).owner
  read_owner o h = h ∙ ap (λ (x : Edge). (vertex_in graph x.from).owner) (edge_read edges k e inside read)

  pub read_to : e.to < length graph
  read_to = subst (λ (x : Edge). x.to < length graph) (sym (edge_read edges k e inside read)) (are.to_inside k inside)

  pub read_products : IsInside universe e.products
  read_products = subst (λ (x : Edge). IsInside universe x.products) (sym (edge_read edges k e inside read))
      (are.inside k inside)

-- one more edge that leaves the vertex was looked at
module _ (old : Universe) (graph : GuardedGame Formula) (edges : List Edge) (leaving entering : List (List ℕ))
    (are : AreEdges old graph edges leaving entering) (part drawn : List Subset) (parts : AreSets old (length graph) part)
    (drawns : AreSets old (length graph) drawn) (set : Subset) (numbers : List ℕ) (v : ℕ)
    (leave : numbers ≡ numbers_at leaving v) where
  pub confined_next : (a b : Universe) → IsGrown old a → IsGrown a b → (kept next : Subset) (i : ℕ) → i < length numbers →
      (e : Edge) → e ≡ get_or edges (get_or numbers i 0) e →
      IsSetOf b (λ p. has a kept p && not ((has a (set_at part e.to) p && not (has a (set_at drawn e.to) p))
      && has a e.products p)) next → IsConfinedTo old a edges part drawn set kept numbers i →
      IsGrown old b × IsInside b next × IsConfinedTo old b edges part drawn set next numbers (i + 1)
  confined_next a b g h kept next i l e read is so = (
    grown_then old a b g h,
    is.inside,
    confined_more old edges part drawn set numbers a b g kept next i (get_or numbers i 0) refl
        (are.inside (get_or numbers i 0) inside)
        (parts.inside (edge_at edges (get_or numbers i 0)).to
        (subst (λ n. (edge_at edges (get_or numbers i 0)).to < n) (sym parts.count_is) (are.to_inside (get_or numbers i 0) inside)))
        (drawns.inside (edge_at edges (get_or numbers i 0)).to
        (subst (λ n. (edge_at edges (get_or numbers i 0)).to < n) (sym drawns.count_is) (are.to_inside (get_or numbers i 0) inside)))
        (subst (λ (x : Edge). IsSetOf b (λ p. has a kept p && not ((has a (set_at part x.to) p
        && not (has a (set_at drawn x.to) p)) && has a x.products p)) next)
        (edge_read edges (get_or numbers i 0) e inside read) is) so,
  )
    where
      inside : get_or numbers i 0 < length edges
      inside = (leaves_in old graph edges leaving entering are numbers v i l leave).0

  pub confined_end : (new : Universe) (kept : Subset) (i : ℕ) → i ≡ length numbers →
      IsConfinedTo old new edges part drawn set kept numbers i → (p : List Bool) →
      (has new kept p ≡ true) ↔ ((has old set p ≡ true) ×
      Confines (game_in graph p) (part_in old part p) (part_in old drawn p) v)
  confined_end new kept i end so p = (
    λ h. (
      ((so p).0 h).0,
      confines_all old graph edges leaving entering part drawn are parts drawns v p
          (λ j l. subst (λ (xs : List ℕ). ConfinesBy old edges part drawn p (get_or xs j 0)) leave
          (((so p).0 h).1 j (below j l))),
    ),
    λ h. (so p).1 (
      h.0,
      λ j l. subst (λ (xs : List ℕ). ConfinesBy old edges part drawn p (get_or xs j 0)) (sym leave)
          (all_confine old graph edges leaving entering part drawn are parts drawns v p h.1 j (up j l)),
    ),
  )
    where
      same : length numbers ≡ length (numbers_at leaving v)
      same = ap (λ (xs : List ℕ). length xs) leave

      below : (j : ℕ) → j < length (numbers_at leaving v) → j < i
      below j l = omega (arith, l, end, same)

      up : (j : ℕ) → j < i → j < length (numbers_at leaving v)
      up j l = omega (arith, l, end, same)

-- ---- what joins by an edge

module _ (a b : Universe) (graph : GuardedGame Formula) (edges : List Edge) (part drawn : List Subset) (k : ℕ) where
  -- the products in which the edge leads from the part into what is drawn
  abbrev pub Steps : Subset → Type 0
  Steps joins = (p : List Bool) → (has b joins p ≡ true) ↔ ((has a (edge_at edges k).products p ≡ true) ×
      (part_in a part p (edge_at edges k).from ≡ true) × (part_in a drawn p (edge_at edges k).to ≡ true) ×
      (part_in a drawn p (edge_at edges k).from ≡ false))

  -- the products in which it joins
  abbrev pub AreJoining : Player → Universe → Subset → Type 0
  AreJoining player c joins = (p : List Bool) → (has c joins p ≡ true) ↔ ((has a (edge_at edges k).products p ≡ true) ×
      Joins (game_in graph p) player (part_in a part p) (part_in a drawn p) (edge_at edges k).from (edge_at edges k).to)

  pub steps_made : (leaving entering : List (List ℕ)) → AreEdges a graph edges leaving entering →
      AreSets a (length graph) part → AreSets a (length graph) drawn → k < length edges → (e : Edge) →
      e ≡ get_or edges k e → (joins : Subset) →
      IsSetOf b (λ p. ((has a (set_at part e.from) p && has a (set_at drawn e.to) p) && not (has a (set_at drawn e.from) p))
      && has a e.products p) joins → Steps joins
  steps_made leaving entering are parts drawns inside e read joins is p = (
    λ h. there (test.0 (sym (set_of.each p) ∙ h)),
    λ h. set_of.each p ∙ test.1 (back h),
  )
    where
      from_in : (edge_at edges k).from < length graph
      from_in = are.from_inside k inside

      to_in : (edge_at edges k).to < length graph
      to_in = are.to_inside k inside

      set_of : IsSetOf b (λ p. ((has a (set_at part (edge_at edges k).from) p && has a (set_at drawn (edge_at edges k).to) p)
          && not (has a (set_at drawn (edge_at edges k).from) p)) && has a (edge_at edges k).products p) joins
      set_of = subst (λ (x : Edge). IsSetOf b (λ p. ((has a (set_at part x.from) p && has a (set_at drawn x.to) p)
          && not (has a (set_at drawn x.from) p)) && has a x.products p) joins) (edge_read edges k e inside read) is

      at : (sets : List Subset) → AreSets a (length graph) sets → (v : ℕ) → v < length graph →
          part_in a sets p v ≡ has a (set_at sets v) p
      at sets are v l = part_inside a sets p v (subst (λ n. v < n) (sym are.count_is) l)

      test : ((((has a (set_at part (edge_at edges k).from) p && has a (set_at drawn (edge_at edges k).to) p)
          && not (has a (set_at drawn (edge_at edges k).from) p)) && has a (edge_at edges k).products p) ≡ true) ↔
          ((has a (set_at part (edge_at edges k).from) p ≡ true) × (has a (set_at drawn (edge_at edges k).to) p ≡ true) ×
          (has a (set_at drawn (edge_at edges k).from) p ≡ false) × (has a (edge_at edges k).products p ≡ true))
      test = step_true (has a (set_at part (edge_at edges k).from) p) (has a (set_at drawn (edge_at edges k).to) p)
          (has a (set_at drawn (edge_at edges k).from) p) (has a (edge_at edges k).products p)

      there : (has a (set_at part (edge_at edges k).from) p ≡ true) × (has a (set_at drawn (edge_at edges k).to) p ≡ true) ×
          (has a (set_at drawn (edge_at edges k).from) p ≡ false) × (has a (edge_at edges k).products p ≡ true) →
          (has a (edge_at edges k).products p ≡ true) ×
          (part_in a part p (edge_at edges k).from ≡ true) × (part_in a drawn p (edge_at edges k).to ≡ true) ×
          (part_in a drawn p (edge_at edges k).from ≡ false)
      there h = (
        h.3,
        at part parts (edge_at edges k).from from_in ∙ h.0,
        at drawn drawns (edge_at edges k).to to_in ∙ h.1,
        at drawn drawns (edge_at edges k).from from_in ∙ h.2,
      )

      back : (has a (edge_at edges k).products p ≡ true) ×
          (part_in a part p (edge_at edges k).from ≡ true) × (part_in a drawn p (edge_at edges k).to ≡ true) ×
          (part_in a drawn p (edge_at edges k).from ≡ false) → (has a (set_at part (edge_at edges k).from) p ≡ true) ×
          (has a (set_at drawn (edge_at edges k).to) p ≡ true) × (has a (set_at drawn (edge_at edges k).from) p ≡ false) ×
          (has a (edge_at edges k).products p ≡ true)
      back h = (
        sym (at part parts (edge_at edges k).from from_in) ∙ h.1,
        sym (at drawn drawns (edge_at edges k).to to_in) ∙ h.2,
        sym (at drawn drawns (edge_at edges k).from from_in) ∙ h.3,
        h.0,
      )

  -- the player moves there: it joins
  pub joins_own : (player : Player) (joins : Subset) → Steps joins →
      (vertex_in graph (edge_at edges k).from).owner ≡ player → AreJoining player b joins
  joins_own player joins steps own p = (
    λ h. of ((steps p).0 h),
    λ h. (steps p).1 (h.0, h.1.inside, h.1.there, h.1.new),
  )
    where
      of : (has a (edge_at edges k).products p ≡ true) ×
          (part_in a part p (edge_at edges k).from ≡ true) × (part_in a drawn p (edge_at edges k).to ≡ true) ×
          (part_in a drawn p (edge_at edges k).from ≡ false) → (has a (edge_at edges k).products p ≡ true) ×
          Joins (game_in graph p) player (part_in a part p) (part_in a drawn p) (edge_at edges k).from (edge_at edges k).to
      of h = (
        h.0,
        record {
          inside = h.1;
          there = h.2;
          new = h.3;
          draws = inl (owner_is graph p (edge_at edges k).from ∙ own);
        },
      )

  -- the opponent moves there: it joins where it is confined
  pub joins_other : (player : Player) (joins : Subset) → Steps joins →
      ((vertex_in graph (edge_at edges k).from).owner ≡ player → ⊥) → IsGrown a b →
      AreSets a (length graph) part → AreSets a (length graph) drawn → (c : Universe) (kept : Subset) →
      (v : ℕ) → v ≡ (edge_at edges k).from → ((p : List Bool) → (has c kept p ≡ true) ↔ ((has b joins p ≡ true) ×
      Confines (game_in graph p) (part_in b part p) (part_in b drawn p) v)) → AreJoining player c kept
  joins_other player joins steps other g parts drawns c kept v v_is confined p = (
    λ h. of ((steps p).0 ((is p).0 h).0) ((is p).0 h).1,
    λ h. (is p).1 ((steps p).1 (h.0, h.1.inside, h.1.there, h.1.new), back h.1.draws),
  )
    where
      is : (p : List Bool) → (has c kept p ≡ true) ↔ ((has b joins p ≡ true) ×
          Confines (game_in graph p) (part_in b part p) (part_in b drawn p) (edge_at edges k).from)
      is q = subst (λ x. (has c kept q ≡ true) ↔ ((has b joins q ≡ true) ×
          Confines (game_in graph q) (part_in b part q) (part_in b drawn q) x)) v_is (confined q)

      same : (sets : List Subset) → AreSets a (length graph) sets → (v : ℕ) → part_in b sets p v ≡ part_in a sets p v
      same sets are v = part_grown a b g (length graph) sets are p v

      of : (has a (edge_at edges k).products p ≡ true) ×
          (part_in a part p (edge_at edges k).from ≡ true) × (part_in a drawn p (edge_at edges k).to ≡ true) ×
          (part_in a drawn p (edge_at edges k).from ≡ false) →
          Confines (game_in graph p) (part_in b part p) (part_in b drawn p) (edge_at edges k).from →
          (has a (edge_at edges k).products p ≡ true) ×
          Joins (game_in graph p) player (part_in a part p) (part_in a drawn p) (edge_at edges k).from (edge_at edges k).to
      of h all = (
        h.0,
        record {
          inside = h.1;
          there = h.2;
          new = h.3;
          draws = inr (λ w edge m. sym (same drawn drawns w) ∙ all w edge (same part parts w ∙ m));
        },
      )

      back : (owner_of (game_in graph p) (edge_at edges k).from ≡ player) ⊎
          Confines (game_in graph p) (part_in a part p) (part_in a drawn p) (edge_at edges k).from →
          Confines (game_in graph p) (part_in b part p) (part_in b drawn p) (edge_at edges k).from
      back (inl o) = absurd (other (sym (owner_is graph p (edge_at edges k).from) ∙ o))
      back (inr all) = λ w edge m. same drawn drawns w ∙ all w edge (sym (same part parts w) ∙ m)

-- The list of the edges of a game grows by one edge at a time.
use Rattle.std.proofs.Common.{◌≡◌, ℕ, zero, suc, ◌+◌, ◌<◌, ◌≤◌, ◌⊎◌, inl, inr, ◌↔◌, List, [], ◌∷◌, ◌++◌, Bool, true, false, length, get_or, map, filter, refl, sym, ◌∙◌, ap, subst, length-append, Contains, arith}
use Rattle.std.proofs.lemmas.Bool.{cases_eq, cases_lt, cases_Bool}
use Rattle.std.proofs.lemmas.List.{get_or_append_left, get_or_default}
use Rattle.std.proofs.Math.Seq.{get_or-append_seam}
use Rattle.vpg_guards.specs.Formula.{Formula, truth, IsBelow}
use Rattle.vpg_features.specs.Index.{NotesAlso}
use Rattle.vpg_game.specs.Edges.{GuardedEdge}
use Rattle.vpg_game.specs.Guarded.{GuardedGame}
use Rattle.vpg_game.specs.Game.{NamedGame, IsGame, graph_of, vertex_in, unnamed, no_vertex}
use Rattle.vpg_game.proofs.Graphs.{games_have_graphs}
use Rattle.vpg_hope.specs.Games.{HasEdge, successors_of}
use Rattle.vpg_hope.proofs.Edges.{Contains-cases, Contains-first, Contains-later, not_in_nil, edge_inside}
use Rattle.vpg_hope.proofs.Guards.{same_count}
use Rattle.vpg_zielonka.specs.declared.subset.Subset.{Subset}
use Rattle.vpg_zielonka.specs.declared.universe.Universe.{Universe}
use Rattle.vpg_zielonka.specs.Universes.{IsInside, IsKnown, has, IsGuardSet, IsGrown}
use Rattle.vpg_zielonka.proofs.Growing.{inside_grown, known_of}
use Rattle.vpg_zielonka.specs.declared.edges.Edge.{Edge}
use Rattle.vpg_zielonka.specs.Edges.{no_edge, edge_at, numbers_at, Leads, AreListed}
use Rattle.vpg_zielonka.specs.Parts.{game_in}

-- all edges of a game, and those of its first vertices, by the list and the two indexes
abbrev pub AreEdges : Universe → GuardedGame Formula → List Edge → List (List ℕ) → List (List ℕ) → Type 0
AreEdges universe graph edges leaving entering =
    AreListed universe graph (λ p v w. HasEdge (game_in graph p) v w) edges leaving entering

abbrev pub AreEdgesUpTo : Universe → GuardedGame Formula → ℕ → List Edge → List (List ℕ) → List (List ℕ) → Type 0
AreEdgesUpTo universe graph n edges leaving entering =
    AreListed universe graph (λ p v w. (v < n) × HasEdge (game_in graph p) v w) edges leaving entering

-- ---- the edges of a vertex

-- one of the first edges leads to the vertex under a true guard
abbrev pub LeadsAmong : List Bool → List (GuardedEdge Formula) → ℕ → ℕ → Type 0
LeadsAmong p edges n w = (j : ℕ) × (j < n) × (j < length edges) × ((d : GuardedEdge Formula) →
    ((get_or edges j d).to ≡ w) × (truth p (get_or edges j d).guard ≡ true))

kept : List Bool → List (GuardedEdge Formula) → List ℕ
kept p edges = map (λ e. e.to) (filter (λ e. truth p e.guard) edges)

kept_true : (p : List Bool) (e : GuardedEdge Formula) (es : List (GuardedEdge Formula)) → truth p e.guard ≡ true →
    kept p (e ∷ es) ≡ e.to ∷ kept p es
unfolding kept
kept_true p e es t = rw t refl

kept_false : (p : List Bool) (e : GuardedEdge Formula) (es : List (GuardedEdge Formula)) → truth p e.guard ≡ false →
    kept p (e ∷ es) ≡ kept p es
unfolding kept
kept_false p e es t = rw t refl

kept_none : (p : List Bool) (w : ℕ) → Contains (kept p []) w → ⊥
unfolding kept
kept_none p w c = not_in_nil w c

kept_among : (p : List Bool) (es : List (GuardedEdge Formula)) (w : ℕ) → Contains (kept p es) w →
    LeadsAmong p es (length es) w
kept_among p [] w c = absurd (kept_none p w c)
kept_among p (e ∷ es) w c = of (cases_Bool (truth p e.guard)) (kept_among p es w)
  where
    later : LeadsAmong p es (length es) w → LeadsAmong p (e ∷ es) (length (e ∷ es)) w
    later j = (suc j.0, omega (arith, j.1), omega (arith, j.2), λ d. j.3 d)

    of : (truth p e.guard ≡ true) ⊎ (truth p e.guard ≡ false) →
        (Contains (kept p es) w → LeadsAmong p es (length es) w) → LeadsAmong p (e ∷ es) (length (e ∷ es)) w
    of (inl t) again = split (Contains-cases e.to (kept p es) w (subst (λ (l : List ℕ). Contains l w) (kept_true p e es t) c))
      where
        split : (e.to ≡ w) ⊎ Contains (kept p es) w → LeadsAmong p (e ∷ es) (length (e ∷ es)) w
        split (inl s) = (0, omega arith, omega arith, λ d. (s, t))
        split (inr k) = later (again k)
    of (inr f) again = later (again (subst (λ (l : List ℕ). Contains l w) (kept_false p e es f) c))

among_kept : (p : List Bool) (es : List (GuardedEdge Formula)) (j w : ℕ) → j < length es →
    ((d : GuardedEdge Formula) → ((get_or es j d).to ≡ w) × (truth p (get_or es j d).guard ≡ true)) →
    Contains (kept p es) w
among_kept p [] j w l h = absurd (omega arith)
among_kept p (e ∷ es) zero w l h = subst (λ (k : List ℕ). Contains k w) (sym (kept_true p e es (h e).1))
    (subst (λ x. Contains (e.to ∷ kept p es) x) (h e).0 (Contains-first e.to (kept p es)))
among_kept p (e ∷ es) (suc j) w l h = of (cases_Bool (truth p e.guard)) (among_kept p es j w (omega arith) h)
  where
    of : (truth p e.guard ≡ true) ⊎ (truth p e.guard ≡ false) → Contains (kept p es) w → Contains (kept p (e ∷ es)) w
    of (inl t) k = subst (λ (l : List ℕ). Contains l w) (sym (kept_true p e es t)) (Contains-later e.to (kept p es) w k)
    of (inr f) k = subst (λ (l : List ℕ). Contains l w) (sym (kept_false p e es f)) k

successors_are : (graph : GuardedGame Formula) (p : List Bool) (v : ℕ) →
    successors_of (game_in graph p) v ≡ kept p (vertex_in graph v).edges
unfolding kept
successors_are [] p v = refl
successors_are (x ∷ graph) p zero = refl
successors_are (x ∷ graph) p (suc v) = successors_are graph p v

pub edge_among : (graph : GuardedGame Formula) (p : List Bool) (v w : ℕ) → HasEdge (game_in graph p) v w →
    LeadsAmong p (vertex_in graph v).edges (length (vertex_in graph v).edges) w
edge_among graph p v w edge = kept_among p (vertex_in graph v).edges w
    (subst (λ (l : List ℕ). Contains l w) (successors_are graph p v) edge)

pub among_edge : (graph : GuardedGame Formula) (p : List Bool) (v j w : ℕ) → j < length (vertex_in graph v).edges →
    ((d : GuardedEdge Formula) → ((get_or (vertex_in graph v).edges j d).to ≡ w) ×
    (truth p (get_or (vertex_in graph v).edges j d).guard ≡ true)) → HasEdge (game_in graph p) v w
among_edge graph p v j w l h = subst (λ (l : List ℕ). Contains l w) (sym (successors_are graph p v))
    (among_kept p (vertex_in graph v).edges j w l h)

pub from_below : (graph : GuardedGame Formula) (p : List Bool) (v w : ℕ) → HasEdge (game_in graph p) v w →
    v < length graph
from_below graph p v w edge = subst (λ n. v < n) (same_count Formula (λ mover guard. truth p guard) graph)
    (edge_inside (game_in graph p) v w edge)

-- ---- the list

-- other edges may be wanted, if they are among those
pub listed_less : (universe : Universe) (graph : GuardedGame Formula) (Wanted Fewer : List Bool → ℕ → ℕ → Type 0)
    (edges : List Edge) (leaving entering : List (List ℕ)) →
    ((p : List Bool) (v w : ℕ) → Fewer p v w → Wanted p v w) →
    AreListed universe graph Wanted edges leaving entering → AreListed universe graph Fewer edges leaving entering
listed_less universe graph Wanted Fewer edges leaving entering less are = record {
  inside = are.inside;
  from_inside = are.from_inside;
  to_inside = are.to_inside;
  sound = are.sound;
  complete = λ p v w k h. are.complete p v w k (less p v w h);
  leave_count = are.leave_count;
  enter_count = are.enter_count;
  leave = are.leave;
  enter = are.enter;
}

-- the universe may grow
pub listed_grown : (a b : Universe) → IsGrown a b → (graph : GuardedGame Formula)
    (Wanted : List Bool → ℕ → ℕ → Type 0) (edges : List Edge) (leaving entering : List (List ℕ)) →
    AreListed a graph Wanted edges leaving entering → AreListed b graph Wanted edges leaving entering
listed_grown a b g graph Wanted edges leaving entering are = record {
  inside = λ k l. inside_grown a b g (edge_at edges k).products (are.inside k l);
  from_inside = are.from_inside;
  to_inside = are.to_inside;
  sound = λ p k v w h. are.sound p k v w (record {
    inside = h.inside;
    from = h.from;
    to = h.to;
    holds = sym (g.same (edge_at edges k).products (are.inside k h.inside) p) ∙ h.holds;
  });
  complete = λ p v w k h. led p v w (are.complete p v w (g.known p k) h);
  leave_count = are.leave_count;
  enter_count = are.enter_count;
  leave = are.leave;
  enter = are.enter;
}
  where
    led : (p : List Bool) (v w : ℕ) → (k : ℕ) × Leads a edges p k v w → (k : ℕ) × Leads b edges p k v w
    led p v w k = (
      k.0,
      record {
        inside = k.1.inside;
        from = k.1.from;
        to = k.1.to;
        holds = g.same (edge_at edges k.0).products (are.inside k.0 k.1.inside) p ∙ k.1.holds;
      },
    )

module _ (universe : Universe) (graph : GuardedGame Formula) (Wanted : List Bool → ℕ → ℕ → Type 0) (edges : List Edge)
    (leaving entering more_leaving more_entering : List (List ℕ)) (new : Edge) (guard : Formula)
    (are : AreListed universe graph Wanted edges leaving entering)
    (from_in : new.from < length graph) (to_in : new.to < length graph)
    (is : IsGuardSet universe guard new.products)
    (true_edge : (p : List Bool) → truth p guard ≡ true → HasEdge (game_in graph p) new.from new.to)
    (leaves : NotesAlso leaving (length edges) (new.from ∷ []) more_leaving)
    (enters : NotesAlso entering (length edges) (new.to ∷ []) more_entering) where
  abbrev more : List Edge
  more = edges ++ new ∷ []

  count_more : length more ≡ length edges + 1
  count_more = length-append edges (new ∷ [])

  -- an earlier edge, or the new one
  which : (k : ℕ) → k < length more → (k < length edges) ⊎ (k ≡ length edges)
  which k l = of (cases_lt k (length edges))
    where
      of : (k < length edges) ⊎ (length edges ≤ k) → (k < length edges) ⊎ (k ≡ length edges)
      of (inl h) = inl h
      of (inr h) = inr (omega (arith, count_more, l))

  stays : (k : ℕ) → k < length edges → edge_at more k ≡ edge_at edges k
  stays k l = get_or_append_left edges (new ∷ []) no_edge k l

  last : edge_at more (length edges) ≡ new
  last = get_or-append_seam edges new [] no_edge

  up : (k : ℕ) → k < length edges → k < length more
  up k l = omega (arith, count_more, l)

  -- what holds of each edge and of the new one
  each : (P : Edge → Type 0) → ((k : ℕ) → k < length edges → P (edge_at edges k)) → P new →
      (k : ℕ) → k < length more → P (edge_at more k)
  each P old here k l = of (which k l)
    where
      of : (k < length edges) ⊎ (k ≡ length edges) → P (edge_at more k)
      of (inl h) = subst P (sym (stays k h)) (old k h)
      of (inr h) = subst P (sym (ap (λ n. edge_at more n) h ∙ last)) here

  noted : (rows more_rows : List (List ℕ)) (f : Edge → ℕ) →
      NotesAlso rows (length edges) (f new ∷ []) more_rows →
      ((v k : ℕ) → Contains (numbers_at rows v) k ↔ ((k < length edges) × (f (edge_at edges k) ≡ v))) →
      (v k : ℕ) → Contains (numbers_at more_rows v) k ↔ ((k < length more) × (f (edge_at more k) ≡ v))
  noted rows more_rows f notes old v k = (λ c. there ((notes.exact v k).0 c), λ h. back h.0 h.1 (which k h.0))
    where
      there : Contains (numbers_at rows v) k ⊎ ((k ≡ length edges) × Contains (f new ∷ []) v) →
          (k < length more) × (f (edge_at more k) ≡ v)
      there (inl c) = (up k ((old v k).0 c).0, ap f (stays k ((old v k).0 c).0) ∙ ((old v k).0 c).1)
      there (inr h) = (omega (arith, count_more, h.0), ap f (ap (λ n. edge_at more n) h.0 ∙ last) ∙ only (Contains-cases (f new) [] v h.1))
        where
          only : (f new ≡ v) ⊎ Contains [] v → f new ≡ v
          only (inl e) = e
          only (inr c) = absurd (not_in_nil v c)

      back : k < length more → f (edge_at more k) ≡ v → (k < length edges) ⊎ (k ≡ length edges) →
          Contains (numbers_at more_rows v) k
      back l e (inl h) = (notes.exact v k).1 (inl ((old v k).1 (h, sym (ap f (stays k h)) ∙ e)))
      back l e (inr h) = (notes.exact v k).1 (inr (
        h,
        subst (λ x. Contains (f new ∷ []) x)
            (sym (ap f (ap (λ n. edge_at more n) h ∙ last)) ∙ e) (Contains-first (f new) []),
      ))

  pub listed_push : AreListed universe graph
      (λ p v w. Wanted p v w ⊎ ((v ≡ new.from) × (w ≡ new.to) × (truth p guard ≡ true))) more more_leaving more_entering
  listed_push = record {
    inside = each (λ (e : Edge). IsInside universe e.products) are.inside is.inside;
    from_inside = each (λ (e : Edge). e.from < length graph) are.from_inside from_in;
    to_inside = each (λ (e : Edge). e.to < length graph) are.to_inside to_in;
    sound = λ p k v w h. sound p k v w h (which k h.inside);
    complete = λ p v w known h. complete p v w known h;
    leave_count = leaves.same_length ∙ are.leave_count;
    enter_count = enters.same_length ∙ are.enter_count;
    leave = noted leaving more_leaving (λ (e : Edge). e.from) leaves are.leave;
    enter = noted entering more_entering (λ (e : Edge). e.to) enters are.enter;
  }
    where
      sound : (p : List Bool) (k v w : ℕ) → Leads universe more p k v w → (k < length edges) ⊎ (k ≡ length edges) →
          HasEdge (game_in graph p) v w
      sound p k v w h (inl l) = are.sound p k v w (record {
        inside = l;
        from = sym (ap (λ (e : Edge). e.from) (stays k l)) ∙ h.from;
        to = sym (ap (λ (e : Edge). e.to) (stays k l)) ∙ h.to;
        holds = sym (ap (λ (e : Edge). has universe e.products p) (stays k l)) ∙ h.holds;
      })
      sound p k v w h (inr l) = subst (λ x. HasEdge (game_in graph p) x w)
          (sym (ap (λ (e : Edge). e.from) (ap (λ n. edge_at more n) l ∙ last)) ∙ h.from)
          (subst (λ y. HasEdge (game_in graph p) new.from y)
          (sym (ap (λ (e : Edge). e.to) (ap (λ n. edge_at more n) l ∙ last)) ∙ h.to)
          (true_edge p (sym (is.each p (known_of universe new.products p held)) ∙ held)))
        where
          held : has universe new.products p ≡ true
          held = sym (ap (λ (e : Edge). has universe e.products p) (ap (λ n. edge_at more n) l ∙ last)) ∙ h.holds

      complete : (p : List Bool) (v w : ℕ) → IsKnown universe p →
          Wanted p v w ⊎ ((v ≡ new.from) × (w ≡ new.to) × (truth p guard ≡ true)) →
          (k : ℕ) × Leads universe more p k v w
      complete p v w known (inl h) = old (are.complete p v w known h)
        where
          old : (k : ℕ) × Leads universe edges p k v w → (k : ℕ) × Leads universe more p k v w
          old k = (
            k.0,
            record {
              inside = up k.0 k.1.inside;
              from = ap (λ (e : Edge). e.from) (stays k.0 k.1.inside) ∙ k.1.from;
              to = ap (λ (e : Edge). e.to) (stays k.0 k.1.inside) ∙ k.1.to;
              holds = ap (λ (e : Edge). has universe e.products p) (stays k.0 k.1.inside) ∙ k.1.holds;
            },
          )
      complete p v w known (inr h) = (
        length edges,
        record {
          inside = omega (arith, count_more);
          from = ap (λ (e : Edge). e.from) last ∙ sym h.0;
          to = ap (λ (e : Edge). e.to) last ∙ sym h.1;
          holds = ap (λ (e : Edge). has universe e.products p) last ∙ is.each p known ∙ h.2;
        },
      )

-- ---- the edges of a game, vertex by vertex

-- each leads to a vertex, under a guard over the features of the game
pub edge_facts : (game : NamedGame) → IsGame game → (v : ℕ) → v < length (graph_of game) → (i : ℕ)
    (d : GuardedEdge Formula) → i < length (vertex_in (graph_of game) v).edges →
    ((get_or (vertex_in (graph_of game) v).edges i d).to < length (graph_of game)) ×
    IsBelow game.features (get_or (vertex_in (graph_of game) v).edges i d).guard
edge_facts game is v l i d k = (
  (games_have_graphs game is).closed v (unnamed no_vertex) l i d k,
  (games_have_graphs game is).named v (unnamed no_vertex) l i d k,
)

-- the edges of the first vertices, and the first edges of the next one
abbrev pub IsNamedUpTo : GuardedGame Formula → ℕ → ℕ → List Bool → ℕ → ℕ → Type 0
IsNamedUpTo graph v n p u w =
    ((u < v) × HasEdge (game_in graph p) u w) ⊎ ((u ≡ v) × LeadsAmong p (vertex_in graph v).edges n w)

module _ (a b : Universe) (g : IsGrown a b) (graph : GuardedGame Formula) (v i : ℕ) (inside : v < length graph)
    (e : GuardedEdge Formula) (more_edges : i < length (vertex_in graph v).edges)
    (e_is : (d : GuardedEdge Formula) → get_or (vertex_in graph v).edges i d ≡ e)
    (edges : List Edge) (leaving entering more_leaving more_entering : List (List ℕ)) (products : Subset) where
  abbrev next_edge : Edge
  next_edge = record { from = v; to = e.to; products = products }

  pub listed_next : AreListed a graph (IsNamedUpTo graph v i) edges leaving entering →
      IsGuardSet b e.guard products → e.to < length graph →
      NotesAlso leaving (length edges) (v ∷ []) more_leaving →
      NotesAlso entering (length edges) (e.to ∷ []) more_entering →
      AreListed b graph (IsNamedUpTo graph v (i + 1)) (edges ++ next_edge ∷ []) more_leaving more_entering
  listed_next are is to_in leaves enters =
      listed_less b graph (λ p u w. IsNamedUpTo graph v i p u w ⊎ ((u ≡ v) × (w ≡ e.to) × (truth p e.guard ≡ true)))
      (IsNamedUpTo graph v (i + 1)) (edges ++ next_edge ∷ []) more_leaving more_entering (λ p u w h. less p u w h)
      (listed_push b graph (IsNamedUpTo graph v i) edges leaving entering more_leaving more_entering next_edge e.guard
      (listed_grown a b g graph (IsNamedUpTo graph v i) edges leaving entering are) inside to_in is true_edge leaves enters)
    where
      true_edge : (p : List Bool) → truth p e.guard ≡ true → HasEdge (game_in graph p) v e.to
      true_edge p t = among_edge graph p v i e.to more_edges
          (λ d. subst (λ (x : GuardedEdge Formula). (x.to ≡ e.to) × (truth p x.guard ≡ true)) (sym (e_is d)) (refl, t))

      less : (p : List Bool) (u w : ℕ) → IsNamedUpTo graph v (i + 1) p u w →
          IsNamedUpTo graph v i p u w ⊎ ((u ≡ v) × (w ≡ e.to) × (truth p e.guard ≡ true))
      less p u w (inl h) = inl (inl h)
      less p u w (inr h) = of h.0 h.1 (cases_eq h.1.0 i)
        where
          of : u ≡ v → (j : LeadsAmong p (vertex_in graph v).edges (i + 1) w) → (j.0 ≡ i) ⊎ (j.0 ≡ i → ⊥) →
              IsNamedUpTo graph v i p u w ⊎ ((u ≡ v) × (w ≡ e.to) × (truth p e.guard ≡ true))
          of same j (inl k) = inr (same, sym at.0, at.1)
            where
              at : (e.to ≡ w) × (truth p e.guard ≡ true)
              at = subst (λ (x : GuardedEdge Formula). (x.to ≡ w) × (truth p x.guard ≡ true))
                  (ap (λ n. get_or (vertex_in graph v).edges n e) k ∙ e_is e) (j.3 e)
          of same j (inr n) = inl (inr (same, (j.0, below j.1, j.2, λ d. j.3 d)))
            where
              below : j.0 < i + 1 → j.0 < i
              below l = omega (arith, n, l)

module _ (universe : Universe) (graph : GuardedGame Formula) (edges : List Edge) (leaving entering : List (List ℕ)) where
  -- all edges of the vertex are there
  pub listed_vertex : (v i : ℕ) → i ≡ length (vertex_in graph v).edges →
      AreListed universe graph (IsNamedUpTo graph v i) edges leaving entering →
      AreEdgesUpTo universe graph (v + 1) edges leaving entering
  listed_vertex v i end are = listed_less universe graph (IsNamedUpTo graph v i)
      (λ p u w. (u < v + 1) × HasEdge (game_in graph p) u w) edges leaving entering
      (λ p u w h. of p u w h.0 h.1 (cases_eq u v)) are
    where
      of : (p : List Bool) (u w : ℕ) → u < v + 1 → HasEdge (game_in graph p) u w → (u ≡ v) ⊎ (u ≡ v → ⊥) →
          IsNamedUpTo graph v i p u w
      of p u w l edge (inl e) = inr (
        e,
        subst (λ n. LeadsAmong p (vertex_in graph v).edges n w) (sym end)
            (edge_among graph p v w (subst (λ x. HasEdge (game_in graph p) x w) e edge)),
      )
      of p u w l edge (inr n) = inl (omega (arith, n, l), edge)

  -- all edges of the game are there
  pub listed_all : (n : ℕ) → n ≡ length graph → AreEdgesUpTo universe graph n edges leaving entering →
      AreEdges universe graph edges leaving entering
  listed_all n end are = listed_less universe graph (λ p u w. (u < n) × HasEdge (game_in graph p) u w)
      (λ p u w. HasEdge (game_in graph p) u w) edges leaving entering
      (λ p u w edge. (subst (λ m. u < m) (sym end) (from_below graph p u w edge), edge)) are

-- the universe may grow
pub edges_grown : (a b : Universe) → IsGrown a b → (graph : GuardedGame Formula) (edges : List Edge)
    (leaving entering : List (List ℕ)) → AreEdges a graph edges leaving entering →
    AreEdges b graph edges leaving entering
edges_grown a b g graph edges leaving entering are =
    listed_grown a b g graph (λ p u w. HasEdge (game_in graph p) u w) edges leaving entering are

-- the edge that was read at a place, in another form
pub edge_item : (es ns : List (GuardedEdge Formula)) → ns ≡ es → (i : ℕ) → i < length ns → (x e : GuardedEdge Formula) →
    x ≡ get_or ns i x → e ≡ x → (d : GuardedEdge Formula) → get_or es i d ≡ e
edge_item es ns same i l x e x_is e_is d =
    ap (λ (xs : List (GuardedEdge Formula)). get_or xs i d) (sym same) ∙ get_or_default ns i d x l ∙ sym x_is ∙ sym e_is

-- it leads to a vertex, under a guard over the features of the game
pub item_facts : (game : NamedGame) → IsGame game → (v : ℕ) → v < length (graph_of game) →
    (ns : List (GuardedEdge Formula)) → ns ≡ (vertex_in (graph_of game) v).edges → (i : ℕ) → i < length ns →
    (x e : GuardedEdge Formula) → x ≡ get_or ns i x → e ≡ x →
    (e.to < length (graph_of game)) × IsBelow game.features e.guard
item_facts game is v l ns same i k x e x_is e_is =
    subst (λ (y : GuardedEdge Formula). (y.to < length (graph_of game)) × IsBelow game.features y.guard)
    (edge_item (vertex_in (graph_of game) v).edges ns same i k x e x_is e_is x)
    (edge_facts game is v l i x (subst (λ (xs : List (GuardedEdge Formula)). i < length xs) same k))

-- The vertices that plays from a vertex can come to are found one by one.
use Rattle.std.proofs.Common.{◌≡◌, ℕ, zero, suc, ◌+◌, ◌<◌, ◌≤◌, ◌⊎◌, inl, inr, List, [], ◌∷◌, Bool, true, false, ◌&&◌, nat_lt, length, get_or, set, replicate, sym, ◌∙◌, ap, subst, refl, arith}
use Rattle.std.proofs.lemmas.Bool.{cases_eq, cases_lt, lt-ltb, le-ltb}
use Rattle.vpg_guards.specs.Formula.{Formula}
use Rattle.vpg_game.specs.Edges.{GuardedEdge, no_edge}
use Rattle.vpg_game.specs.Game.{vertex_in}
use Rattle.vpg_game.specs.Guarded.{GuardedGame}
use Rattle.vpg_zielonka.specs.Attractors.{Vertices}
use Rattle.vpg_zielonka.specs.Reached.{flagged, IsClosed, LeadInto, IsClosedBut, WaitsIfNew}
use Rattle.vpg_zielonka.proofs.Draws.{set_here, set_there, set_count, wait_more}
use Rattle.vpg_zielonka.proofs.Listing.{LeadsAmong, edge_among}

-- no flag is up at first
none_up : (n v : ℕ) → flagged (replicate n false) v ≡ true → ⊥
none_up zero v e = cc e
none_up (suc n) zero e = cc e
none_up (suc n) (suc v) e = none_up n v e

-- a flag that is up is one of the list
pub flag_below : (list : List Bool) (v : ℕ) → (nat_lt v (length list) && flagged list v) ≡ flagged list v
flag_below list v = of (cases_lt v (length list))
  where
    beyond : (l : List Bool) (u : ℕ) → length l ≤ u → flagged l u ≡ false
    beyond [] u h = refl
    beyond (b ∷ l) zero h = absurd (omega (arith, h))
    beyond (b ∷ l) (suc u) h = beyond l u (omega (arith, h))

    of : (v < length list) ⊎ (length list ≤ v) → (nat_lt v (length list) && flagged list v) ≡ flagged list v
    of (inl l) = ap (λ (b : Bool). b && flagged list v) (lt-ltb v (length list) l)
    of (inr l) = ap (λ (b : Bool). b && flagged list v) (le-ltb v (length list) l) ∙ sym (beyond list v l)

-- a test of a flag and of something else is one of the list, too
pub flag_and : (list : List Bool) (v : ℕ) (also : Bool) →
    (nat_lt v (length list) && (flagged list v && also)) ≡ (flagged list v && also)
flag_and list v also = of (nat_lt v (length list)) (flagged list v) (flag_below list v)
  where
    of : (b f : Bool) → (b && f) ≡ f → (b && (f && also)) ≡ (f && also)
    of true f e = refl
    of false f e = ap (λ (x : Bool). x && also) e

clash : {b : Bool} → b ≡ true → b ≡ false → ⊥
clash t f = cc (t, f)

-- only the new flag, or one that was up
which : (list : List Bool) (v u : ℕ) → flagged (set list v true) u ≡ true → (u ≡ v) ⊎ (flagged list u ≡ true)
which list v u e = of (cases_eq u v)
  where
    of : (u ≡ v) ⊎ (u ≡ v → ⊥) → (u ≡ v) ⊎ (flagged list u ≡ true)
    of (inl s) = inl s
    of (inr n) = inr (sym (set_there list v u true false n) ∙ e)

-- the count of those that wait stays
pub waits_count : (found : List Bool) (v : ℕ) (old new : List Bool) → WaitsIfNew found v old new → length new ≡ length old
waits_count found v old new (inl h) = ap (λ (l : List Bool). length l) h.1
waits_count found v old new (inr h) = ap (λ (l : List Bool). length l) h ∙ set_count old v true

-- those that waited still do
waits_more : (found : List Bool) (v : ℕ) (old new : List Bool) → WaitsIfNew found v old new → (u : ℕ) →
    flagged old u ≡ true → flagged new u ≡ true
waits_more found v old new (inl h) u e = ap (λ (l : List Bool). flagged l u) h.1 ∙ e
waits_more found v old new (inr h) u e = ap (λ (l : List Bool). flagged l u) h ∙ wait_more old v u e

module _ (graph : GuardedGame Formula) where
  abbrev edges_at : ℕ → List (GuardedEdge Formula)
  edges_at v = (vertex_in graph v).edges

  lead_more : (some more : Vertices) → ((u : ℕ) → some u ≡ true → more u ≡ true) → (count v : ℕ) →
      LeadInto graph some count v → LeadInto graph more count v
  lead_more some more up count v lead k d l m = up (get_or (edges_at v) k d).to (lead k d l m)

  -- so many edges of a vertex lead into the set
  pub record IsFound (v : ℕ) (before found waiting : List Bool) (count : ℕ) : Type 0 where
    pub found_count : length found ≡ length graph
    pub waiting_count : length waiting ≡ length graph
    pub kept : (u : ℕ) → flagged before u ≡ true → flagged found u ≡ true
    pub rest : IsClosedBut graph (flagged found) (λ u. (u ≡ v) ⊎ (flagged waiting u ≡ true))
    pub front : LeadInto graph (flagged found) count v

  pub found_none : (v : ℕ) (found waiting : List Bool) → length found ≡ length graph → length waiting ≡ length graph →
      IsClosedBut graph (flagged found) (λ u. (u ≡ v) ⊎ (flagged waiting u ≡ true)) → IsFound v found found waiting 0
  found_none v found waiting few waits closed = record {
    found_count = few;
    waiting_count = waits;
    kept = λ u e. e;
    rest = closed;
    front = λ k d l m. absurd (omega (arith, l));
  }

  pub found_more : (v : ℕ) (before found more waiting later : List Bool) (i to : ℕ) → to < length graph →
      ((d : GuardedEdge Formula) → (get_or (edges_at v) i d).to ≡ to) → more ≡ set found to true →
      WaitsIfNew found to waiting later → IsFound v before found waiting i → IsFound v before more later (i + 1)
  found_more v before found more waiting later i to inside here more_is waits is = record {
    found_count = ap (λ (l : List Bool). length l) more_is ∙ set_count found to true ∙ is.found_count;
    waiting_count = waits_count found to waiting later waits ∙ is.waiting_count;
    kept = λ u e. up u (is.kept u e);
    rest = λ u e. of u (which found to u (sym (ap (λ (l : List Bool). flagged l u) more_is) ∙ e)) waits;
    front = λ k d l m. at k d l m (cases_eq k i);
  }
    where
      up : (u : ℕ) → flagged found u ≡ true → flagged more u ≡ true
      up u e = ap (λ (l : List Bool). flagged l u) more_is ∙ wait_more found to u e

      here_up : flagged more to ≡ true
      here_up = ap (λ (l : List Bool). flagged l to) more_is
          ∙ set_here found to true false (subst (λ n. to < n) (sym is.found_count) inside)

      old : (u : ℕ) → flagged found u ≡ true →
          ((u ≡ v) ⊎ (flagged later u ≡ true)) ⊎ LeadInto graph (flagged more) (length (edges_at u)) u
      old u e = then (is.rest u e)
        where
          then : ((u ≡ v) ⊎ (flagged waiting u ≡ true)) ⊎ LeadInto graph (flagged found) (length (edges_at u)) u →
              ((u ≡ v) ⊎ (flagged later u ≡ true)) ⊎ LeadInto graph (flagged more) (length (edges_at u)) u
          then (inl (inl s)) = inl (inl s)
          then (inl (inr w)) = inl (inr (waits_more found to waiting later waits u w))
          then (inr lead) = inr (lead_more (flagged found) (flagged more) up (length (edges_at u)) u lead)

      of : (u : ℕ) → (u ≡ to) ⊎ (flagged found u ≡ true) → WaitsIfNew found to waiting later →
          ((u ≡ v) ⊎ (flagged later u ≡ true)) ⊎ LeadInto graph (flagged more) (length (edges_at u)) u
      of u (inr e) w = old u e
      of u (inl s) (inl h) = old u (ap (λ n. flagged found n) s ∙ h.0)
      of u (inl s) (inr h) = inl (inr (ap (λ n. flagged later n) s ∙ ap (λ (l : List Bool). flagged l to) h
          ∙ set_here waiting to true false (subst (λ n. to < n) (sym is.waiting_count) inside)))

      at : (k : ℕ) (d : GuardedEdge Formula) → k < i + 1 → k < length (edges_at v) → (k ≡ i) ⊎ (k ≡ i → ⊥) →
          flagged more (get_or (edges_at v) k d).to ≡ true
      at k d l m (inl s) = ap (λ n. flagged more (get_or (edges_at v) n d).to) s ∙ ap (λ n. flagged more n) (here d)
          ∙ here_up
      at k d l m (inr n) = up (get_or (edges_at v) k d).to (is.front k d (omega (arith, l, n)) m)

  -- if none waits, no edge leads out
  pub closed_end : (found waiting : List Bool) → ((v : ℕ) → flagged waiting v ≡ false) →
      IsClosedBut graph (flagged found) (λ u. flagged waiting u ≡ true) → IsClosed graph (flagged found)
  closed_end found waiting none closed p v w e edge = of (closed v e) (edge_among graph p v w edge)
    where
      of : (flagged waiting v ≡ true) ⊎ LeadInto graph (flagged found) (length (edges_at v)) v →
          LeadsAmong p (edges_at v) (length (edges_at v)) w → flagged found w ≡ true
      of (inl h) j = absurd (clash h (none v))
      of (inr lead) j = subst (λ n. flagged found n ≡ true) (j.3 no_edge).0 (lead j.0 no_edge j.1 j.2)

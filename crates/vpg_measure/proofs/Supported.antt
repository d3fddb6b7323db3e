-- Supported bounds are below every progress table that the table is below.
-- A progress table that is below some bound stays one, where it is below, in a smaller arena: there Odd has only the edge that supports the bound, and a vertex
-- whose bound is known already is a dead end of Even. The ranks are a progress table of that arena's dual.
use Rattle.std.proofs.Common.{suc, ◌≡◌, ℕ, ◌<◌, ◌≤◌, ◌⊎◌, inl, inr, List, [], ◌∷◌, length, map, get_or, slice_index, nat_lt, if◌then◌else◌, refl, sym, ap, ◌∙◌, subst, lt-ltb, le-ltb, All, arith}
use Rattle.std.specs.List.{range_with_len}
use Rattle.std.proofs.lemmas.Bool.{cases_lt}
use Rattle.std.proofs.lemmas.List.{length-map, get_or-map}
use Rattle.std.proofs.lemmas.List.Elements.{All-map, All-from_get_or, All-contains, All-cons, All-nil}
use Rattle.std.proofs.lemmas.List.FromFn.{length-map-range_with_len, get_or-map-range_with_len}
use Rattle.vpg_game.specs.declared.levels.Level.{Level}
use Rattle.vpg_sides.specs.declared.player.Player.{Player}
use Rattle.vpg_game.specs.Levels.{top_of, prog_of}
use Rattle.vpg_sides.specs.Players.{opponent}
use Rattle.vpg_hope.specs.Arena.{Vertex as Node, vertex_at, IsClosed}
use Rattle.vpg_hope.specs.Comparison.{dual_game}
use Rattle.vpg_hope.specs.Games.{isolated}
use Rattle.vpg_measure.specs.BoundLaws.{SupportedBoundsHold}
use Rattle.vpg_measure.specs.Bounds.{Supports, AreSupported}
use Rattle.vpg_measure.specs.Lifts.{IsTableOf, NumberFitsAt, NumberFitsEdge, FitsEdges, IsProgressTable, IsBelowTable}
use Rattle.vpg_measure.proofs.Numbers.{prog_is_least_fit}
use Rattle.vpg_measure.proofs.Progs.{prog_mono, slice_index-le}
use Rattle.vpg_measure.proofs.Refuted.{dual_vertex, dual_progress_means_top}

-- each successor of a vertex to be raised is a vertex
abbrev pub AreRaisedClosed : (arena : List Node) (table bounds : List ℕ) → Type 0
AreRaisedClosed arena table bounds = (v : ℕ) → v < length arena → slice_index table v < slice_index bounds v → All (λ w. w < length arena) (vertex_at arena v).successors

module _ (ls dls : List Level) (arena : List Node) (table bounds ranks other : List ℕ) (closed : AreRaisedClosed arena table bounds) (is_table : IsTableOf ls arena table) (are_bounds : IsTableOf ls arena bounds) (are_ranks : IsTableOf dls arena ranks)
    (supported : AreSupported ls dls arena table bounds ranks) (is_other : IsTableOf ls arena other) (progress : IsProgressTable ls arena other) (below : IsBelowTable table other) where
  -- Even keeps all edges, Odd the one that supports the bound
  kept : (owner : Player) (p n b : ℕ) (ws : List ℕ) → FitsEdges (opponent owner) (λ w. Supports ls dls bounds ranks p n b w) ws → Node
  kept Player.Even p n b ws e = record { owner = Player.Even; priority = p; successors = ws }
  kept Player.Odd p n b ws e = record { owner = Player.Odd; priority = p; successors = e.1 ∷ [] }

  node_at : (v : ℕ) → (v < length arena) ⊎ (length arena ≤ v) → (slice_index table v < slice_index bounds v) ⊎ (slice_index bounds v ≤ slice_index table v) → Node
  node_at v (inl inside) (inl more) = kept (vertex_at arena v).owner (vertex_at arena v).priority (slice_index bounds v) (slice_index ranks v) (vertex_at arena v).successors (supported v inside more).edges
  node_at v (inl inside) (inr less) = isolated
  node_at v (inr past) d = isolated

  abbrev node : ℕ → Node
  node v = node_at v (cases_lt v (length arena)) (cases_lt (slice_index table v) (slice_index bounds v))

  smaller : List Node
  smaller = map node (range_with_len 0 (length arena))

  -- the values below the bounds, else top
  value : ℕ → ℕ
  value v = if nat_lt (slice_index other v) (slice_index bounds v) then slice_index other v else top_of ls

  values : List ℕ
  values = map value (range_with_len 0 (length arena))

  smaller_length : length smaller ≡ length arena
  unfolding smaller
  smaller_length = length-map-range_with_len node 0 (length arena)

  values_length : length values ≡ length arena
  unfolding values
  values_length = length-map-range_with_len value 0 (length arena)

  node_there : (v : ℕ) → v < length arena → vertex_at smaller v ≡ node v
  unfolding smaller
  node_there v inside = get_or-map-range_with_len node 0 (length arena) v v isolated inside (omega arith)

  value_there : (v : ℕ) → v < length arena → slice_index values v ≡ value v
  unfolding values
  value_there v inside = get_or-map-range_with_len value 0 (length arena) v v 0 inside (omega arith)

  other_within : (v : ℕ) → slice_index other v ≤ top_of ls
  other_within v = slice_index-le (top_of ls) other is_other.within v

  bound_within : (v : ℕ) → slice_index bounds v ≤ top_of ls
  bound_within v = slice_index-le (top_of ls) bounds are_bounds.within v

  rank_within : (v : ℕ) → slice_index ranks v ≤ top_of dls
  rank_within v = slice_index-le (top_of dls) ranks are_ranks.within v

  value_low : (v : ℕ) → slice_index other v < slice_index bounds v → value v ≡ slice_index other v
  unfolding value
  value_low v l = rw (lt-ltb (slice_index other v) (slice_index bounds v) l) refl

  value_high : (v : ℕ) → slice_index bounds v ≤ slice_index other v → value v ≡ top_of ls
  unfolding value
  value_high v l = rw (le-ltb (slice_index other v) (slice_index bounds v) l) refl

  value_within : (v : ℕ) → value v ≤ top_of ls
  value_within v = of (cases_lt (slice_index other v) (slice_index bounds v))
    where
      of : (slice_index other v < slice_index bounds v) ⊎ (slice_index bounds v ≤ slice_index other v) → value v ≤ top_of ls
      of (inl l) = rw (value_low v l) (other_within v)
      of (inr l) = rw (value_high v l) (omega arith)

  below_at : (v : ℕ) → v < length arena → slice_index table v ≤ slice_index other v
  below_at v inside = below.1 v (rw is_table.len inside)

  -- over an edge that supports the bound, what is below its bound sees what is below its bound
  goes_on : (p n b r w : ℕ) → Supports ls dls bounds ranks p n b w → r < n → prog_of ls p (slice_index other w) ≤ r → slice_index other w < slice_index bounds w
  goes_on p n b r w s l h = of (cases_lt (slice_index other w) (slice_index bounds w))
    where
      of : (slice_index other w < slice_index bounds w) ⊎ (slice_index bounds w ≤ slice_index other w) → slice_index other w < slice_index bounds w
      of (inl k) = k
      of (inr k) = omega (arith, s.0, prog_mono ls p (slice_index bounds w) (slice_index other w) k (other_within w))

  over_edge : (p n b r w : ℕ) → w < length arena → r ≤ top_of ls → Supports ls dls bounds ranks p n b w → r < n → NumberFitsEdge ls p r (slice_index other w) → NumberFitsEdge ls p r (slice_index values w)
  over_edge p n b r w inside top s l f = subst (λ m. NumberFitsEdge ls p r m) (sym (value_there w inside ∙ value_low w (goes_on p n b r w s l ((prog_is_least_fit ls p (slice_index other w) r (other_within w) top).0 f)))) f

  fits_kept : (owner : Player) (p n b r : ℕ) (ws : List ℕ) (e : FitsEdges (opponent owner) (λ w. Supports ls dls bounds ranks p n b w) ws) → All (λ w. w < length arena) ws → r < n → n ≤ top_of ls →
      (r ≡ top_of ls) ⊎ FitsEdges owner (λ w. NumberFitsEdge ls p r (slice_index other w)) ws → NumberFitsAt ls values (kept owner p n b ws e) r
  unfolding kept
  fits_kept owner p n b r ws e inside l top (inl t) = absurd (omega arith)
  fits_kept Player.Even p n b r ws e inside l top (inr a) = inr (
    a.0,
    a.1,
    a.2,
    a.3,
    over_edge p n b r a.1 (All-contains (λ w. w < length arena) ws a.1 inside (a.0, a.2, a.3)) (omega arith)
        (All-contains (λ w. Supports ls dls bounds ranks p n b w) ws a.1 e (a.0, a.2, a.3)) l a.4,
  )
  fits_kept Player.Odd p n b r ws e inside l top (inr a) = inr (All-cons (λ w. NumberFitsEdge ls p r (slice_index values w)) e.1 []
      (over_edge p n b r e.1 (All-contains (λ w. w < length arena) ws e.1 inside (e.0, e.2, e.3)) (omega arith) e.4 l
      (All-contains (λ w. NumberFitsEdge ls p r (slice_index other w)) ws e.1 a (e.0, e.2, e.3))) (All-nil (λ w. NumberFitsEdge ls p r (slice_index values w))))

  fits_node : (v : ℕ) → v < length arena → slice_index other v < slice_index bounds v → (d : (v < length arena) ⊎ (length arena ≤ v)) (e : (slice_index table v < slice_index bounds v) ⊎ (slice_index bounds v ≤ slice_index table v)) →
      NumberFitsAt ls values (node_at v d e) (slice_index other v)
  unfolding node_at
  fits_node v inside low (inl i) (inl more) = fits_kept (vertex_at arena v).owner (vertex_at arena v).priority (slice_index bounds v) (slice_index ranks v) (slice_index other v) (vertex_at arena v).successors
      (supported v i more).edges (closed v i more) low (bound_within v) (progress v inside)
  fits_node v inside low (inl i) (inr less) = absurd (omega (arith, below_at v inside))
  fits_node v inside low (inr past) e = absurd (omega arith)

  settled : IsProgressTable ls smaller values
  settled v there = rw (node_there v inside, value_there v inside) (of (cases_lt (slice_index other v) (slice_index bounds v)))
    where
      inside : v < length arena
      inside = rw smaller_length at there

      of : (slice_index other v < slice_index bounds v) ⊎ (slice_index bounds v ≤ slice_index other v) → NumberFitsAt ls values (node v) (value v)
      of (inl low) = rw (value_low v low) (fits_node v inside low (cases_lt v (length arena)) (cases_lt (slice_index table v) (slice_index bounds v)))
      of (inr high) = inl (value_high v high)

  values_table : IsTableOf ls smaller values
  values_table = record { len = values_length ∙ sym smaller_length; within = All-from_get_or (λ n. n ≤ top_of ls) values 0 (λ v l. bounded v (subst (λ n. v < n) values_length l)) }
    where
      bounded : (v : ℕ) → v < length arena → get_or values v 0 ≤ top_of ls
      bounded v inside = subst (λ n. n ≤ top_of ls) (sym (value_there v inside)) (value_within v)

  -- the ranks in the dual
  rank_edge : (p n b w : ℕ) → b ≤ top_of dls → Supports ls dls bounds ranks p n b w → NumberFitsEdge dls (suc p) b (slice_index ranks w)
  rank_edge p n b w top s = (prog_is_least_fit dls (suc p) (slice_index ranks w) b (rank_within w) top).1 s.1

  rank_kept : (owner : Player) (p n b : ℕ) (ws : List ℕ) (e : FitsEdges (opponent owner) (λ w. Supports ls dls bounds ranks p n b w) ws) → b ≤ top_of dls → NumberFitsAt dls ranks (dual_vertex (kept owner p n b ws e)) b
  unfolding kept
  rank_kept Player.Even p n b ws e top = inr (λ k d l. rank_edge p n b (get_or ws k d) top (e k d l))
  rank_kept Player.Odd p n b ws e top = inr (0, e.1, omega arith, refl, rank_edge p n b e.1 top e.4)

  rank_node : (v : ℕ) (d : (v < length arena) ⊎ (length arena ≤ v)) (e : (slice_index table v < slice_index bounds v) ⊎ (slice_index bounds v ≤ slice_index table v)) → NumberFitsAt dls ranks (dual_vertex (node_at v d e)) (slice_index ranks v)
  unfolding node_at
  rank_node v (inl i) (inl more) = rank_kept (vertex_at arena v).owner (vertex_at arena v).priority (slice_index bounds v) (slice_index ranks v) (vertex_at arena v).successors (supported v i more).edges (rank_within v)
  rank_node v (inl i) (inr less) = inr (All-nil (λ w. NumberFitsEdge dls 1 (slice_index ranks v) (slice_index ranks w)))
  rank_node v (inr past) e = inr (All-nil (λ w. NumberFitsEdge dls 1 (slice_index ranks v) (slice_index ranks w)))

  dual_there : (v : ℕ) → v < length arena → vertex_at (dual_game smaller) v ≡ dual_vertex (node v)
  dual_there v inside = get_or-map dual_vertex smaller v isolated isolated (rw smaller_length inside) ∙ ap dual_vertex (node_there v inside)

  dual_settled : IsProgressTable dls (dual_game smaller) ranks
  dual_settled v there = rw (dual_there v inside) (rank_node v (cases_lt v (length arena)) (cases_lt (slice_index table v) (slice_index bounds v)))
    where
      inside : v < length arena
      inside = rw (length-map, smaller_length) at there

  ranks_table : IsTableOf dls (dual_game smaller) ranks
  ranks_table = record { len = are_ranks.len ∙ sym same; within = are_ranks.within }
    where
      same : length (dual_game smaller) ≡ length arena
      same = rw length-map smaller_length

  closed_kept : (owner : Player) (p n b : ℕ) (ws : List ℕ) (e : FitsEdges (opponent owner) (λ w. Supports ls dls bounds ranks p n b w) ws) → All (λ w. w < length arena) ws → All (λ w. w < length arena) (kept owner p n b ws e).successors
  unfolding kept
  closed_kept Player.Even p n b ws e inside = inside
  closed_kept Player.Odd p n b ws e inside = All-cons (λ w. w < length arena) e.1 [] (All-contains (λ w. w < length arena) ws e.1 inside (e.0, e.2, e.3)) (All-nil (λ w. w < length arena))

  closed_node : (v : ℕ) (d : (v < length arena) ⊎ (length arena ≤ v)) (e : (slice_index table v < slice_index bounds v) ⊎ (slice_index bounds v ≤ slice_index table v)) → All (λ w. w < length arena) (node_at v d e).successors
  unfolding node_at
  closed_node v (inl i) (inl more) = closed_kept (vertex_at arena v).owner (vertex_at arena v).priority (slice_index bounds v) (slice_index ranks v) (vertex_at arena v).successors (supported v i more).edges (closed v i more)
  closed_node v (inl i) (inr less) = All-nil (λ w. w < length arena)
  closed_node v (inr past) e = All-nil (λ w. w < length arena)

  smaller_closed : IsClosed smaller
  unfolding smaller
  smaller_closed = subst (λ n. All (λ (x : Node). All (λ w. w < n) x.successors) smaller) (sym smaller_length) inside
    where
      inside : All (λ (x : Node). All (λ w. w < length arena) x.successors) smaller
      inside = All-map (λ (x : Node). All (λ w. w < length arena) x.successors) node (range_with_len 0 (length arena)) (λ k d l. closed_node (get_or (range_with_len 0 (length arena)) k d) (cases_lt (get_or (range_with_len 0 (length arena)) k d) (length arena)) (cases_lt (slice_index table (get_or (range_with_len 0 (length arena)) k d)) (slice_index bounds (get_or (range_with_len 0 (length arena)) k d))))

  bound_holds : (v : ℕ) → v < length arena → slice_index bounds v ≤ slice_index other v
  bound_holds v inside = of (cases_lt (slice_index table v) (slice_index bounds v)) (cases_lt (slice_index other v) (slice_index bounds v))
    where
      at_top : slice_index table v < slice_index bounds v → slice_index values v ≡ top_of ls
      at_top more = dual_progress_means_top ls dls smaller values ranks smaller_closed values_table settled ranks_table dual_settled v (rw smaller_length inside) (supported v inside more).ranked

      of : (slice_index table v < slice_index bounds v) ⊎ (slice_index bounds v ≤ slice_index table v) → (slice_index other v < slice_index bounds v) ⊎ (slice_index bounds v ≤ slice_index other v) → slice_index bounds v ≤ slice_index other v
      of d (inr high) = high
      of (inr less) (inl low) = omega (arith, below_at v inside)
      of (inl more) (inl low) = absurd (clash (sym (value_there v inside ∙ value_low v low) ∙ at_top more))
        where
          clash : slice_index other v ≡ top_of ls → ⊥
          clash e = omega (arith, bound_within v)

  pub supported_below : IsBelowTable bounds other
  supported_below = (are_bounds.len ∙ sym is_other.len, λ v l. bound_holds v (subst (λ n. v < n) are_bounds.len l))

pub supported_bounds_hold : SupportedBoundsHold
supported_bounds_hold levels dual_levels arena table bounds ranks closed is_table are_bounds are_ranks supported other is_other progress below =
    supported_below levels dual_levels arena table bounds ranks other (λ v inside more. closed v isolated inside) is_table are_bounds are_ranks supported is_other progress below

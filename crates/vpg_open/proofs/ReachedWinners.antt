-- In each product the part of a game that a vertex reaches has the game's winner there.
use Rattle.std.proofs.Common.{◌≡◌, ℕ, zero, suc, ◌<◌, ◌⊎◌, ◌↔◌, inl, inr, Bool, true, false, cond, List, [], ◌∷◌, ◌++◌, length, map, filter, get_or, slice_get, Some, refl, sym, ap, ap₂, subst, ◌∙◌, arith, Contains, append_assoc}
use Rattle.std.specs.Prelude.{Option, None, IfSome, slice_index, slice_index_or}
use Rattle.std.proofs.lemmas.Bool.{cases_lt}
use Rattle.std.proofs.lemmas.List.{append-nil, length-map, get_or-map, get_or_append_left, get_or_push, length-append}
use Rattle.std.proofs.lemmas.Option.{slice_get-get_or, slice_get_within}
use Rattle.vpg_sides.specs.declared.player.Player.{Player}
use Rattle.vpg_guards.specs.Formula.{Formula, truth}
use Rattle.vpg_game.specs.Edges.{GuardedEdge, join_edge, no_edge}
use Rattle.vpg_game.specs.Spelled.{SpelledEntry}
use Rattle.vpg_game.specs.Game.{NamedVertex, NamedGame, IsGame, AreEdges, AreVertices, AreDistinct, AllHeld, AllFound, AreSound, Holds, vertex_ids, entry_ids, place_of, joined_edges, vertex_of, game_of, graph_of, unnamed, no_vertex}
use Rattle.vpg_game.proofs.Build.{index_held}
use Rattle.vpg_game.proofs.Graphs.{games_have_graphs}
use Rattle.vpg_game.proofs.Joining.{join_new}
use Rattle.vpg_game.proofs.Parts.{some_is}
use Rattle.vpg_hope.specs.Games.{Vertex, Game, isolated, HasEdge}
use Rattle.vpg_hope.specs.Hope.{product_game}
use Rattle.vpg_hope.proofs.Edges.{not_in_nil, Contains-cases}
use Rattle.vpg_hope.proofs.Guards.{restrict_closed, same_count}
use Rattle.vpg_determined.specs.Determined.{HasWin}
use Rattle.vpg_determined.proofs.Winning.{determined}
use Rattle.vpg_open.specs.ReachedGames.{HasWinnersOf, marked, marked_entries}
use Rattle.vpg_open.specs.SettledGames.{settled_game, spelled_edge, spelled_vertex}
use Rattle.vpg_open.specs.declared.reaching.Reached.{Reached}
use Rattle.vpg_open.proofs.Entries.{ids_stay}
use Rattle.vpg_open.proofs.Marked.{marked_at}
use Rattle.vpg_open.proofs.Parts.{renamed, winner_is}
use Rattle.vpg_open.proofs.Spelled.{same_ids}

-- ---- a vertex of a plain game

abbrev plain_vertex : (Formula → Bool) → NamedVertex → Vertex
plain_vertex truth v = record {
  owner = v.owner;
  priority = v.priority;
  successors = map (λ (e : GuardedEdge Formula). e.to) (filter (λ (e : GuardedEdge Formula). truth e.guard) v.edges);
}

plain_at : (truth : Formula → Bool) (vs : List NamedVertex) (v : ℕ) →
    get_or (product_game truth (map unnamed vs)) v isolated ≡ plain_vertex truth (get_or vs v no_vertex)
plain_at truth [] v = refl
plain_at truth (x ∷ vs) zero = refl
plain_at truth (x ∷ vs) (suc v) = plain_at truth vs v

-- ---- places by identifiers

module _ (all ids : List ℕ) (distinct : AreDistinct all) (apart : AreDistinct ids) where
  -- the place in the part of what stands at a place of the game, and back
  abbrev place : ℕ → ℕ
  place u = place_of ids (slice_index all u)

  abbrev origin : ℕ → ℕ
  origin n = place_of all (slice_index ids n)

  got : (xs : List ℕ) (n : ℕ) → n < length xs → slice_get xs n ≡ Some (slice_index xs n)
  got xs n lt = slice_get-get_or xs n 0 lt

  origin_is : (n u : ℕ) → u < length all → slice_index ids n ≡ slice_index all u → origin n ≡ u
  origin_is n u lt e = ap (place_of all) e ∙ index_held (slice_index all u) all u distinct (got all u lt)

  place_is : (u n : ℕ) → slice_get ids n ≡ Some (slice_index all u) → place u ≡ n
  place_is u n e = index_held (slice_index all u) ids n apart e

  place_within : (u : ℕ) → Holds ids (slice_index all u) → place u < length ids
  place_within u h =
      subst (λ (n : ℕ). n < length ids) (sym (place_is u h.0 h.1)) (slice_get_within ids h.0 (slice_index all u) h.1)

  at_place : (u : ℕ) → Holds ids (slice_index all u) → slice_index ids (place u) ≡ slice_index all u
  at_place u h =
      some_is (slice_index ids (place u)) (slice_index all u)
      (sym (got ids (place u) (place_within u h))
      ∙ ap (slice_get ids) (place_is u h.0 h.1)
      ∙ h.1)

  origin_back : (u : ℕ) → u < length all → Holds ids (slice_index all u) → origin (place u) ≡ u
  origin_back u lt h = origin_is (place u) u lt (at_place u h)

  same_origin : (u w : ℕ) → u < length all → w < length all → Holds ids (slice_index all u) →
      Holds ids (slice_index all w) → place u ≡ place w → u ≡ w
  same_origin u w lt less h k e = sym (origin_back u lt h) ∙ ap origin e ∙ origin_back w less k

  -- ---- edges

  abbrev moved : GuardedEdge Formula → GuardedEdge Formula
  moved e = record { to = place e.to; guard = e.guard }

  held_at : (es : List (GuardedEdge Formula)) (j : ℕ) → j < length es → AllHeld ids (map (spelled_edge all) es) →
      Holds ids (slice_index all (slice_index_or es j no_edge).to)
  held_at [] j lt h = absurd (omega (arith, lt))
  held_at (e ∷ es) zero lt h = h.0
  held_at (e ∷ es) (suc j) lt h = held_at es j (omega (arith, lt)) h.1

  edge_within : (n m : ℕ) (es : List (GuardedEdge Formula)) (j : ℕ) → j < length es → AreEdges n m es →
      (slice_index_or es j no_edge).to < n
  edge_within n m [] j lt are = absurd (omega (arith, lt))
  edge_within n m (e ∷ es) zero lt are = are.0
  edge_within n m (e ∷ es) (suc j) lt are = edge_within n m es j (omega (arith, lt)) are.3

  target_at : (es : List (GuardedEdge Formula)) (j : ℕ) → j < length es →
      slice_get (map (λ (f : GuardedEdge Formula). f.to) es) j ≡ Some (slice_index_or es j no_edge).to
  target_at [] j lt = absurd (omega (arith, lt))
  target_at (e ∷ es) zero lt = refl
  target_at (e ∷ es) (suc j) lt = target_at es j (omega (arith, lt))

  abbrev AreApart : (seen es : List (GuardedEdge Formula)) → Type 0
  AreApart seen es = (k j : ℕ) → k < length seen → j < length es →
      (slice_index_or seen k no_edge).to ≡ place (slice_index_or es j no_edge).to → ⊥

  -- edges whose targets differ are joined as they stand
  joined_moved : (m : ℕ) (seen es : List (GuardedEdge Formula)) → AreEdges (length all) m es →
      AllHeld ids (map (spelled_edge all) es) → AreApart seen es →
      joined_edges ids seen (map (spelled_edge all) es) ≡ seen ++ map moved es
  joined_moved m seen [] are held away = sym (append-nil seen)
  joined_moved m seen (e ∷ es) are held away =
      let pushed : join_edge seen (moved e) ≡ seen ++ moved e ∷ [] =
      join_new seen (moved e) (λ k lt h. away k 0 lt (omega arith) h) in
      ap (λ (fs : List (GuardedEdge Formula)). joined_edges ids fs (map (spelled_edge all) es)) pushed
      ∙ joined_moved m (seen ++ moved e ∷ []) es are.3 held.1 more
      ∙ append_assoc seen (moved e ∷ []) (map moved es)
    where
      more : AreApart (seen ++ moved e ∷ []) es
      more k j lt less h = elim (cases_lt k (length seen)) [
        | inl old ↦ away k (suc j) old (omega (arith, less))
            (ap (λ (f : GuardedEdge Formula). f.to) (sym (get_or_append_left seen (moved e ∷ []) no_edge k old)) ∙ h)
        | inr new ↦ (
            let here : k ≡ length seen = omega (arith, lt, new, length-append seen (moved e ∷ [])) in
            let is : slice_index_or (seen ++ moved e ∷ []) k no_edge ≡ moved e =
            ap (λ (i : ℕ). slice_index_or (seen ++ moved e ∷ []) i no_edge) here
            ∙ get_or_push seen (moved e) no_edge (length seen) refl in
            let same : e.to ≡ (slice_index_or es j no_edge).to =
            same_origin e.to (slice_index_or es j no_edge).to are.0 (edge_within (length all) m es j less are.3) held.0
            (held_at es j less held.1) (sym (ap (λ (f : GuardedEdge Formula). f.to) is) ∙ h) in
            are.2 j (target_at es j less ∙ ap (λ (t : ℕ). Some t) (sym same)))
      ]

  kept_moved : (keeps : Formula → Bool) (es : List (GuardedEdge Formula)) →
      map (λ (e : GuardedEdge Formula). e.to) (filter (λ (e : GuardedEdge Formula). keeps e.guard) (map moved es))
      ≡ map place (map (λ (e : GuardedEdge Formula). e.to)
      (filter (λ (e : GuardedEdge Formula). keeps e.guard) es))
  kept_moved keeps [] = refl
  kept_moved keeps (e ∷ es) = of (keeps e.guard) (kept_moved keeps es)
    where
      of : (b : Bool) →
          map (λ (f : GuardedEdge Formula). f.to) (filter (λ (f : GuardedEdge Formula). keeps f.guard) (map moved es))
          ≡ map place (map (λ (f : GuardedEdge Formula). f.to)
          (filter (λ (f : GuardedEdge Formula). keeps f.guard) es)) →
          map (λ (f : GuardedEdge Formula). f.to)
          (cond b (moved e ∷ filter (λ (f : GuardedEdge Formula). keeps f.guard) (map moved es))
          (filter (λ (f : GuardedEdge Formula). keeps f.guard) (map moved es)))
          ≡ map place (map (λ (f : GuardedEdge Formula). f.to)
          (cond b (e ∷ filter (λ (f : GuardedEdge Formula). keeps f.guard) es)
          (filter (λ (f : GuardedEdge Formula). keeps f.guard) es)))
      of true same = ap (λ (xs : List ℕ). place e.to ∷ xs) same
      of false same = same

  -- what a product's edge leads to is held
  target_held : (m : ℕ) (keeps : Formula → Bool) (es : List (GuardedEdge Formula)) (w : ℕ) →
      AreEdges (length all) m es → AllHeld ids (map (spelled_edge all) es) →
      Contains (map (λ (e : GuardedEdge Formula). e.to)
      (filter (λ (e : GuardedEdge Formula). keeps e.guard) es)) w →
      (w < length all) × Holds ids (slice_index all w)
  target_held m keeps [] w are held c = absurd (not_in_nil w c)
  target_held m keeps (e ∷ es) w are held c = of (keeps e.guard) c (target_held m keeps es w are.3 held.1)
    where
      Rest : Type 0
      Rest = Contains (map (λ (f : GuardedEdge Formula). f.to)
          (filter (λ (f : GuardedEdge Formula). keeps f.guard) es)) w

      first : (e.to ≡ w) ⊎ Rest → (Rest → (w < length all) × Holds ids (slice_index all w)) →
          (w < length all) × Holds ids (slice_index all w)
      first (inl same) rest = (
        subst (λ (t : ℕ). t < length all) same are.0,
        subst (λ (t : ℕ). Holds ids (slice_index all t)) same held.0,
      )
      first (inr c) rest = rest c

      of : (b : Bool) →
          Contains (map (λ (f : GuardedEdge Formula). f.to)
          (cond b (e ∷ filter (λ (f : GuardedEdge Formula). keeps f.guard) es)
          (filter (λ (f : GuardedEdge Formula). keeps f.guard) es))) w →
          (Rest → (w < length all) × Holds ids (slice_index all w)) →
          (w < length all) × Holds ids (slice_index all w)
      of true c rest =
          first (Contains-cases e.to (map (λ (f : GuardedEdge Formula). f.to)
          (filter (λ (f : GuardedEdge Formula). keeps f.guard) es)) w c) rest
      of false c rest = rest c

-- ---- the part

edges_of : (n m : ℕ) (vs : List NamedVertex) (v : ℕ) → v < length vs → AreVertices n m vs →
    AreEdges n m (get_or vs v no_vertex).edges
edges_of n m [] v lt are = absurd (omega (arith, lt))
edges_of n m (x ∷ vs) zero lt are = are.2
edges_of n m (x ∷ vs) (suc v) lt are = edges_of n m vs v (omega (arith, lt)) are.3

held_of : (ids all : List ℕ) (vs : List NamedVertex) (v : ℕ) → v < length vs →
    AllFound ids (map (spelled_vertex all) vs) → AllHeld ids (map (spelled_edge all) (get_or vs v no_vertex).edges)
held_of ids all [] v lt h = absurd (omega (arith, lt))
held_of ids all (x ∷ vs) zero lt h = h.0
held_of ids all (x ∷ vs) (suc v) lt h = held_of ids all vs v (omega (arith, lt)) h.1

part_ids : (ks : List ℕ) (es : List SpelledEntry) → vertex_ids (map (vertex_of ks) es) ≡ entry_ids es
part_ids ks [] = refl
part_ids ks (e ∷ es) = ap (λ (js : List ℕ). e.id ∷ js) (part_ids ks es)

id_of : (vs : List NamedVertex) (v : ℕ) → v < length vs →
    slice_index (vertex_ids vs) v ≡ (get_or vs v no_vertex).id
id_of vs v lt = get_or-map (λ (x : NamedVertex). x.id) vs v no_vertex 0 lt

module _ (game : NamedGame) (marks : List Bool) (is : IsGame game)
    (sound : AreSound (marked_entries game marks)) where
  abbrev all : List ℕ
  all = vertex_ids game.vertices

  abbrev some : List NamedVertex
  some = marked game.vertices marks

  abbrev ids : List ℕ
  ids = vertex_ids some

  same : entry_ids (marked_entries game marks) ≡ ids
  same = same_ids all some

  apart : AreDistinct ids
  apart = subst AreDistinct same sound.distinct

  found : AllFound ids (marked_entries game marks)
  found = subst (λ (ks : List ℕ). AllFound ks (marked_entries game marks)) same sound.found

  abbrev part : NamedGame
  part = record { vertices = map (vertex_of ids) (marked_entries game marks); features = game.features }

  pub part_is : game_of game.features (marked_entries game marks) ≡ part
  part_is =
      ap (λ (ks : List ℕ). let g : NamedGame =
      record { vertices = map (vertex_of ks) (marked_entries game marks); features = game.features } in g) same

  count : length part.vertices ≡ length some
  count =
      length-map (marked_entries game marks) (vertex_of ids)
      ∙ length-map some (spelled_vertex all)

  ids_count : length ids ≡ length some
  ids_count = length-map some (λ (x : NamedVertex). x.id)

  all_count : length all ≡ length game.vertices
  all_count = length-map game.vertices (λ (x : NamedVertex). x.id)

  -- the vertex of the part, and the game's that it is
  vertex_at : (n : ℕ) → n < length some →
      get_or part.vertices n no_vertex ≡ vertex_of ids (spelled_vertex all (get_or some n no_vertex))
  vertex_at n lt =
      get_or-map (vertex_of ids) (marked_entries game marks) n (spelled_vertex all no_vertex) no_vertex
      (subst (λ (k : ℕ). n < k) (sym (length-map some (spelled_vertex all))) lt)
      ∙ ap (vertex_of ids) (get_or-map (spelled_vertex all) some n no_vertex (spelled_vertex all no_vertex) lt)

  module _ (p : List Bool) where
    abbrev whole : Game
    whole = product_game (truth p) (graph_of game)

    abbrev piece : Game
    piece = product_game (truth p) (graph_of part)

    piece_count : length piece ≡ length some
    piece_count =
        same_count Formula (λ mover guard. truth p guard) (graph_of part)
        ∙ length-map part.vertices unnamed
        ∙ count

    abbrev from : ℕ → ℕ
    from = origin all ids is.distinct apart

    abbrev to : ℕ → ℕ
    to = place all ids is.distinct apart

    -- where a vertex of the part comes from
    from_is : (n u : ℕ) → n < length some → u < length game.vertices →
        get_or some n no_vertex ≡ get_or game.vertices u no_vertex → from n ≡ u
    from_is n u lt less e =
        origin_is all ids is.distinct apart n u (subst (λ (k : ℕ). u < k) (sym all_count) less)
        (id_of some n lt ∙ ap (λ (x : NamedVertex). x.id) e ∙ sym (id_of game.vertices u less))

    from_at : (n : ℕ) → n < length some → get_or some n no_vertex ≡ get_or game.vertices (from n) no_vertex
    from_at n lt =
        let u = marked_at game.vertices marks n lt in
        u.2 ∙ ap (λ (k : ℕ). get_or game.vertices k no_vertex) (sym (from_is n u.0 lt u.1 u.2))

    from_within : (n : ℕ) → n < length some → from n < length game.vertices
    from_within n lt =
        let u = marked_at game.vertices marks n lt in
        subst (λ (k : ℕ). k < length game.vertices) (sym (from_is n u.0 lt u.1 u.2)) u.1

    are_edges : (n : ℕ) → n < length some → AreEdges (length all) game.features (get_or some n no_vertex).edges
    are_edges n lt =
        subst (λ (x : NamedVertex). AreEdges (length all) game.features x.edges) (sym (from_at n lt))
        (edges_of (length all) game.features game.vertices (from n) (from_within n lt)
        (subst (λ (k : ℕ). AreVertices k game.features game.vertices) (sym all_count) is.each))

    are_held : (n : ℕ) → n < length some → AllHeld ids (map (spelled_edge all) (get_or some n no_vertex).edges)
    are_held n lt = held_of ids all some n lt found

    renamed_at : (n : ℕ) → n < length some →
        plain_vertex (truth p) (vertex_of ids (spelled_vertex all (get_or some n no_vertex)))
        ≡ renamed to (plain_vertex (truth p) (get_or some n no_vertex))
    renamed_at n lt =
        let x : NamedVertex = get_or some n no_vertex in
        ap (λ (es : List (GuardedEdge Formula)). let y : Vertex = record {
          owner = x.owner;
          priority = x.priority;
          successors = map (λ (e : GuardedEdge Formula). e.to)
              (filter (λ (e : GuardedEdge Formula). truth p e.guard) es);
        } in y)
        (joined_moved all ids is.distinct apart game.features [] x.edges (are_edges n lt) (are_held n lt)
        (λ k j less more h. absurd (omega (arith, less))))
        ∙ ap (λ (ws : List ℕ).
        let y : Vertex = record { owner = x.owner; priority = x.priority; successors = ws } in y)
        (kept_moved all ids is.distinct apart (truth p) x.edges)

    piece_at : (n : ℕ) → n < length piece → get_or piece n isolated ≡ renamed to (get_or whole (from n) isolated)
    piece_at n lt =
        let less : n < length some = subst (λ (k : ℕ). n < k) piece_count lt in
        plain_at (truth p) part.vertices n
        ∙ ap (plain_vertex (truth p)) (vertex_at n less)
        ∙ renamed_at n less
        ∙ ap (λ (x : NamedVertex). renamed to (plain_vertex (truth p) x)) (from_at n less)
        ∙ ap (renamed to) (sym (plain_at (truth p) game.vertices (from n)))

    edge_held : (n w : ℕ) → n < length piece → HasEdge whole (from n) w →
        (w < length all) × Holds ids (slice_index all w)
    edge_held n w lt e =
        let less : n < length some = subst (λ (k : ℕ). n < k) piece_count lt in
        target_held all ids is.distinct apart game.features (truth p) (get_or some n no_vertex).edges w
        (are_edges n less) (are_held n less)
        (subst (λ (x : Vertex). Contains x.successors w)
        (plain_at (truth p) game.vertices (from n) ∙ ap (plain_vertex (truth p)) (sym (from_at n less))) e)

    back : (n w : ℕ) → n < length piece → HasEdge whole (from n) w → (to w < length piece) × (from (to w) ≡ w)
    back n w lt e =
        let h = edge_held n w lt e in (
          subst (λ (k : ℕ). to w < k) (ids_count ∙ sym piece_count)
              (place_within all ids is.distinct apart w h.1),
          origin_back all ids is.distinct apart w h.0 h.1,
        )

    there : (n : ℕ) → n < length piece → to (from n) ≡ n
    there n lt =
        let less : n < length some = subst (λ (k : ℕ). n < k) piece_count lt in
        let within : n < length ids = subst (λ (k : ℕ). n < k) (sym ids_count) less in
        let e : slice_index ids n ≡ slice_index all (from n) =
        id_of some n less ∙ ap (λ (x : NamedVertex). x.id) (from_at n less)
        ∙ sym (id_of game.vertices (from n) (from_within n less)) in
        place_is all ids is.distinct apart (from n) n
        (slice_get-get_or ids n 0 within ∙ ap (λ (k : ℕ). Some k) e)

    -- the part's vertex with the identifier of this one
    pub part_wins : (v n id : ℕ) → IsGame part → slice_get all v ≡ Some id →
        slice_get (vertex_ids part.vertices) n ≡ Some id →
        (n < length (graph_of part)) × HasWinnersOf (graph_of game) v p (graph_of part) n
    part_wins v n id game_part here there_too =
        let e : slice_get ids n ≡ Some id =
        ap (λ (ks : List ℕ). slice_get ks n) (sym (part_ids ids (marked_entries game marks) ∙ same)) ∙ there_too in
        let within : n < length ids = slice_get_within ids n id e in
        let v_within : v < length all = slice_get_within all v id here in
        let less : n < length piece = subst (λ (k : ℕ). n < k) (ids_count ∙ sym piece_count) within in
        let same_id : slice_index ids n ≡ slice_index all v =
        some_is (slice_index ids n) id (sym (slice_get-get_or ids n 0 within) ∙ e)
        ∙ sym (some_is (slice_index all v) id (sym (slice_get-get_or all v 0 v_within) ∙ here)) in
        let is_v : from n ≡ v = origin_is all ids is.distinct apart n v v_within same_id in (
          subst (λ (k : ℕ). n < k) (same_count Formula (λ mover guard. truth p guard) (graph_of part)) less,
          λ player. subst (λ (k : ℕ). HasWin piece player n ↔ HasWin whole player k) is_v
              (winner_is whole piece from to piece_at back there player n less
              (determined piece n
              (restrict_closed Formula (λ mover guard. truth p guard) (graph_of part)
              (games_have_graphs part game_part).closed) less)),
        )

-- the part with a place for the vertex
abbrev pub IsFor : (game : NamedGame) (v : ℕ) (part : NamedGame) → ℕ → Type 0
IsFor game v part n =
    (id : ℕ) × (slice_get (vertex_ids game.vertices) v ≡ Some id) × (slice_get (vertex_ids part.vertices) n ≡ Some id)

pub part_made : (game : NamedGame) (marks : List Bool) (entries : List SpelledEntry) (features : ℕ)
    (made : NamedGame) (v n : ℕ) → IsGame game → entries ≡ marked_entries game marks → features ≡ game.features →
    made ≡ game_of features entries → AreSound entries → IsGame made → IsFor game v made n →
    (n < length (graph_of made)) × ((p : List Bool) → HasWinnersOf (graph_of game) v p (graph_of made) n)
part_made game marks entries features made v n is e f m sound whole for =
    let sound_too : AreSound (marked_entries game marks) = subst AreSound e sound in
    let is_part : made ≡ part game marks is sound_too =
    m ∙ ap₂ (λ (k : ℕ) (es : List SpelledEntry). game_of k es) f e ∙ part_is game marks is sound_too in
    let at : IsFor game v (part game marks is sound_too) n = subst (λ (g : NamedGame). IsFor game v g n) is_part for in
    let all : (p : List Bool) → (n < length (graph_of (part game marks is sound_too))) ×
    HasWinnersOf (graph_of game) v p (graph_of (part game marks is sound_too)) n =
    λ p. part_wins game marks is sound_too p v n at.0 (subst IsGame is_part whole) at.1 at.2 in
    subst (λ (g : NamedGame).
    (n < length (graph_of g)) × ((p : List Bool) → HasWinnersOf (graph_of game) v p (graph_of g) n)) (sym is_part)
    ((all []).0, λ p. (all p).1)

pub part_in : (game : NamedGame) (marks : List Bool) (entries : List SpelledEntry) (features : ℕ)
    (made : NamedGame) (v : ℕ) (found : Option Reached) → IsGame game → entries ≡ marked_entries game marks →
    features ≡ game.features → made ≡ game_of features entries → AreSound entries →
    IfSome found (λ x. x.game ≡ made) → IfSome found (λ x. IsGame made) → IfSome found (λ x. IsFor game v made x.vertex) →
    IfSome found (λ x. x.vertex < length (graph_of x.game)) ×
    IfSome found (λ x. (p : List Bool) → HasWinnersOf (graph_of game) v p (graph_of x.game) x.vertex)
part_in game marks entries features made v None is e f m sound stays sure for = (tt, tt)
part_in game marks entries features made v (Some x) is e f m sound stays sure for =
    let all = part_made game marks entries features made v x.vertex is e f m sound sure for in (
      subst (λ (g : NamedGame). x.vertex < length (graph_of g)) (sym stays) all.0,
      subst (λ (g : NamedGame). (p : List Bool) → HasWinnersOf (graph_of game) v p (graph_of g) x.vertex) (sym stays) all.1,
    )

-- a vertex keeps its identifier where some are won at once
pub same_place : (game : NamedGame) (winners : List (Option Player)) (v : ℕ) (part : NamedGame)
    (found : Option Reached) → IfSome found (λ x. IsFor game v part x.vertex) →
    IfSome found (λ x. IsFor (settled_game game winners) v part x.vertex)
same_place game winners v part found are =
    subst (λ (ids : List ℕ). IfSome found (λ x. (id : ℕ) × (slice_get ids v ≡ Some id) ×
    (slice_get (vertex_ids part.vertices) x.vertex ≡ Some id)))
    (sym (ids_stay game.vertices winners)) are

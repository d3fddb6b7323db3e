-- The entries whose guards are sharp make a game that differs in guards alone.
use Rattle.std.proofs.Common.{◌≡◌, ℕ, zero, suc, ◌+◌, ◌<◌, ◌^◌, inl, inr, List, [], ◌∷◌, ◌++◌, length, length-append, map, take, get_or, Some, slice_get, refl, sym, ◌∙◌, subst, ap, ap₂, append_assoc, All, arith}
use Rattle.std.specs.List.{AllZip}
use Rattle.std.proofs.lemmas.Bool.{cases_lt}
use Rattle.std.proofs.lemmas.List.{append-nil, length-map, get_or_append_left, get_or_push, take_more}
use Rattle.std.proofs.lemmas.Slice.Zip.{all_zipped_more}
use Rattle.vpg_guards.specs.Formula.{Formula as Guard}
use Rattle.vpg_guards.specs.Writing.{IsReadable}
use Rattle.vpg_blake.specs.Blake.{IsShort}
use Rattle.vpg_blake.specs.Sharp.{IsSharp}
use Rattle.vpg_game.specs.Edges.{GuardedEdge, join_edge, no_edge}
use Rattle.vpg_game.proofs.Joining.{join_new}
use Rattle.vpg_game.specs.Guarded.{AllGuards}
use Rattle.vpg_game.specs.Spelled.{SpelledSuccessor, SpelledEntry, named_in}
use Rattle.vpg_game.specs.Building.{AreReadable, AreLimited, IsLimited}
use Rattle.vpg_game.specs.Game.{NamedVertex, NamedGame, IsGame, AreEdges, AreVertices, Lacks, unnamed, graph_of, vertex_of, game_of, vertex_ids, priorities_of, edges_in, entry_ids, entry_priorities, joined_edges, no_vertex}
use Rattle.vpg_game.proofs.Made.{same_ids, same_priorities}
use Rattle.vpg_game.proofs.Written.{edges_ok}
use Rattle.vpg_requirement.specs.Building.{join_edges, IsAlike, IsAlikeVertex}
use Rattle.vpg_model.specs.Pairs.{AreNumbered, AreWithin}
use Rattle.vpg_model.specs.Sharpening.{EachCounts, IsSameGame, AreSharp, AreSharpSuccessors, AreSharpEntries}
use Rattle.vpg_model.proofs.Made.{edge_of, joined_same}

abbrev Edges : Type 0
Edges = List (GuardedEdge Guard)

-- ---- place by place

module _ {A B : Type 0} (R : A → B → Type 0) where
  pub zip_more : (xs : List A) (ys zs : List B) (n : ℕ) (d : A) (y : B) → n < length xs → AllZip R (take n xs) ys → R (get_or xs n d) y → zs ≡ ys ++ y ∷ [] → AllZip R (take (n + 1) xs) zs
  zip_more xs ys zs n d y lt h r made =
      subst (λ (back : List B). AllZip R (take (n + 1) xs) back) (sym made)
      (subst (λ (front : List A). AllZip R front (ys ++ y ∷ [])) (sym (take_more xs n d lt)) (all_zipped_more R (take n xs) ys (get_or xs n d) y h r))

-- ---- a vertex of a game

readable_edges : (n m : ℕ) (es : Edges) → AreEdges n m es → All (λ (e : GuardedEdge Guard). IsReadable m e.guard) es
readable_edges n m [] are k d lt = absurd (omega (arith, lt))
readable_edges n m (e ∷ es) are zero d lt = are.1
readable_edges n m (e ∷ es) are (suc k) d lt = readable_edges n m es are.3 k d (omega (arith, lt))

found : (vs : List NamedVertex) (v : ℕ) → v < length vs → get_or vs v no_vertex ≡ get_or vs v (get_or vs v no_vertex)
found [] v lt = absurd (omega (arith, lt))
found (w ∷ vs) zero lt = refl
found (w ∷ vs) (suc v) lt = found vs v (omega (arith, lt))

pub readable_at : (game : NamedGame) (v features : ℕ) (es : Edges) → IsGame game → v < length game.vertices → es ≡ (get_or game.vertices v no_vertex).edges → features ≡ game.features →
    All (λ (e : GuardedEdge Guard). IsReadable features e.guard) es
readable_at game v features es is lt same count =
    subst (λ (fs : Edges). All (λ (e : GuardedEdge Guard). IsReadable features e.guard) fs) (sym same)
    (subst (λ (m : ℕ). All (λ (e : GuardedEdge Guard). IsReadable m e.guard) (get_or game.vertices v no_vertex).edges) (sym count)
    (readable_edges (length game.vertices) game.features (get_or game.vertices v no_vertex).edges
    (edges_ok (length game.vertices) game.features game.vertices v (get_or game.vertices v no_vertex) is.each lt (found game.vertices v lt))))

pub id_at : (vs : List NamedVertex) (v id : ℕ) → v < length vs → slice_get (vertex_ids vs) v ≡ Some id → id ≡ (get_or vs v no_vertex).id
id_at [] v id lt e = absurd (omega (arith, lt))
id_at (w ∷ vs) zero id lt e = same e
  where
    same : Some w.id ≡ Some id → id ≡ w.id
    same h = cc
id_at (w ∷ vs) (suc v) id lt e = id_at vs v id (omega (arith, lt)) e

-- ---- edges whose targets differ are joined as they stand

abbrev AreApart : Edges → Type 0
AreApart [] = Unit {0}
AreApart (e ∷ es) = Lacks (map (λ (f : GuardedEdge Guard). f.to) es) e.to × AreApart es

are_apart : (n m : ℕ) (es : Edges) → AreEdges n m es → AreApart es
are_apart n m [] are = tt
are_apart n m (e ∷ es) are = (are.2, are_apart n m es are.3)

joined_apart : (seen es : Edges) → ((k : ℕ) → k < length seen → Lacks (map (λ (f : GuardedEdge Guard). f.to) es) (get_or seen k no_edge).to) → AreApart es → join_edges seen es ≡ seen ++ es
joined_apart seen [] apart are = sym (append-nil seen)
joined_apart seen (e ∷ es) apart are =
    let pushed : join_edge seen e ≡ seen ++ e ∷ [] = join_new seen e (λ k lt same. apart k lt 0 (ap (λ (n : ℕ). Some n) (sym same))) in
    ap (λ (fs : Edges). join_edges fs es) pushed ∙ joined_apart (seen ++ e ∷ []) es more are.1 ∙ append_assoc seen (e ∷ []) es
  where
    more : (k : ℕ) → k < length (seen ++ e ∷ []) → Lacks (map (λ (f : GuardedEdge Guard). f.to) es) (get_or (seen ++ e ∷ []) k no_edge).to
    more k lt = elim (cases_lt k (length seen)) [
      | inl less ↦ subst (λ (f : GuardedEdge Guard). Lacks (map (λ (g : GuardedEdge Guard). g.to) es) f.to) (sym (get_or_append_left seen (e ∷ []) no_edge k less)) (λ i. apart k less (suc i))
      | inr most ↦ (
          let here : k ≡ length seen = omega (arith, lt, most, length-append seen (e ∷ [])) in
          subst (λ (f : GuardedEdge Guard). Lacks (map (λ (g : GuardedEdge Guard). g.to) es) f.to) (sym (ap (λ (i : ℕ). get_or (seen ++ e ∷ []) i no_edge) here ∙ get_or_push seen e no_edge (length seen) refl)) are.0)
    ]

-- ---- successors

module _ (features : ℕ) where
  same_targets : (es : Edges) (ss : List SpelledSuccessor) → AreSharpSuccessors features es ss → map (λ (f : GuardedEdge Guard). f.to) (map edge_of ss) ≡ map (λ (f : GuardedEdge Guard). f.to) es
  same_targets [] [] h = refl
  same_targets [] (s ∷ ss) h = absurd h
  same_targets (e ∷ es) [] h = absurd h
  same_targets (e ∷ es) (s ∷ ss) h = ap₂ {C = List ℕ} (λ (n : ℕ) (ns : List ℕ). n ∷ ns) h.0.to (same_targets es ss h.1)

  still_apart : (es : Edges) (ss : List SpelledSuccessor) → AreSharpSuccessors features es ss → AreApart es → AreApart (map edge_of ss)
  still_apart [] [] h are = tt
  still_apart [] (s ∷ ss) h are = absurd h
  still_apart (e ∷ es) [] h are = absurd h
  still_apart (e ∷ es) (s ∷ ss) h are = (
    subst (λ (ns : List ℕ). Lacks ns s.id) (sym (same_targets es ss h.1)) (subst (λ (n : ℕ). Lacks (map (λ (f : GuardedEdge Guard). f.to) es) n) (sym h.0.to) are.0),
    still_apart es ss h.1 are.1,
  )

  inside : (n m : ℕ) (es : Edges) (ss : List SpelledSuccessor) → AreSharpSuccessors features es ss → AreEdges n m es → All (λ (s : SpelledSuccessor). s.id < n) ss
  inside n m [] [] h are k d lt = absurd (omega (arith, lt))
  inside n m [] (s ∷ ss) h are k d lt = absurd h
  inside n m (e ∷ es) [] h are k d lt = absurd h
  inside n m (e ∷ es) (s ∷ ss) h are zero d lt = omega (arith, h.0.to, are.0)
  inside n m (e ∷ es) (s ∷ ss) h are (suc k) d lt = inside n m es ss h.1 are.3 k d (omega (arith, lt))

  alike : (es : Edges) (ss : List SpelledSuccessor) → AreSharpSuccessors features es ss → AllZip (IsAlike EachCounts) es (map edge_of ss)
  alike [] [] h = tt
  alike [] (s ∷ ss) h = absurd h
  alike (e ∷ es) [] h = absurd h
  alike (e ∷ es) (s ∷ ss) h = (record { to = h.0.to; guard = λ set counts. h.0.same set }, alike es ss h.1)

  sharp : (es : Edges) (ss : List SpelledSuccessor) → AreSharpSuccessors features es ss → All (λ (e : GuardedEdge Guard). IsShort features e.guard → IsSharp e.guard) (map edge_of ss)
  sharp [] [] h k d lt = absurd (omega (arith, lt))
  sharp [] (s ∷ ss) h k d lt = absurd h
  sharp (e ∷ es) [] h k d lt = absurd h
  sharp (e ∷ es) (s ∷ ss) h zero d lt = h.0.sharp
  sharp (e ∷ es) (s ∷ ss) h (suc k) d lt = sharp es ss h.1 k d (omega (arith, lt))

  readable : (es : Edges) (ss : List SpelledSuccessor) → AreSharpSuccessors features es ss → AreReadable features ss
  readable [] [] h = tt
  readable [] (s ∷ ss) h = absurd h
  readable (e ∷ es) [] h = absurd h
  readable (e ∷ es) (s ∷ ss) h = (h.0.readable, readable es ss h.1)

  as_many : (es : Edges) (ss : List SpelledSuccessor) → AreSharpSuccessors features es ss → length ss ≡ length es
  as_many [] [] h = refl
  as_many [] (s ∷ ss) h = absurd h
  as_many (e ∷ es) [] h = absurd h
  as_many (e ∷ es) (s ∷ ss) h = ap suc (as_many es ss h.1)

  -- what they are joined to
  made_edges : (ids : List ℕ) (n m : ℕ) (es : Edges) (ss : List SpelledSuccessor) → AreNumbered ids → length ids ≡ n → AreEdges n m es → AreSharpSuccessors features es ss → joined_edges ids [] ss ≡ map edge_of ss
  made_edges ids n m es ss numbered count are h =
      joined_same ids [] ss numbered (subst (λ (k : ℕ). All (λ (s : SpelledSuccessor). s.id < k) ss) (sym count) (inside n m es ss h are))
      ∙ joined_apart [] (map edge_of ss) (λ k lt. absurd (omega (arith, lt))) (still_apart es ss h (are_apart n m es are))

  -- ---- entries

  entry_ids_are : (vs : List NamedVertex) (entries : List SpelledEntry) → AreSharpEntries features vs entries → entry_ids entries ≡ vertex_ids vs
  entry_ids_are [] [] h = refl
  entry_ids_are [] (e ∷ entries) h = absurd h
  entry_ids_are (v ∷ vs) [] h = absurd h
  entry_ids_are (v ∷ vs) (e ∷ entries) h = ap₂ {C = List ℕ} (λ (n : ℕ) (ns : List ℕ). n ∷ ns) h.0.id (entry_ids_are vs entries h.1)

  entry_priorities_are : (vs : List NamedVertex) (entries : List SpelledEntry) → AreSharpEntries features vs entries → entry_priorities entries ≡ priorities_of vs
  entry_priorities_are [] [] h = refl
  entry_priorities_are [] (e ∷ entries) h = absurd h
  entry_priorities_are (v ∷ vs) [] h = absurd h
  entry_priorities_are (v ∷ vs) (e ∷ entries) h = ap₂ {C = List ℕ} (λ (n : ℕ) (ns : List ℕ). n ∷ ns) h.0.priority (entry_priorities_are vs entries h.1)

  as_many_entries : (vs : List NamedVertex) (entries : List SpelledEntry) → AreSharpEntries features vs entries → length entries ≡ length vs
  as_many_entries [] [] h = refl
  as_many_entries [] (e ∷ entries) h = absurd h
  as_many_entries (v ∷ vs) [] h = absurd h
  as_many_entries (v ∷ vs) (e ∷ entries) h = ap suc (as_many_entries vs entries h.1)

  as_many_named : (vs : List NamedVertex) (entries : List SpelledEntry) → AreSharpEntries features vs entries → named_in entries ≡ edges_in vs
  as_many_named [] [] h = refl
  as_many_named [] (e ∷ entries) h = absurd h
  as_many_named (v ∷ vs) [] h = absurd h
  as_many_named (v ∷ vs) (e ∷ entries) h = ap₂ (λ (m n : ℕ). m + n) (as_many v.edges e.successors h.0.successors) (as_many_named vs entries h.1)

  limited : (n : ℕ) (vs : List NamedVertex) (entries : List SpelledEntry) → AreVertices n features vs → All (λ p. p < 65536) (priorities_of vs) → AreSharpEntries features vs entries → AreLimited features entries
  limited n [] [] are low h = tt
  limited n [] (e ∷ entries) are low h = absurd h
  limited n (v ∷ vs) [] are low h = absurd h
  limited n (v ∷ vs) (e ∷ entries) are low h = (
    subst (λ (k : ℕ). k < 2 ^ 32) (sym h.0.id) are.0,
    omega (arith, h.0.priority, low 0 0 (omega arith)),
    readable v.edges e.successors h.0.successors,
    limited n vs entries are.3 (λ k d lt. low (suc k) d (omega (arith, lt))) h.1,
  )

  alike_vertices : (ids : List ℕ) (n : ℕ) (vs : List NamedVertex) (entries : List SpelledEntry) → AreNumbered ids → length ids ≡ n → AreVertices n features vs → AreSharpEntries features vs entries →
      AllZip (IsAlikeVertex EachCounts) (map unnamed vs) (map unnamed (map (vertex_of ids) entries))
  alike_vertices ids n [] [] numbered count are h = tt
  alike_vertices ids n [] (e ∷ entries) numbered count are h = absurd h
  alike_vertices ids n (v ∷ vs) [] numbered count are h = absurd h
  alike_vertices ids n (v ∷ vs) (e ∷ entries) numbered count are h = (
    record {
      owner = h.0.owner;
      priority = h.0.priority;
      edges = subst (λ (fs : Edges). AllZip (IsAlike EachCounts) v.edges fs) (sym (made_edges ids n features v.edges e.successors numbered count are.2 h.0.successors)) (alike v.edges e.successors h.0.successors);
    },
    alike_vertices ids n vs entries numbered count are.3 h.1,
  )

  sharp_vertices : (ids : List ℕ) (n : ℕ) (vs : List NamedVertex) (entries : List SpelledEntry) → AreNumbered ids → length ids ≡ n → AreVertices n features vs → AreSharpEntries features vs entries →
      AllGuards (λ g. IsShort features g → IsSharp g) (map unnamed (map (vertex_of ids) entries))
  sharp_vertices ids n [] [] numbered count are h k d lt = absurd (omega (arith, lt))
  sharp_vertices ids n [] (e ∷ entries) numbered count are h k d lt = absurd h
  sharp_vertices ids n (v ∷ vs) [] numbered count are h k d lt = absurd h
  sharp_vertices ids n (v ∷ vs) (e ∷ entries) numbered count are h zero d lt =
      subst (λ (fs : Edges). All (λ (f : GuardedEdge Guard). IsShort features f.guard → IsSharp f.guard) fs) (sym (made_edges ids n features v.edges e.successors numbered count are.2 h.0.successors))
      (sharp v.edges e.successors h.0.successors)
  sharp_vertices ids n (v ∷ vs) (e ∷ entries) numbered count are h (suc k) d lt = sharp_vertices ids n vs entries numbered count are.3 h.1 k d (omega (arith, lt))

-- ---- the game

module _ (game : NamedGame) (entries : List SpelledEntry) (is : IsGame game) (numbered : AreNumbered (vertex_ids game.vertices)) (h : AreSharpEntries game.features game.vertices entries) where
  numbered_entries : AreNumbered (entry_ids entries)
  numbered_entries = subst AreNumbered (sym (entry_ids_are game.features game.vertices entries h)) numbered

  count : length (entry_ids entries) ≡ length game.vertices
  count = length-map entries (λ (e : SpelledEntry). e.id) ∙ as_many_entries game.features game.vertices entries h

  pub are_limited : AreWithin (priorities_of game.vertices) → IsLimited game.features entries
  are_limited within = record {
    some = omega (arith, as_many_entries game.features game.vertices entries h, is.some);
    few = omega (arith, as_many_entries game.features game.vertices entries h, is.few);
    few_successors = omega (arith, as_many_named game.features game.vertices entries h, is.few_edges);
    few_features = is.few_features;
    each = limited game.features (length game.vertices) game.vertices entries is.each within.0 h;
  }

  pub same_game : IsSameGame (graph_of game) (graph_of (game_of game.features entries))
  same_game = alike_vertices game.features (entry_ids entries) (length game.vertices) game.vertices entries numbered_entries count is.each h

  pub sharp_game : AreSharp game.features (graph_of (game_of game.features entries))
  sharp_game = sharp_vertices game.features (entry_ids entries) (length game.vertices) game.vertices entries numbered_entries count is.each h

  pub ids_kept : vertex_ids (game_of game.features entries).vertices ≡ vertex_ids game.vertices
  ids_kept = same_ids (entry_ids entries) entries ∙ entry_ids_are game.features game.vertices entries h

  pub priorities_kept : priorities_of (game_of game.features entries).vertices ≡ priorities_of game.vertices
  priorities_kept = same_priorities (entry_ids entries) entries ∙ entry_priorities_are game.features game.vertices entries h

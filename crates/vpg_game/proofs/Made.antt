-- Entries that are within the limits and sound make a game.
use Rattle.std.proofs.Common.{◌≡◌, ℕ, zero, suc, ◌+◌, ◌<◌, ◌≤◌, ◌^◌, Bool, true, false, cond, List, [], ◌∷◌, ◌++◌, length, map, take, get_or, Option, Some, None, slice_get, refl, sym, ap, subst, ◌∙◌, arith}
use Rattle.std.specs.Prelude.{◌==◌, not, SomeIff}
use Rattle.vpg_game.specs.Levels.{top_of, levels_of}
use Rattle.std.proofs.lemmas.Bool.{eq-eqb}
use Rattle.std.proofs.lemmas.List.{length-map, take_more, get_or-map}
use Rattle.vpg_guards.specs.Formula.{Formula}
use Rattle.vpg_guards.specs.Grammar.{either}
use Rattle.vpg_guards.specs.Writing.{IsReadable}
use Rattle.vpg_guards.proofs.LawProofs.{disjunctions_are_readable}
use Rattle.vpg_guards.proofs.Readable.{spelled_readable}
use Rattle.vpg_game.specs.Spelled.{SpelledSuccessor, SpelledEntry, named_in}
use Rattle.vpg_game.specs.Grammar.{Bracket, Successors, one, comma, Entry, IsBracket, AreSuccessors, AreAllSuccessors, AreEntries, successors_of, all_successors_of, bracket_guard, entry_of, entries_of, SpellsEntries}
use Rattle.vpg_game.specs.Edges.{GuardedEdge, join_edge}
use Rattle.vpg_game.specs.Game.{NamedVertex, IsGame, AreEdges, AreVertices, edges_in, vertex_ids, priorities_of, vertex_of, game_of, entry_ids, entry_priorities, joined_edges, place_of, Lacks, AllHeld, AllFound, AreDistinct, AreSound, IsNarrow}
use Rattle.vpg_game.specs.Building.{AreReadable, AreLimited, IsLimited}

-- ---- entries that were read are within the limits

bracket_readable : (names : List (List ℕ)) (b : Option Bracket) → IsBracket names b → IsReadable (length names) (bracket_guard b)
bracket_readable names None ok = record { guard = tt; below = tt; nested = omega arith }
bracket_readable names (Some b) ok = spelled_readable names b.inside b.guard ok.spells

successors_readable : (names : List (List ℕ)) (ss : Successors) → AreSuccessors names ss → AreReadable (length names) (successors_of ss)
successors_readable names (one s) ok = (bracket_readable names s.bracket ok.bracket, tt)
successors_readable names (comma s blanks more) ok = (bracket_readable names s.bracket ok.0.bracket, successors_readable names more ok.2)

all_readable : (names : List (List ℕ)) (tree : Option Successors) → AreAllSuccessors names tree → AreReadable (length names) (all_successors_of tree)
all_readable names None ok = tt
all_readable names (Some ss) ok = successors_readable names ss ok.0

entries_limited : (names : List (List ℕ)) (es : List Entry) → AreEntries names es → AreLimited (length names) (entries_of es)
entries_limited names [] ok = tt
entries_limited names (e ∷ es) ok = (ok.0.id.1, ok.0.priority.1, all_readable names e.successors ok.0.successors, entries_limited names es ok.1)

pub spelled_limited : (names : List (List ℕ)) (text : List ℕ) (es : List SpelledEntry) → length names ≤ 512 → SpellsEntries names text es → IsLimited (length names) es
spelled_limited names text es few s =
    let f = s.file in
    let w = s.well_formed in
    let each : AreLimited (length names) (entry_of f.first ∷ entries_of f.entries) = (w.first.id.1, w.first.priority.1, all_readable names f.first.successors w.first.successors, entries_limited names f.entries w.entries) in
    record {
      some = omega (arith, ap length s.stands);
      few = s.few_entries;
      few_successors = s.few_successors;
      few_features = few;
      each = subst (AreLimited (length names)) s.stands each;
    }

-- ---- edges

place_within : (ids : List ℕ) (id i : ℕ) → slice_get ids i ≡ Some id → place_of ids id < length ids
place_within [] id i e = absurd cc
place_within (k ∷ ids) id zero e = let same : id ≡ k = cc in let t = eq-eqb id k same in rw t (omega arith)
place_within (k ∷ ids) id (suc i) e = go (id == k) (place_within ids id i e)
  where
    go : (t : Bool) → place_of ids id < length ids → cond (not t) (1 + place_of ids id) 0 < suc (length ids)
    go true lt = omega arith
    go false lt = omega arith

join_length : (es : List (GuardedEdge Formula)) (e : GuardedEdge Formula) → length (join_edge es e) ≤ suc (length es)
join_length [] e = omega arith
join_length (f ∷ fs) e = go (f.to == e.to) (join_length fs e)
  where
    go : (b : Bool) → length (join_edge fs e) ≤ suc (length fs) → length (cond b (record { to = f.to; guard = either f.guard e.guard } ∷ fs) (f ∷ join_edge fs e)) ≤ suc (suc (length fs))
    go true le = omega arith
    go false le = omega arith

joined_length : (ids : List ℕ) (es : List (GuardedEdge Formula)) (ss : List SpelledSuccessor) → length (joined_edges ids es ss) ≤ length es + length ss
joined_length ids es [] = omega arith
joined_length ids es (s ∷ ss) =
    let e : GuardedEdge Formula = record { to = place_of ids s.id; guard = s.guard } in
    omega (arith, joined_length ids (join_edge es e) ss, join_length es e)

targets : List (GuardedEdge Formula) → List ℕ
targets es = map (λ (f : GuardedEdge Formula). f.to) es

join_lacks : (es : List (GuardedEdge Formula)) (e : GuardedEdge Formula) (to : ℕ) → Lacks (map (λ (f : GuardedEdge Formula). f.to) es) to → (e.to ≡ to → ⊥) → Lacks (map (λ (f : GuardedEdge Formula). f.to) (join_edge es e)) to
join_lacks [] e to lacks ne zero h = ne cc
join_lacks [] e to lacks ne (suc i) h = absurd cc
join_lacks (f ∷ fs) e to lacks ne j h = go (f.to == e.to) (join_lacks fs e to (λ i. lacks (suc i)) ne) j h
  where
    go : (b : Bool) → Lacks (map (λ (f : GuardedEdge Formula). f.to) (join_edge fs e)) to → Lacks (map (λ (f : GuardedEdge Formula). f.to) (cond b (record { to = f.to; guard = either f.guard e.guard } ∷ fs) (f ∷ join_edge fs e))) to
    go true rest i h = lacks i h
    go false rest zero h = lacks zero h
    go false rest (suc i) h = rest i h

join_edges : (n m : ℕ) (es : List (GuardedEdge Formula)) (e : GuardedEdge Formula) → AreEdges n m es → e.to < n → IsReadable m e.guard → AreEdges n m (join_edge es e)
join_edges n m [] e are lt ok = (lt, ok, (λ i h. absurd cc), tt)
join_edges n m (f ∷ fs) e are lt ok = go (f.to == e.to) refl (join_edges n m fs e are.3 lt ok)
  where
    go : (b : Bool) → (f.to == e.to) ≡ b → AreEdges n m (join_edge fs e) → AreEdges n m (cond b (record { to = f.to; guard = either f.guard e.guard } ∷ fs) (f ∷ join_edge fs e))
    go true is rest = (are.0, disjunctions_are_readable m f.guard e.guard are.1 ok, are.2, are.3)
    go false is rest = (are.0, are.1, join_lacks fs e f.to are.2 (λ same. let t = eq-eqb f.to e.to (sym same) in cc), rest)

joined_are : (n m : ℕ) (ids : List ℕ) (es : List (GuardedEdge Formula)) (ss : List SpelledSuccessor) → length ids ≡ n → AreEdges n m es → AllHeld ids ss → AreReadable m ss → AreEdges n m (joined_edges ids es ss)
joined_are n m ids es [] len are held ok = are
joined_are n m ids es (s ∷ ss) len are held ok =
    let e : GuardedEdge Formula = record { to = place_of ids s.id; guard = s.guard } in
    joined_are n m ids (join_edge es e) ss len (join_edges n m es e are (omega (arith, place_within ids s.id held.0.0 held.0.1)) ok.0) held.1 ok.1

-- ---- vertices

vertices_are : (n m : ℕ) (ids : List ℕ) (es : List SpelledEntry) → length ids ≡ n → AllFound ids es → AreLimited m es → AreVertices n m (map (vertex_of ids) es)
vertices_are n m ids [] len found ok = tt
vertices_are n m ids (e ∷ es) len found ok = (ok.0, omega (arith, ok.1), joined_are n m ids [] e.successors len tt found.0 ok.2, vertices_are n m ids es len found.1 ok.3)

few_edges : (ids : List ℕ) (es : List SpelledEntry) → edges_in (map (vertex_of ids) es) ≤ named_in es
few_edges ids [] = omega arith
few_edges ids (e ∷ es) = omega (arith, joined_length ids [] e.successors, few_edges ids es)

pub same_ids : (ids : List ℕ) (es : List SpelledEntry) → vertex_ids (map (vertex_of ids) es) ≡ entry_ids es
same_ids ids [] = refl
same_ids ids (e ∷ es) = ap (λ (ks : List ℕ). e.id ∷ ks) (same_ids ids es)

pub same_priorities : (ids : List ℕ) (es : List SpelledEntry) → priorities_of (map (vertex_of ids) es) ≡ entry_priorities es
same_priorities ids [] = refl
same_priorities ids (e ∷ es) = ap (λ (ks : List ℕ). e.priority ∷ ks) (same_priorities ids es)

-- sound entries within the limits make a game
pub is_made : (m : ℕ) (es : List SpelledEntry) → IsLimited m es → AreSound es → IsGame (game_of m es)
is_made m es ok sound =
    let ids : List ℕ = entry_ids es in
    let vs : List NamedVertex = map (vertex_of ids) es in
    let count : length vs ≡ length es = length-map es (vertex_of ids) in
    let width : length ids ≡ length es = length-map es (λ (e : SpelledEntry). e.id) in
    record {
      some = omega (arith, count, ok.some);
      few = omega (arith, count, ok.few);
      few_edges = omega (arith, few_edges ids es, ok.few_successors);
      few_features = ok.few_features;
      each = vertices_are (length vs) m ids es (width ∙ sym count) sound.found ok.each;
      distinct = subst AreDistinct (sym (same_ids ids es)) sound.distinct;
      narrow = subst IsNarrow (sym (same_priorities ids es)) sound.narrow;
    }

pub limited_at : (m : ℕ) (es : List SpelledEntry) (i : ℕ) (e : SpelledEntry) → AreLimited m es → i < length es → e ≡ get_or es i e → e.priority < 65536
limited_at m [] i e ok lt is = absurd (omega arith)
limited_at m (f ∷ es) zero e ok lt is = subst (λ (g : SpelledEntry). g.priority < 65536) (sym is) ok.1
limited_at m (f ∷ es) (suc i) e ok lt is = limited_at m es i e ok.3 (omega arith) is

pub priority_at : (es : List SpelledEntry) (i : ℕ) (e : SpelledEntry) → i < length es → e ≡ get_or es i e → take (i + 1) (entry_priorities es) ≡ take i (entry_priorities es) ++ e.priority ∷ []
priority_at es i e lt is =
    let within : i < length (entry_priorities es) = omega (arith, length-map es (λ (x : SpelledEntry). x.priority)) in
    take_more (entry_priorities es) i 0 within
    ∙ ap (λ (p : ℕ). take i (entry_priorities es) ++ p ∷ []) (get_or-map (λ (x : SpelledEntry). x.priority) es i e 0 lt ∙ ap (λ (x : SpelledEntry). x.priority) (sym is))

-- what a search found, and what it did not find
pub some_is : {T : Type 0} (o : Option T) (x : T) (P : Type 0) (v : T) → o ≡ Some x → SomeIff o P v → P × (x ≡ v)
some_is None x P v e h = absurd cc
some_is (Some y) x P v e h = let same : y ≡ x = cc in (h.0, sym same ∙ h.1)

pub none_not : {T : Type 0} (o : Option T) (P : Type 0) (v : T) → o ≡ None → SomeIff o P v → P → ⊥
none_not None P v e h p = h p
none_not (Some y) P v e h p = absurd cc

some_top : (o : Option ℕ) (t limit v : ℕ) → o ≡ Some t → SomeIff o (v ≤ limit) v → (v ≤ limit) × (t ≡ v)
some_top None t limit v e h = absurd cc
some_top (Some s) t limit v e h = let same : s ≡ t = cc in (h.0, sym same ∙ h.1)

-- a top that was found within the limit
pub top_found : (o : Option ℕ) (t : ℕ) (ps qs : List ℕ) → o ≡ Some t → SomeIff o (top_of (levels_of ps) ≤ 4611686018427387904) (top_of (levels_of ps)) → ps ≡ qs → (top_of (levels_of qs) ≤ 2 ^ 62) × (t ≡ top_of (levels_of qs))
top_found o t ps qs e h same = subst (λ (rs : List ℕ). (top_of (levels_of rs) ≤ 2 ^ 62) × (t ≡ top_of (levels_of rs))) same (some_top o t 4611686018427387904 (top_of (levels_of ps)) e h)

pub made_sound : (es : List SpelledEntry) (keys : List ℕ) → keys ≡ entry_ids es → AreDistinct keys → AllFound keys es → IsNarrow (entry_priorities es) → AreSound es
made_sound es keys are distinct found narrow = record { distinct = subst AreDistinct are distinct; found = subst (λ (ks : List ℕ). AllFound ks es) are found; narrow = narrow }

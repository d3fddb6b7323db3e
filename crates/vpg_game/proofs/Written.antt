-- What is written spells the game.
use Rattle.std.proofs.Common.{◌≡◌, ℕ, zero, suc, ◌+◌, ◌<◌, ◌≤◌, ◌^◌, Bool, true, false, List, [], ◌∷◌, ◌++◌, length, map, get_or, Option, Some, None, slice_get, codes, All, refl, sym, ap, ap₂, subst, ◌∙◌, inl, inr, arith, append_assoc}
use Rattle.std.specs.Prelude.{◌==◌, ◌&&◌, not, decimal, slice_index_or}
use Rattle.std.specs.List.{list_all}
use Rattle.std.specs.Char.{is_ascii_digit}
use Rattle.std.specs.Int.{IsInRange}
use Rattle.std.specs.Str.Parse.{AllDigits}
use Rattle.std.proofs.lemmas.Bool.{cases_lt}
use Rattle.std.proofs.lemmas.Bool.Decides.{nat_tests}
use Rattle.vpg_features.proofs.Held.{both_true}
use Rattle.std.proofs.lemmas.Fmt.{decimal_is_IsNumeral}
use Rattle.std.proofs.lemmas.Str.Parse.{digit_from_value}
use Rattle.std.proofs.lemmas.List.{append-nil, length-map, get_or-map, get_or_append_left, get_or_push, length-append}
use Rattle.std.proofs.lemmas.List.Folds.{list_all-append}
use Rattle.std.proofs.lemmas.Option.{slice_get-get_or}
use Rattle.vpg_guards.specs.Formula.{Formula, Parts, always, never, feature, negation, all, any, no_parts, part, is_any}
use Rattle.vpg_features.specs.Names.{AreNames, EachIsName, is_name_byte}
use Rattle.vpg_guards.specs.Grammar.{AreBlank}
use Rattle.vpg_guards.specs.Writing.{guard_text, all_text, any_text, more_all_text, more_any_text, enclosed_if, is_group, IsReadable}
use Rattle.vpg_guards.proofs.LawProofs.{writings_spell_the_guard}
use Rattle.vpg_sides.specs.declared.player.Player.{Player}
use Rattle.vpg_sides.specs.declared.player.Player.TheVariants.{Even, Odd}
use Rattle.vpg_game.specs.Edges.{GuardedEdge, join_edge, no_edge}
use Rattle.vpg_game.proofs.Joining.{join_new}
use Rattle.vpg_game.specs.Spelled.{SpelledSuccessor, SpelledEntry, named_in}
use Rattle.vpg_game.specs.Grammar.{Number, Bracket, Successor, Successors, one, comma, Entry, File, bracket_text, successor_text, successors_text, all_successors_text, entry_text, entries_text, file_text, IsNumber, IsNumberBelow, IsBracket, EnclosesGuard, IsSuccessor, AreSuccessors, AreAllSuccessors, IsEntry, AreEntries, AreOther, number_value, player_of, first_successor, IsApart, bracket_guard, successor_of, successors_of, all_successors_of, entry_of, entries_of, SpellsEntries}
use Rattle.vpg_game.specs.Game.{NamedVertex, NamedGame, IsGame, AreEdges, AreVertices, AreDistinct, AllHeld, AllFound, Lacks, IsNarrow, IsAtLimit, SpellsGame, no_vertex, vertex_ids, priorities_of, edges_in, entry_ids, entry_priorities, place_of, joined_edges, vertex_of}
use Rattle.vpg_game.specs.Writing.{guard_part, target_id, edge_text, edges_behind, owner_digit, vertex_text, vertices_text, greatest, game_text}
use Rattle.vpg_game.proofs.Build.{index_held}
use Rattle.vpg_game.proofs.DualGames.{all_below}

-- ---- an edge among edges, a vertex among vertices

pub edge_ok : (n m : ℕ) (es : List (GuardedEdge Formula)) (i : ℕ) (e : GuardedEdge Formula) → AreEdges n m es → i < length es → e ≡ get_or es i e → (e.to < n) × IsReadable m e.guard
edge_ok n m [] i e are lt is = absurd (omega arith)
edge_ok n m (f ∷ es) zero e are lt is = subst (λ (x : GuardedEdge Formula). (x.to < n) × IsReadable m x.guard) (sym is) (are.0, are.1)
edge_ok n m (f ∷ es) (suc i) e are lt is = edge_ok n m es i e are.3 (omega arith) is

pub edges_ok : (n m : ℕ) (vs : List NamedVertex) (i : ℕ) (v : NamedVertex) → AreVertices n m vs → i < length vs → v ≡ get_or vs i v → AreEdges n m v.edges
edges_ok n m [] i v are lt is = absurd (omega arith)
edges_ok n m (w ∷ vs) zero v are lt is = subst (λ (x : NamedVertex). AreEdges n m x.edges) (sym is) are.2
edges_ok n m (w ∷ vs) (suc i) v are lt is = edges_ok n m vs i v are.3 (omega arith) is

id_below : (n m : ℕ) (vs : List NamedVertex) (i : ℕ) → AreVertices n m vs → i < length vs → (get_or vs i no_vertex).id < 2 ^ 32
id_below n m [] i are lt = absurd (omega arith)
id_below n m (v ∷ vs) zero are lt = are.0
id_below n m (v ∷ vs) (suc i) are lt = id_below n m vs i are.3 (omega arith)

greatest_below : (n m : ℕ) (vs : List NamedVertex) → AreVertices n m vs → greatest (vertex_ids vs) < 2 ^ 32
greatest_below n m [] are = omega arith
greatest_below n m (v ∷ vs) are = omega (arith, are.0, greatest_below n m vs are.3)

-- ---- numbers

digit_ascii : (c : ℕ) → IsInRange 48 57 c → is_ascii_digit c ≡ true
digit_ascii c h = grind (arith, nat_tests)

digits_ascii : (ds : List ℕ) → AllDigits 10 ds → list_all is_ascii_digit ds ≡ true
digits_ascii [] h = refl
digits_ascii (d ∷ ds) h = ap₂ (λ a b. a && b) (digit_ascii d (digit_from_value d h.0)) (digits_ascii ds h.1)

-- a number as it is written, behind these bytes
abbrev written : List ℕ → ℕ → Number
written before n = record { before = before; digits = decimal n }

written_value : (before : List ℕ) (n : ℕ) → n < 2 ^ 32 → number_value (written before n) ≡ n
written_value before n lt = (decimal_is_IsNumeral n (omega arith)).1

written_formed : (before : List ℕ) (n : ℕ) → AreBlank before → n < 2 ^ 32 → IsNumber (written before n)
written_formed before n blank lt =
    let numeral = decimal_is_IsNumeral n (omega arith) in
    record { blank = blank; some = numeral.0.0; digits = digits_ascii (decimal n) numeral.0.1 }

written_below : (limit : ℕ) (before : List ℕ) (n : ℕ) → AreBlank before → n < 2 ^ 32 → n < limit → IsNumberBelow limit (written before n)
written_below limit before n blank lt below = (written_formed before n blank lt, omega (arith, written_value before n lt))

abbrev owner_number : Player → Number
owner_number p = record { before = 32 ∷ []; digits = owner_digit p ∷ [] }

owner_below : (p : Player) → IsNumberBelow 2 (owner_number p)
owner_below Even = (record { blank = refl; some = omega arith; digits = refl }, omega arith)
owner_below Odd = (record { blank = refl; some = omega arith; digits = refl }, omega arith)

owner_value : (p : Player) → player_of (number_value (owner_number p)) ≡ p
owner_value Even = refl
owner_value Odd = refl

-- ---- no `]` in a guard

others_append : (xs ys : List ℕ) → AreOther 93 xs → AreOther 93 ys → AreOther 93 (xs ++ ys)
others_append xs ys x y = list_all-append (λ b. not (b == 93)) xs ys ∙ ap₂ (λ a b. a && b) x y

name_byte_other : (b : ℕ) → is_name_byte b ≡ true → not (b == 93) ≡ true
name_byte_other b e = grind (arith, nat_tests)

name_others : (name : List ℕ) → list_all is_name_byte name ≡ true → AreOther 93 name
name_others [] e = refl
name_others (b ∷ name) e = let h = both_true (is_name_byte b) (list_all is_name_byte name) e in ap₂ (λ x y. x && y) (name_byte_other b h.0) (name_others name h.1)

feature_others : (names : List (List ℕ)) (f : ℕ) → EachIsName names → AreOther 93 (slice_index_or names f [])
feature_others [] f each = refl
feature_others (name ∷ names) zero each = name_others name each.0.bytes
feature_others (name ∷ names) (suc f) each = feature_others names f each.1

enclosed_others : (b : Bool) (text : List ℕ) → AreOther 93 text → AreOther 93 (enclosed_if b text)
enclosed_others true text h = others_append text (41 ∷ []) h refl
enclosed_others false text h = h

module _ (names : List (List ℕ)) (each : EachIsName names) where
  mutual
    pub guard_others : (g : Formula) → AreOther 93 (guard_text names g)
    guard_others always = refl
    guard_others never = refl
    guard_others (feature f) = feature_others names f each
    guard_others (negation g) = enclosed_others (is_group g) (guard_text names g) (guard_others g)
    guard_others (all gs) = all_others gs
    guard_others (any gs) = any_others gs

    all_others : (gs : Parts) → AreOther 93 (all_text names gs)
    all_others no_parts = refl
    all_others (part g gs) = others_append (enclosed_if (is_any g) (guard_text names g)) (more_all_text names gs) (enclosed_others (is_any g) (guard_text names g) (guard_others g)) (more_all_others gs)

    more_all_others : (gs : Parts) → AreOther 93 (more_all_text names gs)
    more_all_others no_parts = refl
    more_all_others (part g gs) =
        others_append (enclosed_if (is_any g) (guard_text names g)) (more_all_text names gs) (enclosed_others (is_any g) (guard_text names g) (guard_others g)) (more_all_others gs)

    any_others : (gs : Parts) → AreOther 93 (any_text names gs)
    any_others no_parts = refl
    any_others (part g gs) = others_append (guard_text names g) (more_any_text names gs) (guard_others g) (more_any_others gs)

    more_any_others : (gs : Parts) → AreOther 93 (more_any_text names gs)
    more_any_others no_parts = refl
    more_any_others (part g gs) = others_append (guard_text names g) (more_any_text names gs) (guard_others g) (more_any_others gs)

-- ---- edges

abbrev bracket_of : List (List ℕ) → Formula → Option Bracket
bracket_of names always = None
bracket_of names never = Some (record { before = []; inside = guard_text names never; guard = never })
bracket_of names (feature f) = Some (record { before = []; inside = guard_text names (feature f); guard = feature f })
bracket_of names (negation g) = Some (record { before = []; inside = guard_text names (negation g); guard = negation g })
bracket_of names (all gs) = Some (record { before = []; inside = guard_text names (all gs); guard = all gs })
bracket_of names (any gs) = Some (record { before = []; inside = guard_text names (any gs); guard = any gs })

bracket_guard_is : (names : List (List ℕ)) (g : Formula) → bracket_guard (bracket_of names g) ≡ g
bracket_guard_is names always = refl
bracket_guard_is names never = refl
bracket_guard_is names (feature f) = refl
bracket_guard_is names (negation g) = refl
bracket_guard_is names (all gs) = refl
bracket_guard_is names (any gs) = refl

bracket_text_is : (names : List (List ℕ)) (g : Formula) (rest : List ℕ) → guard_part names g ++ rest ≡ bracket_text (bracket_of names g) rest
bracket_text_is names always rest = refl
bracket_text_is names never rest = refl
bracket_text_is names (feature f) rest = ap (λ (t : List ℕ). 91 ∷ t) (append_assoc (guard_text names (feature f)) (93 ∷ []) rest)
bracket_text_is names (negation g) rest = ap (λ (t : List ℕ). 91 ∷ t) (append_assoc (guard_text names (negation g)) (93 ∷ []) rest)
bracket_text_is names (all gs) rest = ap (λ (t : List ℕ). 91 ∷ t) (append_assoc (guard_text names (all gs)) (93 ∷ []) rest)
bracket_text_is names (any gs) rest = ap (λ (t : List ℕ). 91 ∷ t) (append_assoc (guard_text names (any gs)) (93 ∷ []) rest)

module _ (names : List (List ℕ)) (are : AreNames names) where
  encloses : (g : Formula) → IsReadable (length names) g → EnclosesGuard names (record { before = []; inside = guard_text names g; guard = g })
  encloses g ok = record { blank = refl; closed = guard_others names are.each g; spells = writings_spell_the_guard names g ok }

  bracket_formed : (g : Formula) → IsReadable (length names) g → IsBracket names (bracket_of names g)
  bracket_formed always ok = tt
  bracket_formed never ok = encloses never ok
  bracket_formed (feature f) ok = encloses (feature f) ok
  bracket_formed (negation g) ok = encloses (negation g) ok
  bracket_formed (all gs) ok = encloses (all gs) ok
  bracket_formed (any gs) ok = encloses (any gs) ok

module _ (names : List (List ℕ)) (vs : List NamedVertex) where
  abbrev successor_tree : List ℕ → GuardedEdge Formula → Successor
  successor_tree before e = record { target = written before (target_id vs e); bracket = bracket_of names e.guard }

  abbrev successors_tree : List ℕ → GuardedEdge Formula → List (GuardedEdge Formula) → Successors
  successors_tree before e [] = one (successor_tree before e)
  successors_tree before e (f ∷ es) = comma (successor_tree before e) [] (successors_tree [] f es)

  edge_text_is : (before : List ℕ) (e : GuardedEdge Formula) (more rest : List ℕ) → before ++ ((edge_text names vs e ++ more) ++ rest) ≡ successor_text (successor_tree before e) (more ++ rest)
  edge_text_is before e more rest =
      ap (λ (t : List ℕ). before ++ t)
      (append_assoc (edge_text names vs e) more rest
      ∙ append_assoc (decimal (target_id vs e)) (guard_part names e.guard) (more ++ rest)
      ∙ ap (λ (t : List ℕ). decimal (target_id vs e) ++ t) (bracket_text_is names e.guard (more ++ rest)))

  edges_text_is : (before : List ℕ) (e : GuardedEdge Formula) (es : List (GuardedEdge Formula)) (rest : List ℕ)
      → before ++ ((edge_text names vs e ++ edges_behind names vs 44 es) ++ rest) ≡ successors_text (successors_tree before e es) rest
  edges_text_is before e [] rest = edge_text_is before e [] rest
  edges_text_is before e (f ∷ es) rest =
      edge_text_is before e (44 ∷ (edge_text names vs f ++ edges_behind names vs 44 es)) rest
      ∙ ap (λ (t : List ℕ). successor_text (successor_tree before e) (44 ∷ t)) (edges_text_is [] f es rest)

  abbrev all_tree : List (GuardedEdge Formula) → Option Successors
  all_tree [] = None
  all_tree (e ∷ es) = Some (successors_tree (32 ∷ []) e es)

  all_text_is : (es : List (GuardedEdge Formula)) (rest : List ℕ) → edges_behind names vs 32 es ++ rest ≡ all_successors_text (all_tree es) rest
  all_text_is [] rest = refl
  all_text_is (e ∷ es) rest = edges_text_is (32 ∷ []) e es rest

  abbrev spelled_edge : GuardedEdge Formula → SpelledSuccessor
  spelled_edge e = record { id = target_id vs e; guard = e.guard }

  abbrev spelled_edges : List (GuardedEdge Formula) → List SpelledSuccessor
  spelled_edges [] = []
  spelled_edges (e ∷ es) = spelled_edge e ∷ spelled_edges es

  -- what an edge's tree says
  edge_said : (n m : ℕ) (before : List ℕ) (e : GuardedEdge Formula) → AreVertices n m vs → e.to < length vs → successor_of (successor_tree before e) ≡ spelled_edge e
  edge_said n m before e are lt =
      ap₂ (λ (i : ℕ) (g : Formula). let s : SpelledSuccessor = record { id = i; guard = g } in s) (written_value before (target_id vs e) (id_below n m vs e.to are lt)) (bracket_guard_is names e.guard)

  edges_said : (m : ℕ) (before : List ℕ) (e : GuardedEdge Formula) (es : List (GuardedEdge Formula)) → AreVertices (length vs) m vs → AreEdges (length vs) m (e ∷ es)
      → successors_of (successors_tree before e es) ≡ spelled_edges (e ∷ es)
  edges_said m before e [] are ok = ap (λ (s : SpelledSuccessor). s ∷ []) (edge_said (length vs) m before e are ok.0)
  edges_said m before e (f ∷ es) are ok = ap₂ (λ (s : SpelledSuccessor) (ss : List SpelledSuccessor). s ∷ ss) (edge_said (length vs) m before e are ok.0) (edges_said m [] f es are ok.3)

  all_said : (m : ℕ) (es : List (GuardedEdge Formula)) → AreVertices (length vs) m vs → AreEdges (length vs) m es → all_successors_of (all_tree es) ≡ spelled_edges es
  all_said m [] are ok = refl
  all_said m (e ∷ es) are ok = edges_said m (32 ∷ []) e es are ok

  edge_formed : (before : List ℕ) (e : GuardedEdge Formula) → AreNames names → AreVertices (length vs) (length names) vs → AreBlank before → e.to < length vs → IsReadable (length names) e.guard
      → IsSuccessor names (successor_tree before e)
  edge_formed before e good are blank lt ok =
      let id = id_below (length vs) (length names) vs e.to are lt in
      record { target = written_below (2 ^ 32) before (target_id vs e) blank id id; bracket = bracket_formed names good e.guard ok }

  edges_formed : (before : List ℕ) (e : GuardedEdge Formula) (es : List (GuardedEdge Formula)) → AreNames names → AreVertices (length vs) (length names) vs → AreBlank before → AreEdges (length vs) (length names) (e ∷ es)
      → AreSuccessors names (successors_tree before e es)
  edges_formed before e [] good are blank ok = edge_formed before e good are blank ok.0 ok.1
  edges_formed before e (f ∷ es) good are blank ok = (edge_formed before e good are blank ok.0 ok.1, refl, edges_formed [] f es good are refl ok.3)

  first_apart : (e : GuardedEdge Formula) (es : List (GuardedEdge Formula)) → IsApart (first_successor (successors_tree (32 ∷ []) e es)).target
  first_apart e [] = omega arith
  first_apart e (f ∷ es) = omega arith

  all_formed : (es : List (GuardedEdge Formula)) → AreNames names → AreVertices (length vs) (length names) vs → AreEdges (length vs) (length names) es → AreAllSuccessors names (all_tree es)
  all_formed [] good are ok = tt
  all_formed (e ∷ es) good are ok = (edges_formed (32 ∷ []) e es good are refl ok, first_apart e es)

  -- ---- vertices

  abbrev entry_tree : NamedVertex → Entry
  entry_tree v = record {
    id = written (10 ∷ []) v.id;
    priority = written (32 ∷ []) v.priority;
    owner = owner_number v.owner;
    successors = all_tree v.edges;
    name = None;
    before_end = [];
  }

  abbrev entry_trees : List NamedVertex → List Entry
  entry_trees [] = []
  entry_trees (w ∷ ws) = entry_tree w ∷ entry_trees ws

  vertex_text_is : (v : NamedVertex) (rest : List ℕ) → 10 ∷ (vertex_text names vs v ++ rest) ≡ entry_text (entry_tree v) (10 ∷ rest)
  vertex_text_is v rest =
      let edges : List ℕ = edges_behind names vs 32 v.edges ++ (59 ∷ 10 ∷ []) in
      ap (λ (t : List ℕ). 10 ∷ t)
      (append_assoc (decimal v.id) (32 ∷ (decimal v.priority ++ (32 ∷ (owner_digit v.owner ∷ edges)))) rest
      ∙ ap (λ (t : List ℕ). decimal v.id ++ (32 ∷ t))
      (append_assoc (decimal v.priority) (32 ∷ (owner_digit v.owner ∷ edges)) rest
      ∙ ap (λ (t : List ℕ). decimal v.priority ++ (32 ∷ (owner_digit v.owner ∷ t))) (append_assoc (edges_behind names vs 32 v.edges) (59 ∷ 10 ∷ []) rest ∙ all_text_is v.edges (59 ∷ 10 ∷ rest))))

  vertices_text_is : (ws : List NamedVertex) → 10 ∷ vertices_text names vs ws ≡ entries_text (entry_trees ws) (10 ∷ [])
  vertices_text_is [] = refl
  vertices_text_is (w ∷ ws) = vertex_text_is w (vertices_text names vs ws) ∙ ap (λ (t : List ℕ). entry_text (entry_tree w) t) (vertices_text_is ws)

  abbrev spelled_vertex : NamedVertex → SpelledEntry
  spelled_vertex v = record { id = v.id; priority = v.priority; owner = v.owner; successors = spelled_edges v.edges }

  abbrev spelled_vertices : List NamedVertex → List SpelledEntry
  spelled_vertices [] = []
  spelled_vertices (w ∷ ws) = spelled_vertex w ∷ spelled_vertices ws

  vertex_said : (m : ℕ) (v : NamedVertex) → AreVertices (length vs) m vs → (v.id < 2 ^ 32) → (v.priority ≤ 65536) → AreEdges (length vs) m v.edges → entry_of (entry_tree v) ≡ spelled_vertex v
  vertex_said m v are id priority ok =
      ap₂ (λ (x : ℕ × ℕ) (y : Player × List SpelledSuccessor). let e : SpelledEntry = record { id = x.0; priority = x.1; owner = y.0; successors = y.1 } in e)
      (ap₂ (λ (a b : ℕ). (a, b)) (written_value (10 ∷ []) v.id id) (written_value (32 ∷ []) v.priority (omega arith)))
      (ap₂ (λ (p : Player) (ss : List SpelledSuccessor). (p, ss)) (owner_value v.owner) (all_said m v.edges are ok))

  vertices_said : (m : ℕ) (ws : List NamedVertex) → AreVertices (length vs) m vs → AreVertices (length vs) m ws → entries_of (entry_trees ws) ≡ spelled_vertices ws
  vertices_said m [] are ok = refl
  vertices_said m (w ∷ ws) are ok = ap₂ (λ (e : SpelledEntry) (es : List SpelledEntry). e ∷ es) (vertex_said m w are ok.0 ok.1 ok.2) (vertices_said m ws are ok.3)

  vertex_formed : (v : NamedVertex) → AreNames names → AreVertices (length vs) (length names) vs → v.id < 2 ^ 32 → v.priority < 65536 → AreEdges (length vs) (length names) v.edges → IsEntry names (entry_tree v)
  vertex_formed v good are id priority ok = record {
    id = written_below (2 ^ 32) (10 ∷ []) v.id refl id id;
    priority = written_below 65536 (32 ∷ []) v.priority refl (omega arith) priority;
    priority_apart = omega arith;
    owner = owner_below v.owner;
    owner_apart = omega arith;
    successors = all_formed v.edges good are ok;
    name = tt;
    blank = refl;
  }

  vertices_formed : (ws : List NamedVertex) → AreNames names → AreVertices (length vs) (length names) vs → AreVertices (length vs) (length names) ws → All (λ p. p < 65536) (priorities_of ws)
      → AreEntries names (entry_trees ws)
  vertices_formed [] good are ok below = tt
  vertices_formed (w ∷ ws) good are ok below = (vertex_formed w good are ok.0 (below 0 0 (omega arith)) ok.2, vertices_formed ws good are ok.3 (λ k d lt. below (suc k) d (omega arith)))

  -- ---- what the entries make

  same_entry_ids : (ws : List NamedVertex) → entry_ids (spelled_vertices ws) ≡ vertex_ids ws
  same_entry_ids [] = refl
  same_entry_ids (w ∷ ws) = ap (λ (ks : List ℕ). w.id ∷ ks) (same_entry_ids ws)

  same_entry_priorities : (ws : List NamedVertex) → entry_priorities (spelled_vertices ws) ≡ priorities_of ws
  same_entry_priorities [] = refl
  same_entry_priorities (w ∷ ws) = ap (λ (ks : List ℕ). w.priority ∷ ks) (same_entry_priorities ws)

  same_edge_count : (es : List (GuardedEdge Formula)) → length (spelled_edges es) ≡ length es
  same_edge_count [] = refl
  same_edge_count (e ∷ es) = ap suc (same_edge_count es)

  same_named : (ws : List NamedVertex) → named_in (spelled_vertices ws) ≡ edges_in ws
  same_named [] = refl
  same_named (w ∷ ws) = ap₂ (λ (a b : ℕ). a + b) (same_edge_count w.edges) (same_named ws)

  same_entry_count : (ws : List NamedVertex) → length (spelled_vertices ws) ≡ length ws
  same_entry_count [] = refl
  same_entry_count (w ∷ ws) = ap suc (same_entry_count ws)

  target_got : (e : GuardedEdge Formula) → e.to < length vs → slice_get (vertex_ids vs) e.to ≡ Some (target_id vs e)
  target_got e lt =
      let within : e.to < length (vertex_ids vs) = omega (arith, length-map vs (λ (x : NamedVertex). x.id)) in
      slice_get-get_or (vertex_ids vs) e.to 0 within ∙ ap (λ (n : ℕ). Some n) (get_or-map (λ (x : NamedVertex). x.id) vs e.to no_vertex 0 lt)

  target_place : (e : GuardedEdge Formula) → AreDistinct (vertex_ids vs) → e.to < length vs → place_of (vertex_ids vs) (target_id vs e) ≡ e.to
  target_place e distinct lt = index_held (target_id vs e) (vertex_ids vs) e.to distinct (target_got e lt)

  -- edges whose targets differ are joined as they stand
  joined_back : (m : ℕ) (seen es : List (GuardedEdge Formula)) → AreDistinct (vertex_ids vs) → AreEdges (length vs) m es
      → ((k : ℕ) → k < length seen → Lacks (map (λ f. f.to) es) (slice_index_or seen k no_edge).to)
      → joined_edges (vertex_ids vs) seen (spelled_edges es) ≡ seen ++ es
  joined_back m seen [] distinct ok apart = sym (append-nil seen)
  joined_back m seen (e ∷ es) distinct ok apart =
      let made : GuardedEdge Formula = record { to = place_of (vertex_ids vs) (target_id vs e); guard = e.guard } in
      let is : made ≡ e = ap (λ (t : ℕ). let f : GuardedEdge Formula = record { to = t; guard = e.guard } in f) (target_place e distinct ok.0) in
      let pushed : join_edge seen e ≡ seen ++ e ∷ [] = join_new seen e (λ k lt same. apart k lt 0 (ap (λ (n : ℕ). Some n) (sym same))) in
      ap (λ (fs : List (GuardedEdge Formula)). joined_edges (vertex_ids vs) fs (spelled_edges es)) (ap (join_edge seen) is ∙ pushed)
      ∙ joined_back m (seen ++ e ∷ []) es distinct ok.3 more
      ∙ append_assoc seen (e ∷ []) es
    where
      more : (k : ℕ) → k < length (seen ++ e ∷ []) → Lacks (map (λ f. f.to) es) (slice_index_or (seen ++ e ∷ []) k no_edge).to
      more k lt = elim (cases_lt k (length seen)) [
        | inl less ↦ subst (λ (f : GuardedEdge Formula). Lacks (map (λ f. f.to) es) f.to) (sym (get_or_append_left seen (e ∷ []) no_edge k less)) (λ i. apart k less (suc i))
        | inr most ↦ (
            let here : k ≡ length seen = omega (arith, length-append seen (e ∷ [])) in
            subst (λ (f : GuardedEdge Formula). Lacks (map (λ f. f.to) es) f.to) (sym (ap (λ (i : ℕ). slice_index_or (seen ++ e ∷ []) i no_edge) here ∙ get_or_push seen e no_edge (length seen) refl)) ok.2)
      ]

  vertex_back : (m : ℕ) (v : NamedVertex) → AreDistinct (vertex_ids vs) → AreEdges (length vs) m v.edges → vertex_of (vertex_ids vs) (spelled_vertex v) ≡ v
  vertex_back m v distinct ok =
      ap (λ (es : List (GuardedEdge Formula)). let w : NamedVertex = record { id = v.id; owner = v.owner; priority = v.priority; edges = es } in w) (joined_back m [] v.edges distinct ok (λ k lt. absurd (omega arith)))

  vertices_back : (m : ℕ) (ws : List NamedVertex) → AreDistinct (vertex_ids vs) → AreVertices (length vs) m ws → map (vertex_of (vertex_ids vs)) (spelled_vertices ws) ≡ ws
  vertices_back m [] distinct ok = refl
  vertices_back m (w ∷ ws) distinct ok = ap₂ (λ (x : NamedVertex) (xs : List NamedVertex). x ∷ xs) (vertex_back m w distinct ok.2) (vertices_back m ws distinct ok.3)

  edges_held : (m : ℕ) (es : List (GuardedEdge Formula)) → AreEdges (length vs) m es → AllHeld (vertex_ids vs) (spelled_edges es)
  edges_held m [] ok = tt
  edges_held m (e ∷ es) ok = ((e.to, target_got e ok.0), edges_held m es ok.3)

  vertices_found : (m : ℕ) (ws : List NamedVertex) → AreVertices (length vs) m ws → AllFound (vertex_ids vs) (spelled_vertices ws)
  vertices_found m [] ok = tt
  vertices_found m (w ∷ ws) ok = (edges_held m w.edges ok.2, vertices_found m ws ok.3)

-- ---- the whole

abbrev file_tree : List (List ℕ) → List NamedVertex → NamedVertex → List NamedVertex → File
file_tree names vs w ws = record {
  header = Some (record { before = []; number = written (32 ∷ []) (greatest (vertex_ids vs)); before_end = [] });
  start = None;
  first = entry_tree names vs w;
  entries = entry_trees names vs ws;
  blanks = 10 ∷ [];
}

text_is : (names : List (List ℕ)) (features : ℕ) (w : NamedVertex) (ws : List NamedVertex) → game_text names (record { vertices = w ∷ ws; features = features }) ≡ file_text (file_tree names (w ∷ ws) w ws)
text_is names features w ws =
    let vs : List NamedVertex = w ∷ ws in
    ap (λ (t : List ℕ). codes "parity " ++ (decimal (greatest (vertex_ids vs)) ++ (59 ∷ t))) (vertices_text_is names vs vs)

spells_entries : (names : List (List ℕ)) (features : ℕ) (w : NamedVertex) (ws : List NamedVertex) → AreNames names → features ≡ length names
    → IsGame (record { vertices = w ∷ ws; features = features }) → All (λ p. p < 65536) (priorities_of (w ∷ ws))
    → SpellsEntries names (game_text names (record { vertices = w ∷ ws; features = features })) (spelled_vertices names (w ∷ ws) (w ∷ ws))
spells_entries names features w ws good same game below =
    let vs : List NamedVertex = w ∷ ws in
    let each : AreVertices (length vs) (length names) vs = subst (λ (m : ℕ). AreVertices (length vs) m vs) same game.each in
    let top : greatest (vertex_ids vs) < 2 ^ 32 = greatest_below (length vs) (length names) vs each in
    let formed = vertices_formed names vs vs good each each below in
    record {
      file = file_tree names vs w ws;
      well_formed = record {
        header = (refl, written_formed (32 ∷ []) (greatest (vertex_ids vs)) refl top, omega arith, refl);
        start = tt;
        first = formed.0;
        entries = formed.1;
        blank = refl;
      };
      spelled = text_is names features w ws;
      stands = vertices_said names vs (length names) vs each each;
      few_entries = omega (arith, same_entry_count names vs vs, game.few);
      few_successors = omega (arith, same_named names vs vs, game.few_edges);
    }

written_some : (names : List (List ℕ)) (features : ℕ) (vs : List NamedVertex) → AreNames names → features ≡ length names
    → IsGame (record { vertices = vs; features = features }) → All (λ p. p < 65536) (priorities_of vs)
    → SpellsGame names (game_text names (record { vertices = vs; features = features })) (record { vertices = vs; features = features })
written_some names features [] good same game below = absurd (omega (arith, game.some))
written_some names features (w ∷ ws) good same game below =
    let vs : List NamedVertex = w ∷ ws in
    let es : List SpelledEntry = spelled_vertices names vs vs in
    let ids : entry_ids es ≡ vertex_ids vs = same_entry_ids names vs vs in
    record {
      entries = es;
      spelled = spells_entries names features w ws good same game below;
      sound = record {
        distinct = subst AreDistinct (sym ids) game.distinct;
        found = subst (λ (ks : List ℕ). AllFound ks es) (sym ids) (vertices_found names vs features vs game.each);
        narrow = subst IsNarrow (sym (same_entry_priorities names vs vs)) game.narrow;
      };
      stands =
          ap₂ (λ (xs : List NamedVertex) (m : ℕ). let g : NamedGame = record { vertices = xs; features = m } in g)
          (ap (λ (ks : List ℕ). map (vertex_of ks) es) ids ∙ vertices_back names vs features vs game.distinct game.each) (sym same);
    }

pub writings_spell_the_game : (names : List (List ℕ)) (game : NamedGame) → AreNames names → length names ≡ game.features → IsGame game → (IsAtLimit game → ⊥) → SpellsGame names (game_text names game) game
writings_spell_the_game names game good same is none =
    written_some names game.features game.vertices good (sym same) is (all_below (length game.vertices) game.features game.vertices is.each none)

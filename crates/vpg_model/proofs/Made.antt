-- The entries of the pairs make the game of the pairs.
use Rattle.std.proofs.Common.{◌≡◌, ℕ, zero, suc, ◌+◌, ◌<◌, ◌≤◌, ◌⊎◌, inl, inr, Bool, true, false, cond, List, [], ◌∷◌, ◌++◌, length, length-append, map, take, filter, get_or, refl, sym, ◌∙◌, subst, ap, ap₂, Contains, All, arith}
use Rattle.std.specs.Prelude.{◌==◌, ◌↔◌}
use Rattle.std.specs.List.{AllZip}
use Rattle.std.proofs.lemmas.Bool.{cases_Bool, eqb-true, eq-eqb, cases_lt}
use Rattle.std.proofs.lemmas.List.{length-map, take_all, take_more, map_push}
use Rattle.std.proofs.lemmas.List.Elements.{All-push, Contains-get_or}
use Rattle.std.proofs.lemmas.List.Sums.{sum_by-cons}
use Rattle.vpg_guards.specs.Formula.{Formula as Guard, always}
use Rattle.vpg_guards.specs.Writing.{IsReadable}
use Rattle.vpg_game.specs.Edges.{GuardedEdge, join_edge}
use Rattle.vpg_game.specs.Spelled.{SpelledSuccessor, SpelledEntry, named_in}
use Rattle.vpg_game.specs.Building.{AreReadable, AreLimited, IsLimited}
use Rattle.vpg_game.specs.Game.{unnamed, graph_of, vertex_of, game_of, vertex_ids, priorities_of, entry_ids, entry_priorities, joined_edges, place_of}
use Rattle.vpg_game.proofs.Made.{same_ids, same_priorities}
use Rattle.vpg_requirement.specs.Building.{join_edges}
use Rattle.vpg_parts.specs.declared.part.Part.{Part}
use Rattle.vpg_parts.specs.declared.part.Part.TheVariants.{True, False, And, Or, SomeStep, EveryStep, Fixpoint, Variable}
use Rattle.vpg_parts.specs.Parts.{resolved_part}
use Rattle.vpg_model.specs.Departures.{Departure, PairMove}
use Rattle.vpg_model.specs.declared.fault.ModelFault.{ModelFault}
use Rattle.vpg_model.specs.declared.fault.ModelFault.TheVariants as faults
use Rattle.vpg_parts.specs.Sets.{is_permitted}
use Rattle.vpg_model.specs.Pairs.{pair_for, departures_at, moves_by, pair_moves, HaveGuards, AreNumbered, AreWithin, IsRefused, IsPairEdge, IsPairRow, IsPairGame, pair_at, targets, targets_from, moves_in, pair_priorities}
use Rattle.vpg_model.specs.Searching.{ArePairSuccessors, IsPairEntry, AreRoots, IsSearched, AreEntries, IsGameFault}
use Rattle.vpg_model.proofs.Search.{Pairs, roots_longer, appended_longer, reached_from, start_are}

-- ---- identifiers that are numbers

place_from : (ids : List ℕ) (off k : ℕ) → ((v : ℕ) → v < length ids → get_or ids v 0 ≡ off + v) → k < length ids → place_of ids (off + k) ≡ k
place_from [] off k h l = absurd (omega arith)
place_from (id ∷ ids) off zero h l = rw (eq-eqb (off + 0) id (sym (h 0 l))) refl
place_from (id ∷ ids) off (suc k) h l = decide (cases_Bool ((off + suc k) == id)) (place_from ids (suc off) k (λ v j. h (suc v) (omega arith) ∙ later v) (omega arith))
  where
    later : (v : ℕ) → off + suc v ≡ suc off + v
    later v = omega arith

    decide : (((off + suc k) == id) ≡ true) ⊎ (((off + suc k) == id) ≡ false) → place_of ids (suc off + k) ≡ k → place_of (id ∷ ids) (off + suc k) ≡ suc k
    decide (inl t) rest = absurd (clash (eqb-true (off + suc k) id t) (h 0 (omega arith)))
      where
        clash : off + suc k ≡ id → id ≡ off + 0 → ⊥
        clash e f = omega arith
    decide (inr f) rest = rw f (ap (λ (n : ℕ). 1 + n) (ap (place_of ids) (later k) ∙ rest) ∙ one_more k)
      where
        one_more : (n : ℕ) → 1 + n ≡ suc n
        one_more n = omega arith

pub place_is : (ids : List ℕ) (k : ℕ) → AreNumbered ids → k < length ids → place_of ids k ≡ k
place_is ids k h l = ap (place_of ids) (from_zero k) ∙ place_from ids 0 k (λ v j. h v j ∙ from_zero v) l
  where
    from_zero : (v : ℕ) → v ≡ 0 + v
    from_zero v = omega arith

-- ---- edges

abbrev pub edge_of : SpelledSuccessor → GuardedEdge Guard
edge_of s = record { to = s.id; guard = s.guard }

pub joined_same : (ids : List ℕ) (edges : List (GuardedEdge Guard)) (ss : List SpelledSuccessor) → AreNumbered ids → All (λ (s : SpelledSuccessor). s.id < length ids) ss → joined_edges ids edges ss ≡ join_edges edges (map edge_of ss)
joined_same ids edges [] h inside = refl
joined_same ids edges (s ∷ ss) h inside = ap (λ (n : ℕ). joined_edges ids (join_edge edges (record { to = n; guard = s.guard })) ss) (place_is ids s.id h (inside 0 s (omega arith)))
    ∙ joined_same ids (join_edge edges (edge_of s)) ss h (λ k d l. inside (suc k) d (omega arith))

each_edge : (pairs : Pairs) (moves : List PairMove) (ss : List SpelledSuccessor) → ArePairSuccessors pairs moves ss → AllZip (IsPairEdge pairs) moves (map edge_of ss)
each_edge pairs [] [] h = tt
each_edge pairs [] (s ∷ ss) h = absurd h
each_edge pairs (move ∷ moves) [] h = absurd h
each_edge pairs (move ∷ moves) (s ∷ ss) h = (record { guard = h.0.guard; inside = h.0.inside; target = h.0.target }, each_edge pairs moves ss h.1)

inside_of : (pairs : Pairs) (moves : List PairMove) (ss : List SpelledSuccessor) (n : ℕ) → length pairs ≤ n → ArePairSuccessors pairs moves ss → All (λ (s : SpelledSuccessor). s.id < n) ss
inside_of pairs [] [] n l h k d j = absurd (omega arith)
inside_of pairs [] (s ∷ ss) n l h k d j = absurd h
inside_of pairs (move ∷ moves) [] n l h k d j = absurd h
inside_of pairs (move ∷ moves) (s ∷ ss) n l h zero d j = omega (arith, h.0.inside)
inside_of pairs (move ∷ moves) (s ∷ ss) n l h (suc k) d j = inside_of pairs moves ss n l h.1 k d (omega arith)

-- ---- rows

module _ (states : List (List Departure)) (sets : List (List Bool)) (parts : List Part) where
  row_of : (pairs : Pairs) (ids : List ℕ) (pair : ℕ × ℕ) (entry : SpelledEntry) → AreNumbered ids → length pairs ≤ length ids → IsPairEntry states sets parts pairs pair entry → IsPairRow states sets parts pairs pair (unnamed (vertex_of ids entry))
  row_of pairs ids pair entry numbered l h = record {
    owner = h.owner;
    priority = h.priority;
    edges = record {
      named = map edge_of entry.successors;
      joined = joined_same ids [] entry.successors numbered (inside_of pairs (pair_moves states sets parts pair) entry.successors (length ids) l h.successors);
      each = each_edge pairs (pair_moves states sets parts pair) entry.successors h.successors;
    };
  }

  rows_of : (pairs : Pairs) (ids : List ℕ) (some : Pairs) (entries : List SpelledEntry) → AreNumbered ids → length pairs ≤ length ids → AllZip (IsPairEntry states sets parts pairs) some entries →
      AllZip (IsPairRow states sets parts pairs) some (map unnamed (map (vertex_of ids) entries))
  rows_of pairs ids [] [] numbered l h = tt
  rows_of pairs ids [] (entry ∷ entries) numbered l h = absurd h
  rows_of pairs ids (pair ∷ some) [] numbered l h = absurd h
  rows_of pairs ids (pair ∷ some) (entry ∷ entries) numbered l h = (row_of pairs ids pair entry numbered l h.0, rows_of pairs ids some entries numbered l h.1)

  -- ---- how many moves

  as_many : (pairs : Pairs) (moves : List PairMove) (ss : List SpelledSuccessor) → ArePairSuccessors pairs moves ss → length ss ≡ length moves
  as_many pairs [] [] h = refl
  as_many pairs [] (s ∷ ss) h = absurd h
  as_many pairs (move ∷ moves) [] h = absurd h
  as_many pairs (move ∷ moves) (s ∷ ss) h = ap suc (as_many pairs moves ss h.1)

  moves_named : (pairs some : Pairs) (entries : List SpelledEntry) → AllZip (IsPairEntry states sets parts pairs) some entries → named_in entries ≡ moves_in states sets parts some
  moves_named pairs [] [] h = refl
  moves_named pairs [] (entry ∷ entries) h = absurd h
  moves_named pairs (pair ∷ some) [] h = absurd h
  moves_named pairs (pair ∷ some) (entry ∷ entries) h = ap₂ (λ (m n : ℕ). m + n) (as_many pairs (pair_moves states sets parts pair) entry.successors h.0.successors) (moves_named pairs some entries h.1)
      ∙ sym (sum_by-cons (λ (p : ℕ × ℕ). length (pair_moves states sets parts p)) pair some)

  -- ---- guards

  module _ (features : ℕ) (guards : HaveGuards features states) where
    abbrev AllFit : List PairMove → Type 0
    AllFit moves = All (λ (m : PairMove). IsReadable features m.guard) moves

    free : IsReadable features always
    free = record { guard = tt; below = tt; nested = omega arith }

    one : (to : ℕ × ℕ) → AllFit (record { guard = always; to = to } ∷ [])
    one to zero d l = free
    one to (suc k) d l = absurd (omega arith)

    two : (to other : ℕ × ℕ) → AllFit (record { guard = always; to = to } ∷ record { guard = always; to = other } ∷ [])
    two to other zero d l = free
    two to other (suc zero) d l = free
    two to other (suc (suc k)) d l = absurd (omega arith)

    fit_along : (x a : ℕ) (departures : List Departure) → All (λ (t : Departure). IsReadable features t.guard) departures →
        AllFit (map (λ t. record { guard = t.guard; to = pair_for parts t.target a }) (filter (λ t. is_permitted sets x t.action) departures))
    fit_along x a [] h = λ k d l. absurd (omega arith)
    fit_along x a (t ∷ departures) h = decide (is_permitted sets x t.action) (fit_along x a departures (λ k d l. h (suc k) d (omega arith)))
      where
        decide : (b : Bool) → AllFit (map (λ t. record { guard = t.guard; to = pair_for parts t.target a }) (filter (λ t. is_permitted sets x t.action) departures)) →
            AllFit (map (λ t. record { guard = t.guard; to = pair_for parts t.target a }) (cond b (t ∷ filter (λ t. is_permitted sets x t.action) departures) (filter (λ t. is_permitted sets x t.action) departures)))
        decide true rest zero d l = h 0 t (omega arith)
        decide true rest (suc k) d l = rest k d (omega arith)
        decide false rest k d l = rest k d l

    at_state : (s : ℕ) → All (λ (t : Departure). IsReadable features t.guard) (departures_at states s)
    at_state s = decide (cases_lt s (length states))
      where
        decide : (s < length states) ⊎ (length states ≤ s) → All (λ (t : Departure). IsReadable features t.guard) (departures_at states s)
        decide (inl l) = guards s [] l
        decide (inr l) = λ k d j. absurd (none k (past states s l) j)
          where
            past : (xs : List (List Departure)) (i : ℕ) → length xs ≤ i → departures_at xs i ≡ []
            past [] i l = refl
            past (x ∷ xs) zero l = absurd (omega arith)
            past (x ∷ xs) (suc i) l = past xs i (omega arith)

            none : (k : ℕ) → departures_at states s ≡ [] → k < length (departures_at states s) → ⊥
            none k e j = omega (arith, ap length e, j)

    fit_by : (s : ℕ) (p : Part) → AllFit (moves_by states sets parts s p)
    fit_by s True = λ k d l. absurd (omega arith)
    fit_by s False = λ k d l. absurd (omega arith)
    fit_by s (And a b) = two (pair_for parts s a) (pair_for parts s b)
    fit_by s (Or a b) = two (pair_for parts s a) (pair_for parts s b)
    fit_by s (SomeStep x a) = fit_along x a (departures_at states s) (at_state s)
    fit_by s (EveryStep x a) = fit_along x a (departures_at states s) (at_state s)
    fit_by s (Fixpoint kind p b) = one (pair_for parts s b)
    fit_by s (Variable m) = λ k d l. absurd (omega arith)

    readable_of : (pairs : Pairs) (moves : List PairMove) (ss : List SpelledSuccessor) → ArePairSuccessors pairs moves ss → AllFit moves → AreReadable features ss
    readable_of pairs [] [] h fit = tt
    readable_of pairs [] (s ∷ ss) h fit = absurd h
    readable_of pairs (move ∷ moves) [] h fit = absurd h
    readable_of pairs (move ∷ moves) (s ∷ ss) h fit = (subst (IsReadable features) (sym h.0.guard) (fit 0 move (omega arith)), readable_of pairs moves ss h.1 (λ k d l. fit (suc k) d (omega arith)))

    all_readable : (pairs some : Pairs) (entries : List SpelledEntry) → AllZip (IsPairEntry states sets parts pairs) some entries → All (λ (e : SpelledEntry). AreReadable features e.successors) entries
    all_readable pairs [] [] h k d l = absurd (omega arith)
    all_readable pairs [] (entry ∷ entries) h k d l = absurd h
    all_readable pairs (pair ∷ some) [] h k d l = absurd h
    all_readable pairs (pair ∷ some) (entry ∷ entries) h zero d l = readable_of pairs (pair_moves states sets parts pair) entry.successors h.0.successors (fit_by pair.0 (resolved_part parts pair.1))
    all_readable pairs (pair ∷ some) (entry ∷ entries) h (suc k) d l = all_readable pairs some entries h.1 k d (omega arith)

  -- ---- all entries

  all_inside : (pairs some : Pairs) (entries : List SpelledEntry) (n : ℕ) → length pairs ≤ n → AllZip (IsPairEntry states sets parts pairs) some entries →
      All (λ (e : SpelledEntry). All (λ (s : SpelledSuccessor). s.id < n) e.successors) entries
  all_inside pairs [] [] n m h k d l = absurd (omega arith)
  all_inside pairs [] (entry ∷ entries) n m h k d l = absurd h
  all_inside pairs (pair ∷ some) [] n m h k d l = absurd h
  all_inside pairs (pair ∷ some) (entry ∷ entries) n m h zero d l = inside_of pairs (pair_moves states sets parts pair) entry.successors n m h.0.successors
  all_inside pairs (pair ∷ some) (entry ∷ entries) n m h (suc k) d l = all_inside pairs some entries n m h.1 k d (omega arith)

  entries_all : (start pairs : Pairs) (entries : List SpelledEntry) (count : ℕ) → IsSearched states sets parts start pairs entries count → length pairs ≤ length entries → AllZip (IsPairEntry states sets parts pairs) pairs entries
  entries_all start pairs entries count h l = subst (λ (xs : Pairs). AllZip (IsPairEntry states sets parts pairs) xs entries) (take_all (length entries) pairs l) h.each

  some_pair : (new roots : Pairs) (places : List ℕ) → 0 < length roots → AllZip (λ pair at. (at < length new) × (pair_at new at ≡ pair)) roots places → 0 < length new
  some_pair new [] places l h = absurd (omega arith)
  some_pair new (root ∷ roots) [] l h = absurd h
  some_pair new (root ∷ roots) (at ∷ places) l h = omega (arith, h.0.0)

  pub are_entries : (features : ℕ) → features ≤ 512 → HaveGuards features states → (none start pairs roots : Pairs) (places : List ℕ) (entries : List SpelledEntry) (count : ℕ) → 0 < length roots →
      AreRoots none start roots places → IsSearched states sets parts start pairs entries count → length pairs ≤ length entries → moves_in states sets parts pairs ≤ 1048576 → AreEntries features entries
  are_entries features few guards none start pairs roots places entries count some r h l m =
      let each = entries_all start pairs entries count h l in record {
        some = omega (arith, some_pair start roots places some r.each, ap length h.longer, length-append start h.added, l);
        few = omega (arith, h.within, h.small);
        few_successors = omega (arith, moves_named pairs pairs entries each, m);
        few_features = few;
        numbered = h.numbered;
        inside = all_inside pairs pairs entries (length entries) l each;
        readable = all_readable features guards pairs pairs entries each;
      }

  -- ---- the game

  pub made : (features : ℕ) (none : Pairs) → length none ≡ 0 → (roots start pairs : Pairs) (places : List ℕ) (entries : List SpelledEntry) (count : ℕ) →
      AreRoots none start roots places → IsSearched states sets parts start pairs entries count → length pairs ≤ length entries → IsPairGame states sets parts roots pairs places (graph_of (game_of features entries))
  made features none empty roots start pairs places entries count r h l = record {
    distinct = h.distinct;
    built = rows_of pairs (entry_ids entries) pairs entries h.numbered (omega (arith, l, length-map entries (λ (e : SpelledEntry). e.id))) (entries_all start pairs entries count h l);
    placed = roots_longer start pairs (appended_longer start h.added pairs h.longer) roots places r.each;
    reached = reached_from states sets parts start roots pairs (start_are none start roots empty r.grown) h.reached;
  }

  -- ---- a game that is too wide

  targets_are : (pairs : Pairs) (moves : List PairMove) (ss : List SpelledSuccessor) → ArePairSuccessors pairs moves ss → All (λ target. Contains pairs target) (targets moves)
  targets_are pairs [] [] h k d l = absurd (omega arith)
  targets_are pairs [] (s ∷ ss) h k d l = absurd h
  targets_are pairs (move ∷ moves) [] h k d l = absurd h
  targets_are pairs (move ∷ moves) (s ∷ ss) h zero d l = subst (λ (p : ℕ × ℕ). Contains pairs p) h.0.target (Contains-get_or pairs s.id (0, 0) h.0.inside)
  targets_are pairs (move ∷ moves) (s ∷ ss) h (suc k) d l = targets_are pairs moves ss h.1 k d (omega arith)

  all_moves : (pairs some : Pairs) (entries : List SpelledEntry) → AllZip (IsPairEntry states sets parts pairs) some entries → All (λ pair. All (λ target. Contains pairs target) (targets_from states sets parts pair)) some
  all_moves pairs [] [] h k d l = absurd (omega arith)
  all_moves pairs [] (entry ∷ entries) h k d l = absurd h
  all_moves pairs (pair ∷ some) [] h k d l = absurd h
  all_moves pairs (pair ∷ some) (entry ∷ entries) h zero d l = targets_are pairs (pair_moves states sets parts pair) entry.successors h.0.successors
  all_moves pairs (pair ∷ some) (entry ∷ entries) h (suc k) d l = all_moves pairs some entries h.1 k d (omega arith)

  all_roots_are : (pairs roots : Pairs) (places : List ℕ) → AllZip (λ pair at. (at < length pairs) × (pair_at pairs at ≡ pair)) roots places → All (λ pair. Contains pairs pair) roots
  all_roots_are pairs [] [] h k d l = absurd (omega arith)
  all_roots_are pairs [] (at ∷ places) h k d l = absurd h
  all_roots_are pairs (root ∷ roots) [] h k d l = absurd h
  all_roots_are pairs (root ∷ roots) (at ∷ places) h zero d l = subst (λ (p : ℕ × ℕ). Contains pairs p) h.0.1 (Contains-get_or pairs at (0, 0) h.0.0)
  all_roots_are pairs (root ∷ roots) (at ∷ places) h (suc k) d l = all_roots_are pairs roots places h.1 k d (omega arith)

  priorities_are : (pairs some : Pairs) (entries : List SpelledEntry) → AllZip (IsPairEntry states sets parts pairs) some entries → entry_priorities entries ≡ pair_priorities parts some
  priorities_are pairs [] [] h = refl
  priorities_are pairs [] (entry ∷ entries) h = absurd h
  priorities_are pairs (pair ∷ some) [] h = absurd h
  priorities_are pairs (pair ∷ some) (entry ∷ entries) h = ap₂ {C = List ℕ} (λ (p : ℕ) (ps : List ℕ). p ∷ ps) h.0.priority (priorities_are pairs some entries h.1)

  pub game_refused : (none : Pairs) → length none ≡ 0 → (roots start pairs : Pairs) (places : List ℕ) (entries : List SpelledEntry) (count : ℕ) (fault : ModelFault) →
      AreRoots none start roots places → IsSearched states sets parts start pairs entries count → length pairs ≤ length entries → IsGameFault entries fault → IsRefused states sets parts roots fault
  game_refused none empty roots start pairs places entries count faults.TooManyVertices r h l f = absurd f
  game_refused none empty roots start pairs places entries count faults.TooManyEdges r h l f = absurd f
  game_refused none empty roots start pairs places entries count faults.TooWide r h l f =
      let each = entries_all start pairs entries count h l in record {
        pairs = pairs;
        distinct = h.distinct;
        reached = reached_from states sets parts start roots pairs (start_are none start roots empty r.grown) h.reached;
        holds = record {
          all = record {
            started = all_roots_are pairs roots places (roots_longer start pairs (appended_longer start h.added pairs h.longer) roots places r.each);
            closed = all_moves pairs pairs entries each;
          };
          wide = λ within. f (subst AreWithin (sym (priorities_are pairs pairs entries each)) within);
        };
      }
  game_refused none empty roots start pairs places entries count faults.Memory r h l f = tt

-- ---- the game of entries

pub game_numbered : (features : ℕ) (entries : List SpelledEntry) → AreNumbered (entry_ids entries) → AreNumbered (vertex_ids (game_of features entries).vertices)
game_numbered features entries h = subst AreNumbered (sym (same_ids (entry_ids entries) entries)) h

pub game_within : (features : ℕ) (entries : List SpelledEntry) → AreWithin (entry_priorities entries) → AreWithin (priorities_of (game_of features entries).vertices)
game_within features entries h = subst AreWithin (sym (same_priorities (entry_ids entries) entries)) h

got_mapped : (f : SpelledEntry → ℕ) (es : List SpelledEntry) (k : ℕ) (d : SpelledEntry) → k < length es → get_or (map f es) k 0 ≡ f (get_or es k d)
got_mapped f [] k d l = absurd (omega arith)
got_mapped f (e ∷ es) zero d l = refl
got_mapped f (e ∷ es) (suc k) d l = got_mapped f es k d (omega arith)

limited : (features : ℕ) (es : List SpelledEntry) → All (λ (e : SpelledEntry). e.id < 4294967296) es → All (λ (e : SpelledEntry). e.priority < 65536) es → All (λ (e : SpelledEntry). AreReadable features e.successors) es → AreLimited features es
limited features [] i p r = tt
limited features (e ∷ es) i p r = (i 0 e (omega arith), p 0 e (omega arith), r 0 e (omega arith), limited features es (λ k d l. i (suc k) d (omega arith)) (λ k d l. p (suc k) d (omega arith)) (λ k d l. r (suc k) d (omega arith)))

pub are_limited : (features : ℕ) (es : List SpelledEntry) → AreEntries features es → All (λ p. p < 65536) (entry_priorities es) → IsLimited features es
are_limited features es h low = record {
  some = h.some;
  few = h.few;
  few_successors = h.few_successors;
  few_features = h.few_features;
  each = limited features es ids priorities h.readable;
}
  where
    ids : All (λ (e : SpelledEntry). e.id < 4294967296) es
    ids k d l = omega (arith, l, h.few, got_mapped (λ (e : SpelledEntry). e.id) es k d l, h.numbered k (omega (arith, l, length-map es (λ (e : SpelledEntry). e.id))))

    priorities : All (λ (e : SpelledEntry). e.priority < 65536) es
    priorities k d l = omega (arith, got_mapped (λ (e : SpelledEntry). e.priority) es k d l, low k 0 (omega (arith, l, length-map es (λ (e : SpelledEntry). e.priority))))

-- ---- low priorities

pub low_more : (es : List SpelledEntry) (i : ℕ) (d : SpelledEntry) → i < length es → All (λ p. p < 65536) (entry_priorities (take i es)) → (get_or es i d).priority < 65536 → All (λ p. p < 65536) (entry_priorities (take (i + 1) es))
low_more es i d l low p = subst (λ (ps : List ℕ). All (λ p. p < 65536) ps) (sym taken) (All-push (λ p. p < 65536) (entry_priorities (take i es)) (get_or es i d).priority low p)
  where
    taken : entry_priorities (take (i + 1) es) ≡ entry_priorities (take i es) ++ (get_or es i d).priority ∷ []
    taken = ap (λ (xs : List SpelledEntry). entry_priorities xs) (take_more es i d l) ∙ map_push (λ (e : SpelledEntry). e.priority) (take i es) (get_or es i d)

pub not_low : (es : List SpelledEntry) (i : ℕ) (d : SpelledEntry) → i < length es → 65536 ≤ (get_or es i d).priority → All (λ p. p < 65536) (entry_priorities es) → ⊥
not_low es i d l high low = omega (arith, high, got_mapped (λ (e : SpelledEntry). e.priority) es i d l, low i 0 (omega (arith, l, length-map es (λ (e : SpelledEntry). e.priority))))

pub low_true : (b : Bool) (es seen : List SpelledEntry) → b ≡ true → seen ≡ es → (b ≡ true ↔ All (λ p. p < 65536) (entry_priorities seen)) → All (λ p. p < 65536) (entry_priorities es)
low_true b es seen t same h = subst (λ (r : List SpelledEntry). All (λ p. p < 65536) (entry_priorities r)) same (h.0 t)

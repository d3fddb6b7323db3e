-- The pairs grow, and what was said of them stays true.
use Rattle.std.proofs.Common.{◌≡◌, ℕ, ◌&&◌, Option, Some, None, Bool, true, false, ◌+◌, ◌-◌, rules, add-one, zero, suc, ◌<◌, ◌≤◌, ◌⊎◌, inl, inr, List, [], ◌∷◌, ◌++◌, length, map, take, drop, get_or, refl, sym, ◌∙◌, subst, ap, ap₂, Contains, All, arith, length-append}
use Rattle.std.specs.List.{AllZip, IsDistinct}
use Rattle.std.proofs.lemmas.Map.Keys.{apart_from_distinct}
use Rattle.std.specs.Prelude.{◌==◌, slice_get}
use Rattle.std.proofs.lemmas.Bool.{cases_lt, and_parts, eqb-true}
use Rattle.std.proofs.lemmas.List.{length-map, get_or_append_left, map_push, append-nil, append_assoc, take-append-le}
use Rattle.std.proofs.Math.Seq.{take-suc, get_or-append_right}
use Rattle.std.proofs.lemmas.List.Elements.{All-append, All-push, Contains-push, Contains-get_or}
use Rattle.std.proofs.lemmas.List.Sums.{sum_by_push, sum_by-take-le}
use Rattle.indexmap.proofs.SetLemmas.{AllZip-push}
use Rattle.vpg_hope.proofs.Edges.{Contains-later}
use Rattle.vpg_game.specs.Spelled.{SpelledSuccessor, SpelledEntry}
use Rattle.vpg_game.specs.Game.{entry_ids}
use Rattle.vpg_parts.specs.declared.part.Part.{Part}
use Rattle.vpg_parts.specs.Parts.{resolved_part}
use Rattle.vpg_model.specs.Departures.{Departure, PairMove}
use Rattle.vpg_model.specs.declared.fault.ModelFault.{ModelFault}
use Rattle.vpg_model.specs.declared.fault.ModelFault.TheVariants as faults
use Rattle.vpg_model.specs.Pairs.{AreDistinct, AreNumbered, pair_at, targets, targets_from, moves_in, AreReached, IsRefused, pair_moves, owner_of_part, priority_of_part}
use Rattle.vpg_model.specs.Searching.{IsPlaced, IsGrown, IsGrowthFault, IsPairSuccessor, ArePairSuccessors, AreSuccessors, IsPairEntry, IsNewEntry, IsEntryFault, IsSearchFault, IsPairAt, AreRoots, IsSearched}

abbrev pub Pairs : Type 0
Pairs = List (ℕ × ℕ)

no_pairs : (none : Pairs) → length none ≡ 0 → none ≡ []
no_pairs [] e = refl
no_pairs (p ∷ none) e = absurd (omega arith)

-- ---- containing

pub contains_left : {X : Type 0} (xs ys : List X) (x : X) → Contains xs x → Contains (xs ++ ys) x
contains_left xs ys x h = (h.0, omega (arith, h.1, length-append xs ys), get_or_append_left xs ys x h.0 h.1 ∙ h.2)

pub contains_right : {X : Type 0} (xs ys : List X) (x : X) → Contains ys x → Contains (xs ++ ys) x
contains_right [] ys x h = h
contains_right (y ∷ xs) ys x h = Contains-later y (xs ++ ys) x (contains_right xs ys x h)

pub all_right : {X : Type 0} (less sources : List X) (xs : List X) → All (λ x. Contains sources x) xs → All (λ x. Contains (less ++ sources) x) xs
all_right less sources xs h = λ k d l. contains_right less sources (get_or xs k d) (h k d l)

pub all_left : {X : Type 0} (sources more : List X) (xs : List X) → All (λ x. Contains sources x) xs → All (λ x. Contains (sources ++ more) x) xs
all_left sources more xs h = λ k d l. contains_left sources more (get_or xs k d) (h k d l)

-- ---- successors

pub successor_longer : (old added : Pairs) (move : PairMove) (successor : SpelledSuccessor) → IsPairSuccessor old move successor → IsPairSuccessor (old ++ added) move successor
successor_longer old added move successor h = record {
  guard = h.guard;
  inside = omega (arith, h.inside, length-append old added);
  target = get_or_append_left old added (0, 0) successor.id h.inside ∙ h.target;
}

pub each_longer : (old added : Pairs) (moves : List PairMove) (successors : List SpelledSuccessor) → ArePairSuccessors old moves successors → ArePairSuccessors (old ++ added) moves successors
each_longer old added [] [] h = tt
each_longer old added [] (s ∷ ss) h = absurd h
each_longer old added (move ∷ moves) [] h = absurd h
each_longer old added (move ∷ moves) (s ∷ ss) h = (successor_longer old added move s h.0, each_longer old added moves ss h.1)

-- ---- one more pair

append_more : (xs ys zs : Pairs) → (xs ++ ys) ++ zs ≡ xs ++ (ys ++ zs)
append_more [] ys zs = refl
append_more (x ∷ xs) ys zs = ap (λ (l : Pairs). x ∷ l) (append_more xs ys zs)

-- none was added
pub grown_none : (pairs sources : Pairs) → IsGrown pairs pairs sources
grown_none pairs sources = record { added = []; new_is = sym (append-nil pairs); are = λ k d l. absurd (omega arith); distinct = λ d. d }

pub grown_more : (old mid new some more : Pairs) → IsGrown old mid some → IsGrown mid new more → IsGrown old new (some ++ more)
grown_more old mid new some more g h = record {
  added = g.added ++ h.added;
  new_is = h.new_is ∙ ap (λ (xs : Pairs). xs ++ h.added) g.new_is ∙ append_more old g.added h.added;
  are = All-append (λ x. Contains (some ++ more) x) g.added h.added (all_left some more g.added g.are) (all_right some more h.added h.are);
  distinct = λ d. h.distinct (g.distinct d);
}

-- from a larger choice
pub grown_within : (old new some more : Pairs) → IsGrown old new some → IsGrown old new (some ++ more)
grown_within old new some more g = record { added = g.added; new_is = g.new_is; are = all_left some more g.added g.are; distinct = g.distinct }

pub placed_grown : (old new : Pairs) (pair : ℕ × ℕ) → (new ≡ old) ⊎ (new ≡ old ++ pair ∷ []) → AreDistinct new → IsGrown old new (pair ∷ [])
placed_grown old new pair (inl same) d = record { added = []; new_is = same ∙ sym (append-nil old); are = λ k d l. absurd (omega arith); distinct = λ _. d }
placed_grown old new pair (inr more) d = record { added = pair ∷ []; new_is = more; are = All-push (λ x. Contains (pair ∷ []) x) [] pair (λ k d l. absurd (omega arith)) (Contains-push [] pair); distinct = λ _. d }

pub grown_as : (old mid new : Pairs) (sources : List (ℕ × ℕ)) (pair : ℕ × ℕ) (at : ℕ) → IsGrown old mid sources → IsPlaced mid new pair at → IsGrown old new (sources ++ pair ∷ [])
grown_as old mid new sources pair at g p = grown_more old mid new sources (pair ∷ []) g (placed_grown mid new pair p.grown p.distinct)

-- a fault at one pair is one of all
pub fault_within : (old mid new some rest : Pairs) (pair : ℕ × ℕ) (fault : ModelFault) → IsGrown old mid some → IsGrowthFault mid new (pair ∷ []) fault → IsGrowthFault old new (some ++ pair ∷ rest) fault
fault_within old mid new some rest pair faults.TooManyVertices g f = record {
  grown = subst (λ (xs : Pairs). IsGrown old new xs) (append_more some (pair ∷ []) rest) (grown_within old new (some ++ pair ∷ []) rest (grown_more old mid new some (pair ∷ []) g f.grown));
  many = f.many;
}
fault_within old mid new some rest pair faults.TooManyEdges g f = absurd f
fault_within old mid new some rest pair faults.TooWide g f = absurd f
fault_within old mid new some rest pair faults.Memory g f = tt

-- a fault at one of some moves
pub fault_at : (old mid new : Pairs) (some rest moves : List PairMove) (move : PairMove) (fault : ModelFault) → IsGrown old mid (targets some) → IsGrowthFault mid new (move.to ∷ []) fault →
    some ++ move ∷ rest ≡ moves → IsGrowthFault old new (targets moves) fault
fault_at old mid new some rest moves move fault g f e = subst (λ (xs : Pairs). IsGrowthFault old new xs fault) (sym (targets_append some (move ∷ rest)) ∙ ap targets e) (fault_within old mid new (targets some) (targets rest) move.to fault g f)
  where
    targets_append : (xs ys : List PairMove) → targets (xs ++ ys) ≡ targets xs ++ targets ys
    targets_append [] ys = refl
    targets_append (x ∷ xs) ys = ap (λ (l : Pairs). x.to ∷ l) (targets_append xs ys)

-- a fault at one of some roots
pub fault_at_root : (old mid new : Pairs) (f : ℕ → ℕ × ℕ) (roots : List ℕ) (i : ℕ) (fault : ModelFault) → i < length roots → IsGrown old mid (map f (take i roots)) →
    IsGrowthFault mid new (f (get_or roots i 0) ∷ []) fault → IsGrowthFault old new (map f roots) fault
fault_at_root old mid new f roots i fault l g h = subst (λ (xs : Pairs). IsGrowthFault old new xs fault) (sym (split i roots l)) (fault_within old mid new (map f (take i roots)) (map f (drop (suc i) roots)) (f (get_or roots i 0)) fault g h)
  where
    split : (i : ℕ) (roots : List ℕ) → i < length roots → map f roots ≡ map f (take i roots) ++ f (get_or roots i 0) ∷ map f (drop (suc i) roots)
    split i [] l = absurd (omega arith)
    split zero (r ∷ roots) l = refl
    split (suc i) (r ∷ roots) l = ap (λ (xs : Pairs). f r ∷ xs) (split i roots (omega arith))

pub none_yet : (pairs : Pairs) (successors : List SpelledSuccessor) → successors ≡ [] → AreSuccessors pairs pairs [] successors
none_yet pairs successors e = record {
  grown = grown_none pairs [];
  room = λ l. l;
  each = subst (λ (ss : List SpelledSuccessor). ArePairSuccessors pairs [] ss) (sym e) tt;
}

pub one_more : (old mid new : Pairs) (moves : List PairMove) (successors after : List SpelledSuccessor) (move : PairMove) (at : ℕ) → AreSuccessors old mid moves successors → IsPlaced mid new move.to at →
    after ≡ successors ++ (record { id = at; guard = move.guard }) ∷ [] → AreSuccessors old new (moves ++ move ∷ []) after
one_more old mid new moves successors after move at h p e = record {
  grown = subst (λ (l : List (ℕ × ℕ)). IsGrown old new l) (sym (map_push (λ (m : PairMove). m.to) moves move)) (grown_as old mid new (targets moves) move.to at h.grown p);
  room = λ l. p.room;
  each = subst (λ (ss : List SpelledSuccessor). ArePairSuccessors new (moves ++ move ∷ []) ss) (sym e)
      (AllZip-push (IsPairSuccessor new) moves successors move (record { id = at; guard = move.guard }) (before p.grown) (record { guard = refl; inside = p.within; target = p.stored }));
}
  where
    before : (new ≡ mid) ⊎ (new ≡ mid ++ move.to ∷ []) → ArePairSuccessors new moves successors
    before (inl same) = subst (λ (l : Pairs). ArePairSuccessors l moves successors) (sym same) h.each
    before (inr more) = subst (λ (l : Pairs). ArePairSuccessors l moves successors) (sym more) (each_longer mid (move.to ∷ []) moves successors h.each)

-- ---- roots

pub roots_longer : (old new : Pairs) → ((at : ℕ) → at < length old → (at < length new) × (pair_at new at ≡ pair_at old at)) → (roots : Pairs) (places : List ℕ) →
    AllZip (λ pair at. (at < length old) × (pair_at old at ≡ pair)) roots places → AllZip (λ pair at. (at < length new) × (pair_at new at ≡ pair)) roots places
roots_longer old new f [] [] h = tt
roots_longer old new f [] (at ∷ places) h = absurd h
roots_longer old new f (pair ∷ roots) [] h = absurd h
roots_longer old new f (pair ∷ roots) (at ∷ places) h = (((f at h.0.0).0, (f at h.0.0).1 ∙ h.0.1), roots_longer old new f roots places h.1)

pub appended_longer : (old added new : Pairs) → new ≡ old ++ added → (at : ℕ) → at < length old → (at < length new) × (pair_at new at ≡ pair_at old at)
appended_longer old added new e at l = (omega (arith, length-append old added, ap length e), ap (λ (xs : Pairs). pair_at xs at) e ∙ get_or_append_left old added (0, 0) at l)

pub placed_longer : (old new : Pairs) (pair : ℕ × ℕ) (at : ℕ) → IsPlaced old new pair at → (k : ℕ) → k < length old → (k < length new) × (pair_at new k ≡ pair_at old k)
placed_longer old new pair at p = decide p.grown
  where
    decide : (new ≡ old) ⊎ (new ≡ old ++ pair ∷ []) → (k : ℕ) → k < length old → (k < length new) × (pair_at new k ≡ pair_at old k)
    decide (inl same) = appended_longer old [] new (same ∙ sym (append-nil old))
    decide (inr more) = appended_longer old (pair ∷ []) new more

pub no_roots : (pairs : Pairs) (places : List ℕ) → places ≡ [] → AreRoots pairs pairs [] places
no_roots pairs places e = record {
  grown = grown_none pairs [];
  room = λ l. l;
  each = subst (λ (l : List ℕ). AllZip (λ pair at. (at < length pairs) × (pair_at pairs at ≡ pair)) [] l) (sym e) tt;
}

pub one_root : (old mid new roots : Pairs) (places : List ℕ) (pair : ℕ × ℕ) (at : ℕ) → AreRoots old mid roots places → IsPlaced mid new pair at → AreRoots old new (roots ++ pair ∷ []) (places ++ at ∷ [])
one_root old mid new roots places pair at h p = record {
  grown = grown_as old mid new roots pair at h.grown p;
  room = λ l. p.room;
  each = AllZip-push (λ pair at. (at < length new) × (pair_at new at ≡ pair)) roots places pair at (roots_longer mid new (placed_longer mid new pair at p) roots places h.each) (p.within, p.stored);
}

-- ---- entries

pub entries_longer : (states : List (List Departure)) (sets : List (List Bool)) (parts : List Part) (old added pairs : Pairs) (entries : List SpelledEntry) →
    AllZip (IsPairEntry states sets parts old) pairs entries → AllZip (IsPairEntry states sets parts (old ++ added)) pairs entries
entries_longer states sets parts old added [] [] h = tt
entries_longer states sets parts old added [] (entry ∷ entries) h = absurd h
entries_longer states sets parts old added (pair ∷ pairs) [] h = absurd h
entries_longer states sets parts old added (pair ∷ pairs) (entry ∷ entries) h =
    (record { owner = h.0.owner; priority = h.0.priority; successors = each_longer old added (pair_moves states sets parts pair) entry.successors h.0.successors }, entries_longer states sets parts old added pairs entries h.1)

pub numbered_none : AreNumbered []
numbered_none v l = absurd (omega arith)

numbered_push : (ids : List ℕ) (id : ℕ) → id ≡ length ids → AreNumbered ids → AreNumbered (ids ++ id ∷ [])
numbered_push ids id e h v l = decide (cases_lt v (length ids))
  where
    decide : (v < length ids) ⊎ (length ids ≤ v) → get_or (ids ++ id ∷ []) v 0 ≡ v
    decide (inl before) = get_or_append_left ids (id ∷ []) 0 v before ∙ h v before
    decide (inr after) = get_or-append_right ids (id ∷ []) v 0 after ∙ ap (λ (n : ℕ). get_or (id ∷ []) n 0) first ∙ e ∙ last
      where
        first : v - length ids ≡ 0
        first = omega (arith, l, after, length-append ids (id ∷ []))

        last : length ids ≡ v
        last = omega (arith, l, after, length-append ids (id ∷ []))

pub numbered_more : (entries : List SpelledEntry) (entry : SpelledEntry) → entry.id ≡ length entries → AreNumbered (entry_ids entries) → AreNumbered (entry_ids (entries ++ entry ∷ []))
numbered_more entries entry e h = subst AreNumbered (sym (map_push (λ (x : SpelledEntry). x.id) entries entry)) (numbered_push (entry_ids entries) entry.id (e ∙ sym (length-map entries (λ (x : SpelledEntry). x.id))) h)

pub reached_longer : (states : List (List Departure)) (sets : List (List Bool)) (parts : List Part) (roots old added : Pairs) (u : ℕ) → u < length old →
    All (λ pair. Contains (targets_from states sets parts (pair_at old u)) pair) added → AreReached states sets parts roots old → AreReached states sets parts roots (old ++ added)
reached_longer states sets parts roots old added u l are h v high = decide (cases_lt v (length old))
  where
    kept : (k : ℕ) → k < length old → pair_at (old ++ added) k ≡ pair_at old k
    kept k j = get_or_append_left old added (0, 0) k j

    decide : (v < length old) ⊎ (length old ≤ v) → Contains roots (pair_at (old ++ added) v) ⊎ ((u : ℕ) × (u < v) × Contains (targets_from states sets parts (pair_at (old ++ added) u)) (pair_at (old ++ added) v))
    decide (inl before) = of (h v before)
      where
        of : Contains roots (pair_at old v) ⊎ ((u : ℕ) × (u < v) × Contains (targets_from states sets parts (pair_at old u)) (pair_at old v)) →
            Contains roots (pair_at (old ++ added) v) ⊎ ((u : ℕ) × (u < v) × Contains (targets_from states sets parts (pair_at (old ++ added) u)) (pair_at (old ++ added) v))
        of (inl root) = inl (subst (λ (p : ℕ × ℕ). Contains roots p) (sym (kept v before)) root)
        of (inr w) = inr (
          w.0,
          w.1,
          subst (λ (p : ℕ × ℕ). Contains (targets_from states sets parts p) (pair_at (old ++ added) v)) (sym (kept w.0 (below w.1)))
              (subst (λ (p : ℕ × ℕ). Contains (targets_from states sets parts (pair_at old w.0)) p) (sym (kept v before)) w.2),
        )
          where
            below : w.0 < v → w.0 < length old
            below j = omega arith
    decide (inr after) = inr (
      u,
      omega arith,
      subst (λ (p : ℕ × ℕ). Contains (targets_from states sets parts p) (pair_at (old ++ added) v)) (sym (kept u l))
          (subst (λ (p : ℕ × ℕ). Contains (targets_from states sets parts (pair_at old u)) p) (sym here) (are (v - length old) (0, 0) (omega (arith, length-append old added)))),
    )
      where
        here : pair_at (old ++ added) v ≡ pair_at added (v - length old)
        here = get_or-append_right old added v (0, 0) after

-- the pairs that the moves of one lead to
pub reached_more : (states : List (List Departure)) (sets : List (List Bool)) (parts : List Part) (start old new : Pairs) (u : ℕ) (pair : ℕ × ℕ) → IsPairAt old u pair →
    IsGrown old new (targets_from states sets parts pair) → AreReached states sets parts start old → AreReached states sets parts start new
reached_more states sets parts start old new u pair p g h = subst (λ (xs : Pairs). AreReached states sets parts start xs) (sym g.new_is)
    (reached_longer states sets parts start old g.added u p.within (subst (λ (q : ℕ × ℕ). All (λ r. Contains (targets_from states sets parts q) r) g.added) (sym p.stored) g.are) h)

pub start_reached : (states : List (List Departure)) (sets : List (List Bool)) (parts : List Part) (start : Pairs) → AreReached states sets parts start start
start_reached states sets parts start v l = inl (Contains-get_or start v (0, 0) l)

pub searched_none : (states : List (List Departure)) (sets : List (List Bool)) (parts : List Part) (start : Pairs) (entries : List SpelledEntry) → entries ≡ [] → length start ≤ 65536 → AreDistinct start →
    IsSearched states sets parts start start entries 0
searched_none states sets parts start entries e l d = record {
  small = l;
  distinct = d;
  within = subst (λ (r : List SpelledEntry). length r ≤ length start) (sym e) (omega arith);
  added = [];
  longer = sym (append-nil start);
  numbered = subst (λ (r : List SpelledEntry). AreNumbered (entry_ids r)) (sym e) numbered_none;
  each = subst (λ (r : List SpelledEntry). AllZip (IsPairEntry states sets parts start) (take (length r) start) r) (sym e) (search rules);
  reached = start_reached states sets parts start;
  counted = subst (λ (r : List SpelledEntry). 0 ≡ moves_in states sets parts (take (length r) start)) (sym e) (search rules);
}

module _ (states : List (List Departure)) (sets : List (List Bool)) (parts : List Part) where
  pub moves_push : (pairs : Pairs) (pair : ℕ × ℕ) → moves_in states sets parts (pairs ++ pair ∷ []) ≡ moves_in states sets parts pairs + length (pair_moves states sets parts pair)
  moves_push pairs pair = sum_by_push (λ (p : ℕ × ℕ). length (pair_moves states sets parts p)) pairs pair

  -- so many pairs, and the next one
  pub taken_next : (old new : Pairs) (n : ℕ) (pair : ℕ × ℕ) (sources : Pairs) → IsPairAt old n pair → IsGrown old new sources → take (suc n) new ≡ take n old ++ pair ∷ []
  taken_next old new n pair sources p g = ap (take (suc n)) g.new_is ∙ take-append-le (suc n) old g.added p.within ∙ take-suc old n (0, 0) p.within ∙ ap (λ (q : ℕ × ℕ). take n old ++ q ∷ []) p.stored

  pub searched_more : (start old new : Pairs) (entries after : List SpelledEntry) (count counted : ℕ) (pair : ℕ × ℕ) (entry : SpelledEntry) →
      IsSearched states sets parts start old entries count → IsPairAt old (length entries) pair → IsNewEntry states sets parts old new pair (length entries) entry → counted ≡ count + length (pair_moves states sets parts pair) → after ≡ entries ++ entry ∷ [] →
      IsSearched states sets parts start new after counted
  searched_more start old new entries after count counted pair entry h p n more e = subst (λ (r : List SpelledEntry). IsSearched states sets parts start new r counted) (sym e) (record {
    small = n.room h.small;
    distinct = n.grown.distinct h.distinct;
    within = omega (arith, p.within, ap length n.grown.new_is, length-append old n.grown.added, length-append entries (entry ∷ []));
    added = h.added ++ n.grown.added;
    longer = n.grown.new_is ∙ ap (λ (xs : Pairs). xs ++ n.grown.added) h.longer ∙ append_assoc start h.added n.grown.added;
    numbered = numbered_more entries entry n.id h.numbered;
    each = subst (λ (xs : Pairs). AllZip (IsPairEntry states sets parts new) xs (entries ++ entry ∷ [])) (sym taken_more)
        (AllZip-push (IsPairEntry states sets parts new) (take (length entries) old) entries pair entry
        (subst (λ (xs : Pairs). AllZip (IsPairEntry states sets parts xs) (take (length entries) old) entries) (sym n.grown.new_is) (entries_longer states sets parts old n.grown.added (take (length entries) old) entries h.each))
        n.is);
    reached = reached_more states sets parts start old new (length entries) pair p n.grown h.reached;
    counted = more ∙ ap (λ (k : ℕ). k + length (pair_moves states sets parts pair)) h.counted ∙ sym (moves_push (take (length entries) old) pair) ∙ ap (moves_in states sets parts) (sym taken_more);
  })
    where
      taken_more : take (length (entries ++ entry ∷ [])) new ≡ take (length entries) old ++ pair ∷ []
      taken_more = ap (λ (n : ℕ). take n new) counted_entries ∙ taken_next old new (length entries) pair (targets_from states sets parts pair) p n.grown
        where
          counted_entries : length (entries ++ entry ∷ []) ≡ suc (length entries)
          counted_entries = omega (arith, length-append entries (entry ∷ []))

  pub reached_from : (some roots pairs : Pairs) → ((pair : ℕ × ℕ) → Contains some pair → Contains roots pair) → AreReached states sets parts some pairs → AreReached states sets parts roots pairs
  reached_from some roots pairs c h v l = of (h v l)
    where
      of : Contains some (pair_at pairs v) ⊎ ((u : ℕ) × (u < v) × Contains (targets_from states sets parts (pair_at pairs u)) (pair_at pairs v)) →
          Contains roots (pair_at pairs v) ⊎ ((u : ℕ) × (u < v) × Contains (targets_from states sets parts (pair_at pairs u)) (pair_at pairs v))
      of (inl root) = inl (c (pair_at pairs v) root)
      of (inr u) = inr u

  pub all_roots : (none new roots : Pairs) → length none ≡ 0 → IsGrown none new roots → AreReached states sets parts roots new
  all_roots none new roots e g v l = inl (subst (λ (p : ℕ × ℕ). Contains roots p) (sym here) (g.are v (0, 0) (omega (arith, l, ap length same))))
    where
      same : new ≡ g.added
      same = g.new_is ∙ ap (λ (xs : Pairs). xs ++ g.added) (no_pairs none e)

      here : pair_at new v ≡ pair_at g.added v
      here = ap (λ (xs : Pairs). pair_at xs v) same

  -- an entry that is refused
  pub entry_refused : (start old new : Pairs) (entries : List SpelledEntry) (count : ℕ) (pair : ℕ × ℕ) (fault : ModelFault) → IsSearched states sets parts start old entries count → IsPairAt old (length entries) pair →
      IsEntryFault states sets parts old new pair count fault → IsSearchFault states sets parts start fault
  entry_refused start old new entries count pair faults.TooManyVertices h p f = record {
    pairs = new;
    distinct = f.grown.distinct h.distinct;
    reached = reached_more states sets parts start old new (length entries) pair p f.grown h.reached;
    holds = f.many;
  }
  entry_refused start old new entries count pair faults.TooManyEdges h p f = record {
    pairs = old;
    distinct = h.distinct;
    reached = h.reached;
    holds = omega (arith, f, h.counted, moves_push (take (length entries) old) pair, ap (moves_in states sets parts) (taken_next old old (length entries) pair [] p (grown_none old [])), sum_by-take-le (λ (p : ℕ × ℕ). length (pair_moves states sets parts p)) old (suc (length entries)));
  }
  entry_refused start old new entries count pair faults.TooWide h p f = absurd f
  entry_refused start old new entries count pair faults.Memory h p f = tt

  pub roots_refused : (none new roots : Pairs) (fault : ModelFault) → length none ≡ 0 → IsGrowthFault none new roots fault → IsRefused states sets parts roots fault
  roots_refused none new roots faults.TooManyVertices e f = record {
    pairs = new;
    distinct = f.grown.distinct (λ u v l j h. absurd (omega (arith, e, j)));
    reached = all_roots none new roots e f.grown;
    holds = f.many;
  }
  roots_refused none new roots faults.TooManyEdges e f = absurd f
  roots_refused none new roots faults.TooWide e f = absurd f
  roots_refused none new roots faults.Memory e f = tt

  -- what is reached from some of the roots is reached from them
  pub refused_more : (some roots : Pairs) (fault : ModelFault) → ((pair : ℕ × ℕ) → Contains some pair → Contains roots pair) → IsSearchFault states sets parts some fault → IsRefused states sets parts roots fault
  refused_more some roots faults.TooManyVertices c f = record { pairs = f.pairs; distinct = f.distinct; reached = reached_from some roots f.pairs c f.reached; holds = f.holds }
  refused_more some roots faults.TooManyEdges c f = record { pairs = f.pairs; distinct = f.distinct; reached = reached_from some roots f.pairs c f.reached; holds = f.holds }
  refused_more some roots faults.TooWide c f = absurd f
  refused_more some roots faults.Memory c f = tt

pub new_entry : (states : List (List Departure)) (sets : List (List Bool)) (parts : List Part) (old new : Pairs) (pair : ℕ × ℕ) (at : ℕ) (moves : List PairMove) (entry : SpelledEntry) →
    moves ≡ pair_moves states sets parts pair → entry.id ≡ at → entry.owner ≡ owner_of_part (resolved_part parts pair.1) → entry.priority ≡ priority_of_part (resolved_part parts pair.1) → AreSuccessors old new moves entry.successors →
    IsNewEntry states sets parts old new pair at entry
new_entry states sets parts old new pair at moves entry same id owner priority successors = record {
  grown = subst (λ (m : List PairMove). IsGrown old new (targets m)) same successors.grown;
  room = successors.room;
  id = id;
  is = record { owner = owner; priority = priority; successors = subst (λ (m : List PairMove). ArePairSuccessors new m entry.successors) same successors.each };
}

-- each pair of the start is a root
pub start_are : (none start roots : Pairs) → length none ≡ 0 → IsGrown none start roots → (pair : ℕ × ℕ) → Contains start pair → Contains roots pair
start_are none start roots e g pair c = subst (λ (p : ℕ × ℕ). Contains roots p) c.2 (subst (λ (xs : Pairs). Contains roots (get_or xs c.0 pair)) (sym same) (g.are c.0 pair (omega (arith, c.1, ap length same))))
  where
    same : start ≡ g.added
    same = g.new_is ∙ ap (λ (xs : Pairs). xs ++ g.added) (no_pairs none e)

pub roots_taken : (old mid new : Pairs) (pair_for : ℕ → ℕ × ℕ) (roots : List ℕ) (i : ℕ) (places after : List ℕ) (at : ℕ) → i < length roots → AreRoots old mid (map pair_for (take i roots)) places →
    IsPlaced mid new (pair_for (get_or roots i 0)) at → after ≡ places ++ at ∷ [] → AreRoots old new (map pair_for (take (i + 1) roots)) after
roots_taken old mid new pair_for roots i places after at l h p e =
    subst (λ (r : Pairs). AreRoots old new r after) (sym taken_more) (subst (λ (a : List ℕ). AreRoots old new (map pair_for (take i roots) ++ pair_for (get_or roots i 0) ∷ []) a) (sym e) (one_root old mid new (map pair_for (take i roots)) places (pair_for (get_or roots i 0)) at h p))
  where
    taken_more : map pair_for (take (i + 1) roots) ≡ map pair_for (take i roots) ++ pair_for (get_or roots i 0) ∷ []
    taken_more = ap (λ (n : ℕ). map pair_for (take n roots)) (add-one i) ∙ ap (map pair_for) (take-suc roots i 0 l) ∙ map_push pair_for (take i roots) (get_or roots i 0)

pub none_distinct : (none : Pairs) → length none ≡ 0 → AreDistinct none
none_distinct none e u v l j h = absurd (omega arith)

-- ---- what is stored once has one number

pub never_twice : (eq : ℕ × ℕ → ℕ × ℕ → Bool) → ((p : ℕ × ℕ) → eq p p ≡ true) → (pairs : Pairs) → IsDistinct eq pairs → AreDistinct pairs
never_twice eq refl_eq pairs h u v l j e = of (apart_from_distinct eq pairs u v (0, 0) h l j)
  where
    of : eq (pair_at pairs u) (pair_at pairs v) ≡ false → ⊥
    of f = clash (sym (refl_eq (pair_at pairs v)) ∙ sym (ap (λ (p : ℕ × ℕ). eq p (pair_at pairs v)) e) ∙ f)
      where
        clash : true ≡ false → ⊥
        clash e = cc

-- ---- what is stored is the pair

got : (pairs : Pairs) (at : ℕ) (k : ℕ × ℕ) → slice_get pairs at ≡ Some k → pair_at pairs at ≡ k
got [] at k e = absurd (clash e)
  where
    clash : ◌≡◌ {A = Option (ℕ × ℕ)} None (Some k) → ⊥
    clash e = cc
got (p ∷ pairs) zero k e = of e
  where
    of : ◌≡◌ {A = Option (ℕ × ℕ)} (Some p) (Some k) → p ≡ k
    of e = cc
got (p ∷ pairs) (suc at) k e = got pairs at k e

pub stored_at : (eq : ℕ × ℕ → ℕ × ℕ → Bool) → ((p q : ℕ × ℕ) → eq p q ≡ true → p ≡ q) → (pairs : Pairs) (at : ℕ) (pair : ℕ × ℕ) →
    (k : ℕ × ℕ) × (slice_get pairs at ≡ Some k) × (eq pair k ≡ true) → pair_at pairs at ≡ pair
stored_at eq sound pairs at pair h = got pairs at h.0 h.1 ∙ sym (sound pair h.0 h.2)

pub pairs_same : (p q : ℕ × ℕ) → ((p.0 == q.0) && (p.1 == q.1)) ≡ true → p ≡ q
pairs_same p q e = of (eqb-true p.0 q.0 (and_parts (p.0 == q.0) (p.1 == q.1) e).0) (eqb-true p.1 q.1 (and_parts (p.0 == q.0) (p.1 == q.1) e).1)
  where
    of : p.0 ≡ q.0 → p.1 ≡ q.1 → p ≡ q
    of a b = ap₂ {C = ℕ × ℕ} (λ (x y : ℕ). (x, y)) a b

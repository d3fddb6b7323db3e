-- Numbering entries, and joining the edges of one vertex.
use Rattle.std.proofs.Common.{◌≡◌, ℕ, zero, suc, ◌+◌, ◌<◌, Bool, true, false, cond, ltb, List, [], ◌∷◌, ◌++◌, length, map, take, get_or, Some, None, slice_get, position, refl, sym, ap, ap₂, subst, ◌∙◌, arith}
use Rattle.std.specs.Prelude.{not, ◌||◌, ◌==◌}
use Rattle.std.specs.List.{list_any, position_or_len}
use Rattle.std.proofs.lemmas.Bool.{eqb-true, eq-eqb, ltb-true, lt-ltb}
use Rattle.std.proofs.lemmas.List.{length-map, get_or-map, take_at, take_more, map-append}
use Rattle.vpg_guards.specs.Formula.{Formula}
use Rattle.vpg_game.specs.Spelled.{SpelledSuccessor, SpelledEntry}
use Rattle.vpg_game.proofs.Parts.{some_is}
use Rattle.std.proofs.lemmas.Option.{slice_get-get_or, slice_get_within}
use Rattle.vpg_game.specs.Edges.{GuardedEdge, join_edge}
use Rattle.vpg_game.proofs.Joining.{edge_same}
use Rattle.vpg_game.specs.Game.{entry_ids, IsFirstNotHeld, IsFirstMissing, AllFound, NamedVertex, vertex_of, Lacks, Holds, AreDistinct, place_of, joined_edges, AllHeld}
use Rattle.vpg_game.specs.Building.{IsJoiningFault, IsResolvingFault}
use Rattle.vpg_game.specs.declared.fault.GameFault.{GameFault}
use Rattle.vpg_game.specs.declared.fault.GameFault.TheVariants as faults

-- ---- identifiers

pub any_held : (id : ℕ) (ks : List ℕ) → list_any (λ k. id == k) ks ≡ true → Holds ks id
any_held id [] e = absurd cc
any_held id (k ∷ ks) e = go (id == k) refl (any_held id ks) e
  where
    go : (b : Bool) → (id == k) ≡ b → (list_any (λ k. id == k) ks ≡ true → Holds ks id) → (b || list_any (λ k. id == k) ks) ≡ true → Holds (k ∷ ks) id
    go true is rec e = (0, ap (λ (n : ℕ). Some n) (sym (eqb-true id k is)))
    go false is rec e = let h = rec e in (suc h.0, h.1)

pub held_any : (id : ℕ) (ks : List ℕ) (i : ℕ) → slice_get ks i ≡ Some id → list_any (λ k. id == k) ks ≡ true
held_any id [] i e = absurd cc
held_any id (k ∷ ks) zero e = let same : id ≡ k = cc in ap (λ b. b || list_any (λ k. id == k) ks) (eq-eqb id k same)
held_any id (k ∷ ks) (suc i) e = go (id == k) (held_any id ks i e)
  where
    go : (b : Bool) → list_any (λ k. id == k) ks ≡ true → (b || list_any (λ k. id == k) ks) ≡ true
    go true h = refl
    go false h = h

pub none_lacks : (id : ℕ) (ks : List ℕ) → list_any (λ k. id == k) ks ≡ false → Lacks ks id
none_lacks id ks e i h = let t = held_any id ks i h in absurd cc

lacks_one : (ks : List ℕ) (n id : ℕ) → Lacks ks n → (n ≡ id → ⊥) → Lacks (ks ++ id ∷ []) n
lacks_one [] n id lacks ne zero e = ne cc
lacks_one [] n id lacks ne (suc i) e = absurd cc
lacks_one (m ∷ ks) n id lacks ne zero e = lacks zero e
lacks_one (m ∷ ks) n id lacks ne (suc i) e = lacks_one ks n id (λ j. lacks (suc j)) ne i e

pub distinct_more : (ks : List ℕ) (id : ℕ) → AreDistinct ks → Lacks ks id → AreDistinct (ks ++ id ∷ [])
distinct_more [] id distinct lacks = ((λ i e. absurd cc), tt)
distinct_more (n ∷ ks) id distinct lacks = (
  lacks_one ks n id distinct.0 (λ same. lacks zero (ap (λ (m : ℕ). Some m) same)),
  distinct_more ks id distinct.1 (λ j. lacks (suc j)),
)

-- ---- edges

pub joined_snoc : (ids : List ℕ) (es : List (GuardedEdge Formula)) (ss : List SpelledSuccessor) (s : SpelledSuccessor) → joined_edges ids es (ss ++ s ∷ []) ≡ join_edge (joined_edges ids es ss) (record { to = place_of ids s.id; guard = s.guard })
joined_snoc ids es [] s = refl
joined_snoc ids es (t ∷ ss) s = joined_snoc ids (join_edge es (record { to = place_of ids t.id; guard = t.guard })) ss s

pub held_snoc : (ids : List ℕ) (ss : List SpelledSuccessor) (s : SpelledSuccessor) → AllHeld ids ss → Holds ids s.id → AllHeld ids (ss ++ s ∷ [])
held_snoc ids [] s all h = (h, tt)
held_snoc ids (t ∷ ss) s all h = (all.0, held_snoc ids ss s all.1 h)

-- ---- steps of the code

pub not_false : (b : Bool) → not b ≡ false → b ≡ true
not_false true e = refl
not_false false e = absurd cc

pub not_true : (b : Bool) → not b ≡ true → b ≡ false
not_true true e = absurd cc
not_true false e = refl

pub id_at : (es : List SpelledEntry) (i : ℕ) (e : SpelledEntry) → i < length es → e ≡ get_or es i e → get_or (entry_ids es) i 0 ≡ e.id
id_at es i e lt is = get_or-map (λ (x : SpelledEntry). x.id) es i e 0 lt ∙ ap (λ (x : SpelledEntry). x.id) (sym is)

pub id_got : (es : List SpelledEntry) (i : ℕ) (e : SpelledEntry) → i < length es → e ≡ get_or es i e → slice_get (entry_ids es) i ≡ Some e.id
id_got es i e lt is =
    let within : i < length (entry_ids es) = omega (arith, length-map es (λ (x : SpelledEntry). x.id)) in
    slice_get-get_or (entry_ids es) i 0 within ∙ ap (λ (n : ℕ). Some n) (id_at es i e lt is)

pub keys_more : (es : List SpelledEntry) (i id : ℕ) (e : SpelledEntry) (keys new : List ℕ) → keys ≡ take i (entry_ids es) → i < length es → e ≡ get_or es i e → id ≡ e.id → list_any (λ k. id == k) keys ≡ false
    → new ≡ cond (list_any (λ k. id == k) keys) keys (keys ++ id ∷ []) → new ≡ take (i + 1) (entry_ids es)
keys_more es i id e keys new are lt is same none made =
    let within : i < length (entry_ids es) = omega (arith, length-map es (λ (x : SpelledEntry). x.id)) in
    made ∙ ap (λ b. cond b keys (keys ++ id ∷ [])) none ∙ ap₂ (λ (ks : List ℕ) (n : ℕ). ks ++ n ∷ []) are (same ∙ sym (id_at es i e lt is)) ∙ sym (take_more (entry_ids es) i 0 within)

pub keys_new : (id : ℕ) (keys new : List ℕ) → AreDistinct keys → list_any (λ k. id == k) keys ≡ false → new ≡ cond (list_any (λ k. id == k) keys) keys (keys ++ id ∷ []) → AreDistinct new
keys_new id keys new distinct none made =
    subst AreDistinct (sym (made ∙ ap (λ b. cond b keys (keys ++ id ∷ [])) none)) (distinct_more keys id distinct (none_lacks id keys none))

pub position_is : (p : ℕ → Bool) (ks : List ℕ) (i : ℕ) → Some i ≡ position p ks → i ≡ position_or_len p ks
position_is p ks i e = go (ltb (position_or_len p ks) (length ks)) e
  where
    go : (b : Bool) → Some i ≡ cond b (Some (position_or_len p ks)) None → i ≡ position_or_len p ks
    go true e = some_is i (position_or_len p ks) e
    go false e = absurd cc

pub got_middle : (xs ys : List SpelledSuccessor) (y : SpelledSuccessor) → slice_get (xs ++ y ∷ ys) (length xs) ≡ Some y
got_middle [] ys y = refl
got_middle (x ∷ xs) ys y = got_middle xs ys y

-- the first successor that is not found
pub first_not_held : (ids : List ℕ) (all seen rest : List SpelledSuccessor) (s : SpelledSuccessor) (id : ℕ) → seen ++ s ∷ rest ≡ all → id ≡ s.id → AllHeld ids seen → list_any (λ k. id == k) ids ≡ false → IsFirstNotHeld ids all id
first_not_held ids all seen rest s id parts same held none = (
  length seen,
  s,
  ap (λ (xs : List SpelledSuccessor). slice_get xs (length seen)) (sym parts) ∙ got_middle seen rest s,
  sym same,
  subst (AllHeld ids) (sym (ap (take (length seen)) (sym parts) ∙ take_at seen (s ∷ rest) (length seen) refl)) held,
  none_lacks id ids none,
)

pub one_more_edge : (ids : List ℕ) (seen : List SpelledSuccessor) (s : SpelledSuccessor) (edges new : List (GuardedEdge Formula)) (id to : ℕ) (guard : Formula) → edges ≡ joined_edges ids [] seen → id ≡ s.id → guard ≡ s.guard → Some to ≡ position (λ k. id == k) ids
    → new ≡ join_edge edges (record { to = to; guard = guard }) → new ≡ joined_edges ids [] (seen ++ s ∷ [])
one_more_edge ids seen s edges new id to guard are same g at made =
    let place : to ≡ place_of ids s.id = position_is (λ k. id == k) ids to at ∙ ap (place_of ids) same in
    made ∙ ap₂ (λ (es : List (GuardedEdge Formula)) (e : GuardedEdge Formula). join_edge es e) are (edge_same place g) ∙ sym (joined_snoc ids [] seen s)

pub one_more_held : (ids : List ℕ) (seen : List SpelledSuccessor) (s : SpelledSuccessor) (id : ℕ) → AllHeld ids seen → id ≡ s.id → list_any (λ k. id == k) ids ≡ true → AllHeld ids (seen ++ s ∷ [])
one_more_held ids seen s id held same any = held_snoc ids seen s held (subst (Holds ids) same (any_held id ids any))

-- ---- look-up

index_within : (id : ℕ) (ks : List ℕ) → position_or_len (λ k. id == k) ks < length ks → slice_get ks (position_or_len (λ k. id == k) ks) ≡ Some id
index_within id [] lt = absurd (omega arith)
index_within id (k ∷ ks) lt = go (id == k) refl (index_within id ks) lt
  where
    go : (t : Bool) → (id == k) ≡ t → (position_or_len (λ k. id == k) ks < length ks → slice_get ks (position_or_len (λ k. id == k) ks) ≡ Some id)
        → cond (not t) (1 + position_or_len (λ k. id == k) ks) 0 < suc (length ks) → slice_get (k ∷ ks) (cond (not t) (1 + position_or_len (λ k. id == k) ks) 0) ≡ Some id
    go true e later lt = ap (λ (n : ℕ). Some n) (sym (eqb-true id k e))
    go false e later lt = let one : 1 + position_or_len (λ k. id == k) ks ≡ suc (position_or_len (λ k. id == k) ks) = omega arith in rw one (later (omega arith))

other_id : (id k : ℕ) → (id ≡ k → ⊥) → (id == k) ≡ false
other_id id k ne = go (id == k) refl
  where
    go : (t : Bool) → (id == k) ≡ t → t ≡ false
    go true e = absurd (ne (eqb-true id k e))
    go false e = refl

pub index_held : (id : ℕ) (ks : List ℕ) (i : ℕ) → AreDistinct ks → slice_get ks i ≡ Some id → position_or_len (λ k. id == k) ks ≡ i
index_held id [] i distinct e = absurd cc
index_held id (k ∷ ks) zero distinct e = let same : id ≡ k = cc in let t = eq-eqb id k same in rw t refl
index_held id (k ∷ ks) (suc i) distinct e =
    let t : (id == k) ≡ false = other_id id k (λ same. distinct.0 i (e ∙ ap (λ (n : ℕ). Some n) same)) in
    let here = index_held id ks i distinct.1 e in
    rw t (omega arith)

pub place_found : (id : ℕ) (ks : List ℕ) (i : ℕ) → Some i ≡ position (λ k. id == k) ks → slice_get ks i ≡ Some id
place_found id ks i e = go (ltb (position_or_len (λ k. id == k) ks) (length ks)) refl e
  where
    go : (b : Bool) → ltb (position_or_len (λ k. id == k) ks) (length ks) ≡ b → Some i ≡ cond b (Some (position_or_len (λ k. id == k) ks)) None → slice_get ks i ≡ Some id
    go true t e = let same : i ≡ position_or_len (λ k. id == k) ks = some_is i (position_or_len (λ k. id == k) ks) e in ap (slice_get ks) same ∙ index_within id ks (ltb-true _ _ t)
    go false t e = absurd cc

pub place_held : (id : ℕ) (ks : List ℕ) (i : ℕ) → AreDistinct ks → slice_get ks i ≡ Some id → position (λ k. id == k) ks ≡ Some i
place_held id ks i distinct e =
    let here = index_held id ks i distinct e in
    let within : i < length ks = slice_get_within ks i id e in
    let lt : position_or_len (λ k. id == k) ks < length ks = omega arith in
    let yes : ltb (position_or_len (λ k. id == k) ks) (length ks) ≡ true = lt-ltb _ _ lt in
    rw (yes, here) refl

-- ---- vertices

pub got_entry : (xs ys : List SpelledEntry) (y : SpelledEntry) → slice_get (xs ++ y ∷ ys) (length xs) ≡ Some y
got_entry [] ys y = refl
got_entry (x ∷ xs) ys y = got_entry xs ys y

pub found_snoc : (ids : List ℕ) (es : List SpelledEntry) (e : SpelledEntry) → AllFound ids es → AllHeld ids e.successors → AllFound ids (es ++ e ∷ [])
found_snoc ids [] e all h = (h, tt)
found_snoc ids (t ∷ es) e all h = (all.0, found_snoc ids es e all.1 h)

pub first_missing : (ids : List ℕ) (all seen rest : List SpelledEntry) (e : SpelledEntry) (id : ℕ) → seen ++ e ∷ rest ≡ all → AllFound ids seen → IsFirstNotHeld ids e.successors id → IsFirstMissing ids all id
first_missing ids all seen rest e id parts held not_held = (
  length seen,
  e,
  ap (λ (xs : List SpelledEntry). slice_get xs (length seen)) (sym parts) ∙ got_entry seen rest e,
  subst (AllFound ids) (sym (ap (take (length seen)) (sym parts) ∙ take_at seen (e ∷ rest) (length seen) refl)) held,
  not_held,
)

pub joining_fault : (ids : List ℕ) (all seen rest : List SpelledEntry) (e : SpelledEntry) (ss : List SpelledSuccessor) (fault : GameFault) → seen ++ e ∷ rest ≡ all → AllFound ids seen → ss ≡ e.successors → IsJoiningFault ids ss fault → IsResolvingFault ids all fault
joining_fault ids all seen rest e ss (faults.MissingVertex id) parts held same h = first_missing ids all seen rest e id parts held (subst (λ (ts : List SpelledSuccessor). IsFirstNotHeld ids ts id) same h)
joining_fault ids all seen rest e ss faults.Memory parts held same h = tt
joining_fault ids all seen rest e ss (faults.Syntax at) parts held same h = h
joining_fault ids all seen rest e ss (faults.BadOwner at) parts held same h = h
joining_fault ids all seen rest e ss (faults.PriorityTooLarge at) parts held same h = h
joining_fault ids all seen rest e ss (faults.TooMany at) parts held same h = h
joining_fault ids all seen rest e ss (faults.Guard at fault) parts held same h = h
joining_fault ids all seen rest e ss (faults.DoubleVertex id) parts held same h = h
joining_fault ids all seen rest e ss faults.TooWide parts held same h = h

pub vertices_more : (ids : List ℕ) (seen : List SpelledEntry) (e inside : SpelledEntry) (vs new : List NamedVertex) (edges : List (GuardedEdge Formula)) → vs ≡ map (vertex_of ids) seen → inside ≡ e → edges ≡ joined_edges ids [] inside.successors
    → new ≡ vs ++ record { id = inside.id; owner = inside.owner; priority = inside.priority; edges = edges } ∷ [] → new ≡ map (vertex_of ids) (seen ++ e ∷ [])
vertices_more ids seen e inside vs new edges are same made grown =
    let vertex : ◌≡◌ {A = NamedVertex} (record { id = inside.id; owner = inside.owner; priority = inside.priority; edges = edges }) (vertex_of ids inside) =
    ap (λ (es : List (GuardedEdge Formula)). let v : NamedVertex = record { id = inside.id; owner = inside.owner; priority = inside.priority; edges = es } in v) made in
    grown ∙ ap₂ (λ (ws : List NamedVertex) (w : NamedVertex). ws ++ w ∷ []) are (vertex ∙ ap (vertex_of ids) same) ∙ sym (map-append (vertex_of ids) seen (e ∷ []))

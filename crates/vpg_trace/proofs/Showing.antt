-- What a walk shows, visit by visit.
use Rattle.std.proofs.Common.{◌≡◌, ℕ, zero, suc, ◌+◌, ◌<◌, ◌≤◌, ◌⊎◌, inl, inr, Bool, true, false, cond, List, [], ◌∷◌, ◌++◌, length, get_or, Option, Some, None, Contains, refl, sym, ap, ◌∙◌, subst, arith}
use Rattle.std.specs.Prelude.{◌==◌, nat_lt, position}
use Rattle.std.specs.List.{position_or_len}
use Rattle.std.proofs.lemmas.Bool.{cases_Bool, cases_lt, eqb-true, eqb-false, ltb-false, or_cases, false≢true}
use Rattle.std.proofs.lemmas.List.{get_or_append_left, get_or_push, get_or_past, length_push}
use Rattle.std.proofs.lemmas.List.Quantifiers.{position-Some}
use Rattle.std.proofs.lemmas.List.Sums.{fails_before_first}
use Rattle.vpg_hope.specs.Games.{Game}
use Rattle.vpg_hope.proofs.Edges.{Contains-cases, Contains-first, Contains-later, not_in_nil}
use Rattle.vpg_trace.specs.declared.walking.End.{End}
use Rattle.vpg_trace.specs.declared.walking.End.TheVariants.{GoesOn, Loop, Seen, Stands, Cut}
use Rattle.vpg_trace.specs.declared.walking.Visit.{Visit}
use Rattle.vpg_trace.specs.declared.walking.Waiting.{Waiting}
use Rattle.vpg_trace.specs.Traces.{ComesFrom, EndsAs, IsAbove, IsFirst, IsFollowed, Moves, same, back}
use Rattle.vpg_trace.specs.Walks.{depth_before, end_of, end_where, first_visit, is_above, moves_from, no_visit, visit_at, visit_before, visit_of, waiting_by, waiting_from}
use Rattle.vpg_trace.proofs.Moving.{move_in}

-- ---- one visit more

module _ (visits : List Visit) (x : Visit) where
  abbrev pub more : List Visit
  more = visits ++ x ∷ []

  pub old_visit : (i : ℕ) → i < length visits → visit_at more i ≡ visit_at visits i
  old_visit i l = get_or_append_left visits (x ∷ []) no_visit i l

  pub new_visit : visit_at more (length visits) ≡ x
  new_visit = get_or_push visits x no_visit (length visits) refl

  pub one_longer : length more ≡ length visits + 1
  one_longer = length_push visits x

  pub old_before : (i : ℕ) → i < length visits → visit_before more i ≡ visit_before visits i
  old_before i l = ap (λ (v : Visit). v.before) (old_visit i l)

  earlier_before : (j i : ℕ) → (j < length visits) ⊎ (length visits ≤ j) → visit_before visits j ≡ Some i → visit_before more j ≡ Some i
  earlier_before j i (inl l) e = old_before j l ∙ e
  earlier_before j i (inr g) e = absurd (none_there (sym (ap (λ (v : Visit). v.before) (get_or_past visits j no_visit g)) ∙ e))
    where
      none_there : None ≡ Some i → ⊥
      none_there q = cc

  pub still_above : {k i : ℕ} → IsAbove visits k i → IsAbove more k i
  still_above same = same
  still_above (back {k} {i} {j} e h) = back (earlier_before j i (cases_lt j (length visits)) e) (still_above h)

  pub same_vertex : (i : ℕ) → i < length visits → (visit_at more i).vertex ≡ (visit_at visits i).vertex
  same_vertex i l = ap (λ (v : Visit). v.vertex) (old_visit i l)

  pub same_end : (i : ℕ) → i < length visits → (visit_at more i).end ≡ (visit_at visits i).end
  same_end i l = ap (λ (v : Visit). v.end) (old_visit i l)

  still_first : (i : ℕ) → i < length visits → IsFirst visits i → IsFirst more i
  still_first i l h j less e = h j less (sym (same_vertex j (let k : j < length visits = omega arith in k)) ∙ (e ∙ same_vertex i l))

  pub still_followed : {p w : ℕ} → IsFollowed visits p w → IsFollowed more p w
  still_followed h = record {
    visit = h.visit;
    within = omega (arith, h.within, one_longer);
    before = old_before h.visit h.within ∙ h.before;
    vertex = same_vertex h.visit h.within ∙ h.vertex;
  }

module _ (game : Game) (moves : List (Option ℕ)) (visits : List Visit) (x : Visit) where
  pub moved : (p q v w : ℕ) → p ≡ q → v ≡ w → Moves game moves q w → Moves game moves p v
  moved p q v w e f m = subst (λ (n : ℕ). Moves game moves n v) (sym e) (subst (λ (n : ℕ). Moves game moves q n) (sym f) m)

  pub still_comes : (i p : ℕ) → i < length visits → ComesFrom game moves visits i p → ComesFrom game moves (more visits x) i p
  still_comes i p l h = record {
    before = old_before visits x i l ∙ h.before;
    earlier = h.earlier;
    goes_on = same_end visits x p within ∙ h.goes_on;
    move = moved _ _ _ _ (same_vertex visits x p within) (same_vertex visits x i l) h.move;
  }
    where
      within : p < length visits
      within = omega (arith, h.earlier)

  still_ends : (i : ℕ) (e : End) → i < length visits → EndsAs game moves visits i e → EndsAs game moves (more visits x) i e
  still_ends i GoesOn l h = still_first visits x i l h
  still_ends i (Loop k) l h = (h.0, same_vertex visits x k (omega (arith, h.0)) ∙ (h.1 ∙ sym (same_vertex visits x i l)), still_above visits x h.2)
  still_ends i (Seen k) l h = (h.0, same_vertex visits x k (omega (arith, h.0)) ∙ (h.1 ∙ sym (same_vertex visits x i l)))
  still_ends i Stands l h = λ w m. h w (moved _ _ _ _ (sym (same_vertex visits x i l)) refl m)
  still_ends i Cut l h = (still_first visits x i l h.0, subst (λ (v : Visit). 32 ≤ v.depth) (sym (old_visit visits x i l)) h.1)

  pub still_ends_so : (i : ℕ) → i < length visits → EndsAs game moves visits i (visit_at visits i).end → EndsAs game moves (more visits x) i (visit_at (more visits x) i).end
  still_ends_so i l h = subst (λ (e : End). EndsAs game moves (more visits x) i e) (sym (same_end visits x i l)) (still_ends i (visit_at visits i).end l h)

-- ---- how a visit ends

-- the first visit of a vertex
none_first : {X : Type 0} (test : X → Bool) (xs : List X) → position test xs ≡ None → (k : ℕ) (d : X) → k < length xs → test (get_or xs k d) ≡ false
none_first {X} test xs e k d l = at (cases_Bool (nat_lt n (length xs)))
  where
    n : ℕ
    n = position_or_len test xs

    at : (nat_lt n (length xs) ≡ true) ⊎ (nat_lt n (length xs) ≡ false) → test (get_or xs k d) ≡ false
    at (inl t) = absurd (some_there (sym (ap (λ (b : Bool). cond b (Some n) None) t) ∙ e))
      where
        some_there : Some n ≡ None → ⊥
        some_there q = cc
    at (inr f) = fails_before_first test xs k d (omega (arith, ltb-false n (length xs) f))

-- a visit that is found above the one before stands on the way
above_true : (visits : List Visit) (k n : ℕ) (at : Option ℕ) → is_above visits k n at ≡ true → (i : ℕ) × (at ≡ Some i) × IsAbove visits k i
above_true visits k zero at e = absurd (false≢true e)
above_true visits k (suc n) None e = absurd (false≢true e)
above_true visits k (suc n) (Some i) e = found (or_cases (i == k) (is_above visits k n (visit_before visits i)) e) (above_true visits k n (visit_before visits i))
  where
    found : ((i == k) ≡ true) ⊎ (is_above visits k n (visit_before visits i) ≡ true) →
        (is_above visits k n (visit_before visits i) ≡ true → (j : ℕ) × (visit_before visits i ≡ Some j) × IsAbove visits k j) → (j : ℕ) × (Some i ≡ Some j) × IsAbove visits k j
    found (inl t) rest = (i, refl, subst (λ (j : ℕ). IsAbove visits k j) (sym (eqb-true i k t)) same)
    found (inr t) rest =
        let (j, is, h) = rest t in
        (i, refl, back is h)

module _ (game : Game) (moves : List (Option ℕ)) (visits : List Visit) (next : Waiting) where
  -- the visit that is made, and where the moves from it lead
  abbrev pub made : Visit
  made = visit_of game moves visits next

  abbrev pub onward_moves : List ℕ
  onward_moves = moves_from game moves next.vertex

  abbrev pub later : List Visit
  later = more visits made

  pub made_vertex : (visit_at later (length visits)).vertex ≡ next.vertex
  made_vertex = ap (λ (v : Visit). v.vertex) (new_visit visits made)

  pub made_depth : (visit_at later (length visits)).depth ≡ next.depth
  made_depth = ap (λ (v : Visit). v.depth) (new_visit visits made)

  pub made_before : visit_before later (length visits) ≡ next.before
  made_before = ap (λ (v : Visit). v.before) (new_visit visits made)

  pub made_end : (visit_at later (length visits)).end ≡ end_of visits next onward_moves
  made_end = ap (λ (v : Visit). v.end) (new_visit visits made)

  vertex_here : (k : ℕ) → k < length visits → (visit_at visits k).vertex ≡ next.vertex → (visit_at later k).vertex ≡ (visit_at later (length visits)).vertex
  vertex_here k l e = same_vertex visits made k l ∙ (e ∙ sym made_vertex)

  -- no earlier visit is of the vertex
  first_here : first_visit visits next.vertex ≡ None → IsFirst later (length visits)
  first_here none j l e =
      eqb-false (visit_at visits j).vertex next.vertex (none_first (λ (v : Visit). v.vertex == next.vertex) visits none j no_visit l)
      (sym (same_vertex visits made j l) ∙ (e ∙ made_vertex))

  fresh_is : first_visit visits next.vertex ≡ None → (b : Bool) → nat_lt next.depth 32 ≡ b → EndsAs game moves later (length visits) (cond b GoesOn Cut)
  fresh_is none true e = first_here none
  fresh_is none false e = (first_here none, subst (λ (n : ℕ). 32 ≤ n) (sym made_depth) (ltb-false next.depth 32 e))

  found_is : (k : ℕ) → (k < length visits) × ((visit_at visits k).vertex ≡ next.vertex) → (b : Bool) → is_above visits k (length visits) next.before ≡ b →
      EndsAs game moves later (length visits) (cond b (Loop k) (Seen k))
  found_is k h true e =
      let (i, is, above) = above_true visits k (length visits) next.before e in
      (h.0, vertex_here k h.0 h.1, back (made_before ∙ is) (still_above visits made above))
  found_is k h false e = (h.0, vertex_here k h.0 h.1)

  at_first : (k : ℕ) → first_visit visits next.vertex ≡ Some k → (k < length visits) × ((visit_at visits k).vertex ≡ next.vertex)
  at_first k e =
      let h = position-Some (λ (v : Visit). v.vertex == next.vertex) visits k no_visit e in
      (h.0, eqb-true (visit_at visits k).vertex next.vertex h.1)

  where_is : (o : Option ℕ) → first_visit visits next.vertex ≡ o → EndsAs game moves later (length visits) (end_where visits next.before next.depth o)
  where_is None e = fresh_is e (nat_lt next.depth 32) refl
  where_is (Some k) e = found_is k (at_first k e) (is_above visits k (length visits) next.before) refl

  none_moves : onward_moves ≡ [] → (w : ℕ) → Moves game moves (visit_at later (length visits)).vertex w → ⊥
  none_moves e w m = not_in_nil w (subst (λ (ws : List ℕ). Contains ws w) e (move_in game moves next.vertex w (subst (λ (v : ℕ). Moves game moves v w) made_vertex m)))

  end_is : (ws : List ℕ) → onward_moves ≡ ws → EndsAs game moves later (length visits) (end_of visits next ws)
  end_is [] e = none_moves e
  end_is (w ∷ ws) e = where_is (first_visit visits next.vertex) refl

  pub made_ends : EndsAs game moves later (length visits) (visit_at later (length visits)).end
  made_ends = subst (λ (e : End). EndsAs game moves later (length visits) e) (sym made_end) (end_is onward_moves refl)

-- ---- what waits

pub record IsWaiting (waiting : List Waiting) (p w : ℕ) : Type 0 where
  pub one : Waiting
  pub there : Contains waiting one
  pub before : one.before ≡ Some p
  pub vertex : one.vertex ≡ w

-- those that come to wait by a visit
pub from_visit : (k depth : ℕ) (ws : List ℕ) (o : Waiting) → Contains (waiting_from k depth ws) o → (o.before ≡ Some k) × Contains ws o.vertex
from_visit k depth [] o c = absurd (not_in_nil o c)
from_visit k depth (w ∷ ws) o c = at (Contains-cases (record { vertex = w; before = Some k; depth = depth_before depth ws }) (waiting_from k depth ws) o c) (from_visit k depth ws o)
  where
    at : (record { vertex = w; before = Some k; depth = depth_before depth ws } ≡ o) ⊎ Contains (waiting_from k depth ws) o →
        (Contains (waiting_from k depth ws) o → (o.before ≡ Some k) × Contains ws o.vertex) → (o.before ≡ Some k) × Contains (w ∷ ws) o.vertex
    at (inl e) rest = (sym (ap (λ (u : Waiting). u.before) e), subst (λ (v : ℕ). Contains (w ∷ ws) v) (ap (λ (u : Waiting). u.vertex) e) (Contains-first w ws))
    at (inr d) rest = let h = rest d in (h.0, Contains-later w ws o.vertex h.1)

pub each_waits : (k depth : ℕ) (ws : List ℕ) (w : ℕ) → Contains ws w → IsWaiting (waiting_from k depth ws) k w
each_waits k depth [] w c = absurd (not_in_nil w c)
each_waits k depth (u ∷ ws) w c = at (Contains-cases u ws w c) (each_waits k depth ws w)
  where
    at : (u ≡ w) ⊎ Contains ws w → (Contains ws w → IsWaiting (waiting_from k depth ws) k w) → IsWaiting (waiting_from k depth (u ∷ ws)) k w
    at (inl e) rest = record { one = record { vertex = u; before = Some k; depth = depth_before depth ws }; there = Contains-first _ (waiting_from k depth ws); before = refl; vertex = e }
    at (inr d) rest = let h = rest d in record { one = h.one; there = Contains-later _ (waiting_from k depth ws) h.one h.there; before = h.before; vertex = h.vertex }

-- they wait only where the walk goes on
pub went_on : (e : End) (os : List Waiting) (o : Waiting) → Contains (waiting_by e os) o → (e ≡ GoesOn) × Contains os o
went_on GoesOn os o c = (refl, c)
went_on (Loop k) os o c = absurd (not_in_nil o c)
went_on (Seen k) os o c = absurd (not_in_nil o c)
went_on Stands os o c = absurd (not_in_nil o c)
went_on Cut os o c = absurd (not_in_nil o c)

-- the visit that one waits from
pub record IsNext (game : Game) (moves : List (Option ℕ)) (visits : List Visit) (o : Waiting) (p : ℕ) : Type 0 where
  pub before : o.before ≡ Some p
  pub within : p < length visits
  pub goes_on : (visit_at visits p).end ≡ GoesOn
  pub move : Moves game moves (visit_at visits p).vertex o.vertex

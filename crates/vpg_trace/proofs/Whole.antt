-- What a whole walk shows.
use Rattle.std.proofs.Common.{◌≡◌, ℕ, zero, suc, ◌<◌, ◌≤◌, ◌⊎◌, inl, inr, Bool, false, List, [], ◌∷◌, ◌++◌, length, Option, None, Contains, refl, sym, ap, ◌∙◌, subst, arith}
use Rattle.std.proofs.lemmas.Bool.{cases_lt, false≢true}
use Rattle.std.proofs.lemmas.List.Elements.{Contains-append_left, Contains-append_right, Contains-append_cases}
use Rattle.vpg_hope.specs.Games.{Game}
use Rattle.vpg_hope.proofs.Edges.{Contains-cases, Contains-first, Contains-later, not_in_nil}
use Rattle.vpg_trace.specs.declared.walking.End.{End}
use Rattle.vpg_trace.specs.declared.walking.End.TheVariants.{GoesOn}
use Rattle.vpg_trace.specs.declared.walking.Visit.{Visit}
use Rattle.vpg_trace.specs.declared.walking.Waiting.{Waiting}
use Rattle.vpg_trace.specs.Traces.{ComesFrom, EndsAs, IsComplete, IsFollowed, IsTrace, Moves}
use Rattle.vpg_trace.specs.Walks.{IsWalkFrom, Walked, is_left, opened, moves_from, walked, start_at, visit_at, visit_before, visit_of, waiting_by, waiting_from, walk, walk_from}
use Rattle.vpg_trace.proofs.Moving.{is_move, move_in}
use Rattle.vpg_trace.proofs.Showing.{IsNext, IsWaiting, each_waits, from_visit, made_before, made_end, made_ends, made_vertex, more, moved, new_visit, old_visit, one_longer, same_end, same_vertex, still_comes, still_ends_so, still_followed, went_on}

module _ (game : Game) (moves : List (Option ℕ)) (first : ℕ) where
  -- where the walk stands: what waits, and the visits that were made
  pub record IsWalking (waiting : List Waiting) (visits : List Visit) : Type 0 where
    pub started : ((visits ≡ []) × (waiting ≡ start_at first))
        ⊎ ((0 < length visits) × ((visit_at visits 0).vertex ≡ first) × (visit_before visits 0 ≡ None))
    pub others : (i : ℕ) → 0 < i → i < length visits → (p : ℕ) × ComesFrom game moves visits i p
    pub ends : (i : ℕ) → i < length visits → EndsAs game moves visits i (visit_at visits i).end
    pub comes : (o : Waiting) → Contains waiting o → 0 < length visits → (p : ℕ) × IsNext game moves visits o p
    pub followed : (p w : ℕ) → p < length visits → (visit_at visits p).end ≡ GoesOn → Moves game moves (visit_at visits p).vertex w → IsFollowed visits p w ⊎ IsWaiting waiting p w

  pub begins : IsWalking (start_at first) []
  begins = record {
    started = inl (refl, refl);
    others = λ i more l. absurd (omega arith);
    ends = λ i l. absurd (omega arith);
    comes = λ o c l. absurd (omega arith);
    followed = λ p w l. absurd (omega arith);
  }

  -- ---- one visit more

  module _ (next : Waiting) (waiting : List Waiting) (visits : List Visit) (is : IsWalking (next ∷ waiting) visits) where
    abbrev n : ℕ
    n = length visits

    abbrev x : Visit
    x = visit_of game moves visits next

    abbrev after : List Visit
    after = more visits x

    abbrev left_over : List Waiting
    left_over = opened game moves visits next ++ waiting

    cases_last : (i : ℕ) → i < length after → (i < n) ⊎ (i ≡ n)
    cases_last i l = at (cases_lt i n)
      where
        at : (i < n) ⊎ (n ≤ i) → (i < n) ⊎ (i ≡ n)
        at (inl h) = inl h
        at (inr h) = inr (omega (arith, one_longer visits x))

    n_there : n < length after
    n_there = omega (arith, one_longer visits x)

    started_after : ((visits ≡ []) × (next ∷ waiting ≡ start_at first)) ⊎ ((0 < length visits) × ((visit_at visits 0).vertex ≡ first) × (visit_before visits 0 ≡ None)) →
        (0 < length after) × ((visit_at after 0).vertex ≡ first) × (visit_before after 0 ≡ None)
    started_after (inl h) = (omega (arith, n_there), ap (λ (v : Visit). v.vertex) at_start ∙ ap (λ (o : Waiting). o.vertex) next_is, ap (λ (v : Visit). v.before) at_start ∙ ap (λ (o : Waiting). o.before) next_is)
      where
        none : n ≡ 0
        none = ap (λ (vs : List Visit). length vs) h.0

        at_start : visit_at after 0 ≡ x
        at_start = ap (λ (k : ℕ). visit_at after k) (sym none) ∙ new_visit visits x

        next_is : next ≡ record { vertex = first; before = None; depth = 0 }
        next_is = let e : next ∷ waiting ≡ start_at first = h.1 in cc
    started_after (inr h) = (omega (arith, n_there), same_vertex visits x 0 h.0 ∙ h.1, ap (λ (v : Visit). v.before) (old_visit visits x 0 h.0) ∙ h.2)

    here_comes : (p : ℕ) → IsNext game moves visits next p → ComesFrom game moves after n p
    here_comes p h = record {
      before = made_before game moves visits next ∙ h.before;
      earlier = h.within;
      goes_on = same_end visits x p h.within ∙ h.goes_on;
      move = moved game moves visits x _ _ _ _ (same_vertex visits x p h.within) (made_vertex game moves visits next) h.move;
    }

    others_after : (i : ℕ) → 0 < i → (i < n) ⊎ (i ≡ n) → (p : ℕ) × ComesFrom game moves after i p
    others_after i some (inl l) = let h = is.others i some l in (h.0, still_comes game moves visits x i h.0 l h.1)
    others_after i some (inr e) =
        let h = is.comes next (Contains-first next waiting) (omega arith) in
        (h.0, subst (λ (k : ℕ). ComesFrom game moves after k h.0) (sym e) (here_comes h.0 h.1))

    ends_after : (i : ℕ) → (i < n) ⊎ (i ≡ n) → EndsAs game moves after i (visit_at after i).end
    ends_after i (inl l) = still_ends_so game moves visits x i l (is.ends i l)
    ends_after i (inr e) = subst (λ (k : ℕ). EndsAs game moves after k (visit_at after k).end) (sym e) (made_ends game moves visits next)

    -- ---- what waits then

    still_next : (o : Waiting) (p : ℕ) → IsNext game moves visits o p → IsNext game moves after o p
    still_next o p h = record {
      before = h.before;
      within = omega (arith, h.within, one_longer visits x);
      goes_on = same_end visits x p h.within ∙ h.goes_on;
      move = moved game moves visits x _ _ _ _ (same_vertex visits x p h.within) refl h.move;
    }

    old_waits : (o : Waiting) → Contains waiting o → ((visits ≡ []) × (next ∷ waiting ≡ start_at first)) ⊎ ((0 < length visits) × ((visit_at visits 0).vertex ≡ first) × (visit_before visits 0 ≡ None)) →
        (p : ℕ) × IsNext game moves after o p
    old_waits o c (inl h) = absurd (not_in_nil o (subst (λ (os : List Waiting). Contains os o) (let e : next ∷ waiting ≡ start_at first = h.1 in let f : waiting ≡ [] = cc in f) c))
    old_waits o c (inr h) = let q = is.comes o (Contains-later next waiting o c) h.0 in (q.0, still_next o q.0 q.1)

    new_waits : (o : Waiting) → Contains (opened game moves visits next) o → IsNext game moves after o n
    new_waits o c =
        let w = went_on x.end _ o c in
        let f = from_visit n next.depth _ o w.1 in
        record {
          before = f.0;
          within = n_there;
          goes_on = made_end game moves visits next ∙ w.0;
          move = subst (λ (v : ℕ). Moves game moves v o.vertex) (sym (made_vertex game moves visits next)) (is_move game moves next.vertex o.vertex f.1);
        }

    comes_after : (o : Waiting) → Contains (opened game moves visits next) o ⊎ Contains waiting o → (p : ℕ) × IsNext game moves after o p
    comes_after o (inl c) = (n, new_waits o c)
    comes_after o (inr c) = old_waits o c is.started

    -- ---- what is followed

    waits_still : (p w : ℕ) → IsWaiting waiting p w → IsWaiting left_over p w
    waits_still p w h = record { one = h.one; there = Contains-append_right (opened game moves visits next) waiting h.one h.there; before = h.before; vertex = h.vertex }

    now_followed : (p w : ℕ) (h : IsWaiting (next ∷ waiting) p w) → (next ≡ h.one) ⊎ Contains waiting h.one → IsFollowed after p w ⊎ IsWaiting left_over p w
    now_followed p w h (inl e) = inl (record {
      visit = n;
      within = n_there;
      before = made_before game moves visits next ∙ (ap (λ (o : Waiting). o.before) e ∙ h.before);
      vertex = made_vertex game moves visits next ∙ (ap (λ (o : Waiting). o.vertex) e ∙ h.vertex);
    })
    now_followed p w h (inr c) = inr (waits_still p w (record { one = h.one; there = c; before = h.before; vertex = h.vertex }))

    old_followed : (p w : ℕ) → IsFollowed visits p w ⊎ IsWaiting (next ∷ waiting) p w → IsFollowed after p w ⊎ IsWaiting left_over p w
    old_followed p w (inl h) = inl (still_followed visits x h)
    old_followed p w (inr h) = now_followed p w h (Contains-cases next waiting h.one h.there)

    new_followed : (w : ℕ) → x.end ≡ GoesOn → Moves game moves next.vertex w → IsWaiting left_over n w
    new_followed w e m =
        let h = each_waits n next.depth _ w (move_in game moves next.vertex w m) in
        record {
          one = h.one;
          there = Contains-append_left (opened game moves visits next) waiting h.one (opens h.one h.there);
          before = h.before;
          vertex = h.vertex;
        }
      where
        opens : (o : Waiting) → Contains (waiting_from n next.depth (moves_from game moves next.vertex)) o → Contains (opened game moves visits next) o
        opens o c = subst (λ (e : End). Contains (waiting_by e (waiting_from n next.depth (moves_from game moves next.vertex))) o) (sym e) c

    followed_after : (p w : ℕ) → (p < n) ⊎ (p ≡ n) → (visit_at after p).end ≡ GoesOn → Moves game moves (visit_at after p).vertex w → IsFollowed after p w ⊎ IsWaiting left_over p w
    followed_after p w (inl l) e m =
        old_followed p w (is.followed p w l (sym (same_end visits x p l) ∙ e) (moved game moves visits x _ _ _ _ (sym (same_vertex visits x p l)) refl m))
    followed_after p w (inr q) e m =
        subst (λ (k : ℕ). IsFollowed after k w ⊎ IsWaiting left_over k w) (sym q)
        (inr (new_followed w (sym (made_end game moves visits next) ∙ (ap (λ (k : ℕ). (visit_at after k).end) (sym q) ∙ e))
        (subst (λ (v : ℕ). Moves game moves v w) (ap (λ (k : ℕ). (visit_at after k).vertex) q ∙ made_vertex game moves visits next) m)))

    pub walks_on : IsWalking left_over after
    walks_on = record {
      started = inr (started_after is.started);
      others = λ i some l. others_after i some (cases_last i l);
      ends = λ i l. ends_after i (cases_last i l);
      comes = λ o c l. comes_after o (Contains-append_cases (opened game moves visits next) waiting o c);
      followed = λ p w l e m. followed_after p w (cases_last p l) e m;
    }

  -- ---- the walk

  pub walks : (n : ℕ) (waiting : List Waiting) (visits : List Visit) → IsWalking waiting visits → IsWalking (walk game moves n waiting visits).waiting (walk game moves n waiting visits).visits
  walks zero waiting visits is = is
  walks (suc n) [] visits is = is
  walks (suc n) (next ∷ waiting) visits is =
      walks n (opened game moves visits next ++ waiting) (visits ++ visit_of game moves visits next ∷ []) (walks_on next waiting visits is)

  -- none is lost
  pub grows : (n : ℕ) (waiting : List Waiting) (visits : List Visit) → length visits ≤ length (walk game moves n waiting visits).visits
  grows zero waiting visits = omega arith
  grows (suc n) [] visits = omega arith
  grows (suc n) (next ∷ waiting) visits =
      let l = grows n (opened game moves visits next ++ waiting) (visits ++ visit_of game moves visits next ∷ []) in
      omega (arith, l, one_longer visits (visit_of game moves visits next))

  pub some_visit : (n : ℕ) → 0 < n → 0 < length (walk game moves n (start_at first) []).visits
  some_visit zero l = absurd (omega arith)
  some_visit (suc n) l =
      let g = grows n (opened game moves [] (record { vertex = first; before = None; depth = 0 }) ++ []) ([] ++ visit_of game moves [] (record { vertex = first; before = None; depth = 0 }) ∷ []) in
      omega (arith, g)

  at_last : (visits : List Visit) (waiting : List Waiting) → 0 < length visits → IsWalking waiting visits → IsTrace game moves first visits
  at_last visits waiting some is = at is.started
    where
      at : ((visits ≡ []) × (waiting ≡ start_at first)) ⊎ ((0 < length visits) × ((visit_at visits 0).vertex ≡ first) × (visit_before visits 0 ≡ None)) → IsTrace game moves first visits
      at (inl h) = absurd (omega (arith, ap (λ (vs : List Visit). length vs) h.0))
      at (inr h) = record { some = h.0; begins = h.1; start = h.2; others = is.others; ends = is.ends }

  -- a walk is a trace
  pub is_trace : (n : ℕ) → 0 < n → IsTrace game moves first (walk game moves n (start_at first) []).visits
  is_trace n l = at_last _ _ (some_visit n l) (walks n (start_at first) [] begins)

  none_waits : (waiting : List Waiting) → is_left waiting ≡ false → waiting ≡ []
  none_waits [] e = refl
  none_waits (o ∷ waiting) e = absurd (false≢true (sym e))

  -- and a complete one where none waits
  pub is_complete : (n : ℕ) → is_left (walk game moves n (start_at first) []).waiting ≡ false → IsComplete game moves (walk game moves n (start_at first) []).visits
  is_complete n e p w l goes m = at ((walks n (start_at first) [] begins).followed p w l goes m)
    where
      at : IsFollowed (walk game moves n (start_at first) []).visits p w ⊎ IsWaiting (walk game moves n (start_at first) []).waiting p w → IsFollowed (walk game moves n (start_at first) []).visits p w
      at (inl h) = h
      at (inr h) = absurd (not_in_nil h.one (subst (λ (os : List Waiting). Contains os h.one) (none_waits (walk game moves n (start_at first) []).waiting e) h.there))

-- ---- what is made is the walk

module _ (game : Game) (moves : List (Option ℕ)) (first : ℕ) (visits : List Visit) (waiting : List Waiting) (is : walked visits waiting ≡ walk game moves 1000 (start_at first) []) where
  made_is : visits ≡ (walk game moves 1000 (start_at first) []).visits
  made_is = ap (λ (w : Walked). w.visits) is

  left_is_so : waiting ≡ (walk game moves 1000 (start_at first) []).waiting
  left_is_so = ap (λ (w : Walked). w.waiting) is

  pub shows_trace : IsTrace game moves first visits
  shows_trace = subst (λ (vs : List Visit). IsTrace game moves first vs) (sym made_is) (is_trace game moves first 1000 (omega arith))

  pub shows_all : (is_cut : Bool) → is_cut ≡ is_left waiting → is_cut ≡ false → IsComplete game moves visits
  shows_all is_cut cut whole =
      subst (λ (vs : List Visit). IsComplete game moves vs) (sym made_is)
      (is_complete game moves first 1000 (ap is_left (sym left_is_so) ∙ (sym cut ∙ whole)))

  pub is_walk : (is_cut : Bool) → is_cut ≡ is_left waiting → IsWalkFrom game moves first visits is_cut
  unfolding walk_from
  is_walk is_cut cut = record { made = made_is; cut = cut ∙ ap is_left left_is_so }

-- A search for the vertices that a play can come to.
use Rattle.std.proofs.Common.{◌≡◌, ℕ, zero, suc, ◌+◌, ◌<◌, ◌≤◌, ◌⊎◌, ◌↔◌, inl, inr, Bool, true, false, cond, List, [], ◌∷◌, ◌++◌, length, get_or, set, take, replicate, Contains, count_by, sum_by, Option, Some, refl, sym, ap, ◌∙◌, subst, arith, append-nil, append_assoc}
use Rattle.std.proofs.lemmas.Bool.{cases_eq, cases_lt}
use Rattle.std.proofs.lemmas.List.{take_all, length-append, length-set, get_or-set_same, get_or-set_other, get_or_append_left, get_or_past, take_more}
use Rattle.std.proofs.lemmas.List.Elements.{Contains-append_left, Contains-append_right, Contains-append_cases}
use Rattle.std.proofs.lemmas.List.Sums.{count_by-le-length, sum_by-set, sum_by-cons}
use Rattle.std.specs.Prelude.{◌≢◌}
use Rattle.vpg_guards.specs.declared.tri.Tri.{Tri}
use Rattle.vpg_guards.specs.Formula.{Formula}
use Rattle.vpg_guards.specs.Known.{kleene}
use Rattle.vpg_features.proofs.Noted.{any_default}
use Rattle.vpg_sides.specs.declared.player.Player.{Player}
use Rattle.vpg_game.specs.Game.{vertex_in}
use Rattle.vpg_game.specs.Guarded.{GuardedEdge, GuardedGame}
use Rattle.vpg_hope.specs.Games.{Game, owner_of, successors_of}
use Rattle.vpg_hope.specs.Strategies.{Strategy, AllowsMove, Reaches}
use Rattle.vpg_hope.specs.Strategies as plays
use Rattle.vpg_hope.proofs.Edges.{Contains-cases, Contains-first, not_in_nil}
use Rattle.vpg_measure.specs.Views.{strategy_of}
use Rattle.vpg_why.specs.Reachable.{MayStep, Leads, here, onward}
use Rattle.vpg_why.specs.Searched.{AreQueued, AreNoted, IsBegun}

-- ---- marks

abbrev IsMarked : List Bool → ℕ → Type 0
IsMarked marks v = get_or marks v false ≡ true

blank_is : (n v : ℕ) → get_or (replicate n false) v false ≡ false
blank_is zero v = refl
blank_is (suc n) zero = refl
blank_is (suc n) (suc v) = blank_is n v

clash : (v : ℕ) (marks : List Bool) → get_or marks v false ≡ false → IsMarked marks v → ⊥
clash v marks f t = cc (sym f ∙ t)

abbrev ones : Bool → ℕ
ones b = cond b 1 0

none_more : (a b : ℕ) → a ≡ 0 + b → b ≡ 0 → a ≡ 0
none_more a b e z = omega arith

blank_count : (n : ℕ) → count_by (λ b. b) (replicate n false) ≡ 0
blank_count zero = refl
blank_count (suc n) = none_more (count_by (λ b. b) (replicate (suc n) false)) (count_by (λ b. b) (replicate n false)) (sum_by-cons ones false (replicate n false)) (blank_count n)

none_queued : (n : ℕ) → AreQueued (replicate n false) []
none_queued n = record {
  marked = λ v. (λ m. absurd (clash v (replicate n false) (blank_is n v) m), λ c. absurd (not_in_nil v c));
  count = sym (blank_count n);
}

pub blank_queued : (n : ℕ) (marks : List Bool) (queue : List ℕ) → marks ≡ replicate n false → queue ≡ [] → AreQueued marks queue
blank_queued n marks queue blank empty = subst (λ (q : List ℕ). AreQueued marks q) (sym empty) (subst (λ (bs : List Bool). AreQueued bs []) (sym blank) (none_queued n))

-- ---- one vertex more

set_marked : (marks : List Bool) (w v : ℕ) → w < length marks → (v ≡ w) ⊎ (v ≡ w → ⊥) → IsMarked (set marks w true) v → IsMarked marks v ⊎ (v ≡ w)
set_marked marks w v less (inl e) m = inr e
set_marked marks w v less (inr n) m = inl (sym (get_or-set_other marks w v true false n) ∙ m)

marked_set : (marks : List Bool) (w v : ℕ) → w < length marks → (v ≡ w) ⊎ (v ≡ w → ⊥) → IsMarked marks v → IsMarked (set marks w true) v
marked_set marks w v less (inl e) m = ap (λ k. get_or (set marks w true) k false) e ∙ get_or-set_same marks w true false less
marked_set marks w v less (inr n) m = get_or-set_other marks w v true false n ∙ m

only : {X : Type 0} (w v : X) → Contains (w ∷ []) v → v ≡ w
only w v c = at (Contains-cases w [] v c)
  where
    at : (w ≡ v) ⊎ Contains [] v → v ≡ w
    at (inl e) = sym e
    at (inr n) = absurd (not_in_nil v n)

pub noted_new : (marks : List Bool) (queue : List ℕ) (w : ℕ) → AreQueued marks queue → w < length marks → get_or marks w false ≡ false → AreNoted (λ v. v ≡ w) marks queue (set marks w true) (queue ++ w ∷ [])
noted_new marks queue w is less new = record {
  count = length-set marks w true;
  added = w ∷ [];
  extended = refl;
  each = λ v c. only w v c;
  noted = λ v e. ap (λ k. get_or (set marks w true) k false) e ∙ get_or-set_same marks w true false less;
  queued = record {
    marked = λ v. (
      λ m. from v (set_marked marks w v less (cases_eq v w) m),
      λ c. back v (Contains-append_cases queue (w ∷ []) v c),
    );
    count = length-append queue (w ∷ []) ∙ counted (sum_by-set ones marks w true false less);
  };
}
  where
    from : (v : ℕ) → IsMarked marks v ⊎ (v ≡ w) → Contains (queue ++ w ∷ []) v
    from v (inl m) = Contains-append_left queue (w ∷ []) v ((is.marked v).0 m)
    from v (inr e) = Contains-append_right queue (w ∷ []) v (subst (λ k. Contains (w ∷ []) k) (sym e) (Contains-first w []))

    back : (v : ℕ) → Contains queue v ⊎ Contains (w ∷ []) v → IsMarked (set marks w true) v
    back v (inl c) = marked_set marks w v less (cases_eq v w) ((is.marked v).1 c)
    back v (inr c) = ap (λ k. get_or (set marks w true) k false) (only w v c) ∙ get_or-set_same marks w true false less

    zero_there : ones (get_or marks w false) ≡ 0
    zero_there = ap ones new

    counted : sum_by ones (set marks w true) + ones (get_or marks w false) ≡ sum_by ones marks + 1 → length queue + 1 ≡ count_by (λ b. b) (set marks w true)
    counted e = omega (arith, e, zero_there, is.count)

pub noted_old : (marks : List Bool) (queue : List ℕ) (w : ℕ) → AreQueued marks queue → get_or marks w false ≡ true → AreNoted (λ v. v ≡ w) marks queue marks queue
noted_old marks queue w is old = record {
  count = refl;
  added = [];
  extended = sym (append-nil queue);
  each = λ v c. absurd (not_in_nil v c);
  noted = λ v e. ap (λ k. get_or marks k false) e ∙ old;
  queued = is;
}

-- ---- the moves of a vertex

-- of some successors those that are allowed
abbrev pub IsAllowedIn : List ℕ → Player → Option ℕ → ℕ → Type 0
IsAllowedIn successors owner choice w = Contains successors w × (owner ≡ Player.Even → choice ≡ Some w)

pub kept_marks : {Is : ℕ → Type 0} {marks later_marks : List Bool} {queue later_queue : List ℕ} → AreQueued marks queue → AreNoted Is marks queue later_marks later_queue → (v : ℕ) → IsMarked marks v → IsMarked later_marks v
kept_marks {queue = queue} is noted v m = (noted.queued.marked v).1 (subst (λ (q : List ℕ). Contains q v) (sym noted.extended) (Contains-append_left queue noted.added v ((is.marked v).0 m)))

-- none yet
pub noted_none : (Is : ℕ → Type 0) (marks : List Bool) (queue : List ℕ) → AreQueued marks queue → ((v : ℕ) → Is v → ⊥) → AreNoted Is marks queue marks queue
noted_none Is marks queue is none = record {
  count = refl;
  added = [];
  extended = sym (append-nil queue);
  each = λ v c. absurd (not_in_nil v c);
  noted = λ v i. absurd (none v i);
  queued = is;
}

-- as many as before
pub noted_same : {Is Also : ℕ → Type 0} {marks later_marks : List Bool} {queue later_queue : List ℕ} → ((v : ℕ) → Is v → Also v) → ((v : ℕ) → Also v → Is v) →
    AreNoted Is marks queue later_marks later_queue → AreNoted Also marks queue later_marks later_queue
noted_same to from is = record {
  count = is.count;
  added = is.added;
  extended = is.extended;
  each = λ v c. to v (is.each v c);
  noted = λ v a. is.noted v (from v a);
  queued = is.queued;
}

-- and one more
pub noted_more : (Is Also : ℕ → Type 0) (w : ℕ) (marks now next : List Bool) (queue queue_now queue_next : List ℕ) → Also w → ((v : ℕ) → Is v → Also v) → ((v : ℕ) → Also v → Is v ⊎ (v ≡ w)) →
    AreNoted Is marks queue now queue_now → AreNoted (λ v. v ≡ w) now queue_now next queue_next → AreNoted Also marks queue next queue_next
noted_more Is Also w marks now next queue queue_now queue_next it to from is more = record {
  count = more.count ∙ is.count;
  added = is.added ++ more.added;
  extended = more.extended ∙ ap (λ (q : List ℕ). q ++ more.added) is.extended ∙ append_assoc queue is.added more.added;
  each = λ v c. each v (Contains-append_cases is.added more.added v c);
  noted = λ v a. noted v (from v a);
  queued = more.queued;
}
  where
    each : (v : ℕ) → Contains is.added v ⊎ Contains more.added v → Also v
    each v (inl c) = to v (is.each v c)
    each v (inr c) = subst Also (sym (more.each v c)) it

    noted : (v : ℕ) → Is v ⊎ (v ≡ w) → IsMarked next v
    noted v (inl i) = kept_marks is.queued more v (is.noted v i)
    noted v (inr e) = more.noted v e

module _ (successors : List ℕ) (owner : Player) (choice : Option ℕ) (marks : List Bool) (queue : List ℕ) where
  -- the first so many successors that are allowed were noted
  abbrev pub HaveNoted : ℕ → List Bool → List ℕ → Type 0
  HaveNoted n now queue_now = AreNoted (IsAllowedIn (take n successors) owner choice) marks queue now queue_now

  pub noted_begun : AreQueued marks queue → HaveNoted 0 marks queue
  noted_begun is = noted_none (IsAllowedIn (take 0 successors) owner choice) marks queue is (λ v i. not_in_nil v i.0)

  module _ (i : ℕ) (inside : i < length successors) (now : List Bool) (queue_now : List ℕ) (noted : HaveNoted i now queue_now) where
    abbrev it : ℕ
    it = get_or successors i 0

    earlier : (v : ℕ) → IsAllowedIn (take i successors) owner choice v → IsAllowedIn (take (i + 1) successors) owner choice v
    earlier v a = (subst (λ (xs : List ℕ). Contains xs v) (sym (take_more successors i 0 inside)) (Contains-append_left (take i successors) (it ∷ []) v a.0), a.1)

    now_too : (v : ℕ) → IsAllowedIn (take (i + 1) successors) owner choice v → IsAllowedIn (take i successors) owner choice v ⊎ (v ≡ it)
    now_too v a = at (Contains-append_cases (take i successors) (it ∷ []) v (subst (λ (xs : List ℕ). Contains xs v) (take_more successors i 0 inside) a.0))
      where
        at : Contains (take i successors) v ⊎ Contains (it ∷ []) v → IsAllowedIn (take i successors) owner choice v ⊎ (v ≡ it)
        at (inl c) = inl (c, a.1)
        at (inr c) = inr (only it v c)

    pub allowed_next : (next : List Bool) (queue_next : List ℕ) → (owner ≡ Player.Even → choice ≡ Some it) → AreNoted (λ v. v ≡ it) now queue_now next queue_next → HaveNoted (i + 1) next queue_next
    allowed_next next queue_next may more = noted_more (IsAllowedIn (take i successors) owner choice) (IsAllowedIn (take (i + 1) successors) owner choice) it marks now next queue queue_now queue_next
        (subst (λ (xs : List ℕ). Contains xs it) (sym (take_more successors i 0 inside)) (Contains-append_right (take i successors) (it ∷ []) it (Contains-first it [])), may)
        earlier now_too noted more

    pub refused_next : ((owner ≡ Player.Even → choice ≡ Some it) → ⊥) → HaveNoted (i + 1) now queue_now
    refused_next not = noted_same earlier back noted
      where
        back : (v : ℕ) → IsAllowedIn (take (i + 1) successors) owner choice v → IsAllowedIn (take i successors) owner choice v
        back v a = at (now_too v a)
          where
            at : IsAllowedIn (take i successors) owner choice v ⊎ (v ≡ it) → IsAllowedIn (take i successors) owner choice v
            at (inl b) = b
            at (inr e) = absurd (not (λ o. a.1 o ∙ ap Some e))

  -- all of them are the vertices that a move leads to
  pub all_noted : (game : Game) (moves : List (Option ℕ)) (v n : ℕ) (now : List Bool) (queue_now : List ℕ) → length successors ≤ n → successors ≡ successors_of game v → owner ≡ owner_of game v →
      choice ≡ strategy_of moves v → HaveNoted n now queue_now → AreNoted (AllowsMove game Player.Even (strategy_of moves) v) marks queue now queue_now
  all_noted game moves v n now queue_now all same own chosen noted = noted_same to from noted
    where
      to : (w : ℕ) → IsAllowedIn (take n successors) owner choice w → AllowsMove game Player.Even (strategy_of moves) v w
      to w a = (subst (λ (xs : List ℕ). Contains xs w) (take_all n successors all ∙ same) a.0, λ o. sym chosen ∙ a.1 (own ∙ o))

      from : (w : ℕ) → AllowsMove game Player.Even (strategy_of moves) v w → IsAllowedIn (take n successors) owner choice w
      from w a = (subst (λ (xs : List ℕ). Contains xs w) (sym (take_all n successors all ∙ same)) a.0, λ o. chosen ∙ a.1 (sym own ∙ o))

-- ---- the steps of a vertex

-- one of these edges, which may be taken, leads there
abbrev pub IsTaken : List (GuardedEdge Formula) → List Tri → Option Player → Player → Option ℕ → ℕ → Type 0
IsTaken edges known mover owner choice w =
    (e : GuardedEdge Formula) × Contains edges e × (kleene known e.guard ≢ Tri.No) × (e.to ≡ w) × (mover ≡ Some owner → choice ≡ Some w)

module _ (edges : List (GuardedEdge Formula)) (known : List Tri) (mover : Option Player) (owner : Player) (choice : Option ℕ) (marks : List Bool) (queue : List ℕ) where
  -- where the first so many edges lead was noted
  abbrev pub HaveTaken : ℕ → List Bool → List ℕ → Type 0
  HaveTaken n now queue_now = AreNoted (IsTaken (take n edges) known mover owner choice) marks queue now queue_now

  pub taken_begun : AreQueued marks queue → HaveTaken 0 marks queue
  taken_begun is = noted_none (IsTaken (take 0 edges) known mover owner choice) marks queue is (λ v t. not_in_nil t.0 t.1)

  module _ (i : ℕ) (inside : i < length edges) (e : GuardedEdge Formula) (is : e ≡ get_or edges i e) (now : List Bool) (queue_now : List ℕ) (noted : HaveTaken i now queue_now) where
    split : take (i + 1) edges ≡ take i edges ++ e ∷ []
    split = take_more edges i e inside ∙ ap (λ (f : GuardedEdge Formula). take i edges ++ f ∷ []) (sym is)

    sooner : (v : ℕ) → IsTaken (take i edges) known mover owner choice v → IsTaken (take (i + 1) edges) known mover owner choice v
    sooner v t = (t.0, subst (λ (fs : List (GuardedEdge Formula)). Contains fs t.0) (sym split) (Contains-append_left (take i edges) (e ∷ []) t.0 t.1), t.2, t.3, t.4)

    sooner_or : (v : ℕ) → IsTaken (take (i + 1) edges) known mover owner choice v → IsTaken (take i edges) known mover owner choice v ⊎ IsTaken (e ∷ []) known mover owner choice v
    sooner_or v t = at (Contains-append_cases (take i edges) (e ∷ []) t.0 (subst (λ (fs : List (GuardedEdge Formula)). Contains fs t.0) split t.1))
      where
        at : Contains (take i edges) t.0 ⊎ Contains (e ∷ []) t.0 → IsTaken (take i edges) known mover owner choice v ⊎ IsTaken (e ∷ []) known mover owner choice v
        at (inl c) = inl (t.0, c, t.2, t.3, t.4)
        at (inr c) = inr (t.0, c, t.2, t.3, t.4)

    pub taken_next : (next : List Bool) (queue_next : List ℕ) → kleene known e.guard ≢ Tri.No → (mover ≡ Some owner → choice ≡ Some e.to) → AreNoted (λ v. v ≡ e.to) now queue_now next queue_next → HaveTaken (i + 1) next queue_next
    taken_next next queue_next may listed more = noted_more (IsTaken (take i edges) known mover owner choice) (IsTaken (take (i + 1) edges) known mover owner choice) e.to marks now next queue queue_now queue_next
        (e, subst (λ (fs : List (GuardedEdge Formula)). Contains fs e) (sym split) (Contains-append_right (take i edges) (e ∷ []) e (Contains-first e [])), may, refl, listed)
        sooner (λ v t. at v (sooner_or v t)) noted more
      where
        at : (v : ℕ) → IsTaken (take i edges) known mover owner choice v ⊎ IsTaken (e ∷ []) known mover owner choice v → IsTaken (take i edges) known mover owner choice v ⊎ (v ≡ e.to)
        at v (inl t) = inl t
        at v (inr t) = inr (sym t.3 ∙ ap (λ (f : GuardedEdge Formula). f.to) (only e t.0 t.1))

    pub untaken_next : ((kleene known e.guard ≢ Tri.No) × (mover ≡ Some owner → choice ≡ Some e.to) → ⊥) → HaveTaken (i + 1) now queue_now
    untaken_next not = noted_same sooner (λ v t. at v (sooner_or v t)) noted
      where
        at : (v : ℕ) → IsTaken (take i edges) known mover owner choice v ⊎ IsTaken (e ∷ []) known mover owner choice v → IsTaken (take i edges) known mover owner choice v
        at v (inl t) = t
        at v (inr t) =
            let same : t.0 ≡ e = only e t.0 t.1 in
            absurd (not (subst (λ (f : GuardedEdge Formula). kleene known f.guard ≢ Tri.No) same t.2, λ o. t.4 o ∙ ap Some (sym t.3 ∙ ap (λ (f : GuardedEdge Formula). f.to) same)))

  -- where all of them lead is where a step leads
  pub all_taken : (game : GuardedGame Formula) (moves : List (Option ℕ)) (v n : ℕ) (now : List Bool) (queue_now : List ℕ) → length edges ≤ n → edges ≡ (vertex_in game v).edges →
      owner ≡ (vertex_in game v).owner → choice ≡ strategy_of moves v → HaveTaken n now queue_now → AreNoted (MayStep game known mover moves v) marks queue now queue_now
  all_taken game moves v n now queue_now all same own chosen noted = noted_same to from noted
    where
      to : (w : ℕ) → IsTaken (take n edges) known mover owner choice w → MayStep game known mover moves v w
      to w t = record {
        edge = t.0;
        its = subst (λ (fs : List (GuardedEdge Formula)). Contains fs t.0) (take_all n edges all ∙ same) t.1;
        may_be = t.2;
        leads = t.3;
        listed = λ o. sym chosen ∙ t.4 (o ∙ ap Some (sym own));
      }

      from : (w : ℕ) → MayStep game known mover moves v w → IsTaken (take n edges) known mover owner choice w
      from w s = (s.edge, subst (λ (fs : List (GuardedEdge Formula)). Contains fs s.edge) (sym (take_all n edges all ∙ same)) s.its, s.may_be, s.leads, λ o. chosen ∙ s.listed (o ∙ ap Some own))

-- ---- the search

-- by these steps, among so many vertices
pub record IsSearching (Step : ℕ → ℕ → Type 0) (size first : ℕ) (marks : List Bool) (queue : List ℕ) (done : ℕ) : Type 0 where
  pub count : length marks ≡ size
  pub queued : AreQueued marks queue
  pub starts : IsMarked marks first
  pub found : (v : ℕ) → Contains queue v → Leads Step first v
  pub visited : (k : ℕ) → k < done → k < length queue → (w : ℕ) → Step (get_or queue k 0) w → IsMarked marks w

module _ (Step : ℕ → ℕ → Type 0) (size first : ℕ) where
  pub searching_begun : (marks : List Bool) (queue : List ℕ) → length marks ≡ size → IsBegun first marks queue → IsSearching Step size first marks queue 0
  searching_begun marks queue same is = record {
    count = same;
    queued = is.queued;
    starts = (is.queued.marked first).1 ((is.alone first).1 refl);
    found = λ v c. subst (λ k. Leads Step first k) (sym ((is.alone v).0 c)) here;
    visited = λ k l. absurd (omega arith);
  }

  last : {v u w : ℕ} → Leads Step v u → Step u w → Leads Step v w
  last here a = onward a here
  last (onward b r) a = onward b (last r a)

  module _ (marks : List Bool) (queue : List ℕ) (place : ℕ) (is : IsSearching Step size first marks queue place) where
    -- what is found is in the game
    pub queued_inside : (k d : ℕ) → k < length queue → get_or queue k d < size
    queued_inside k d l = at (cases_lt (get_or queue k d) (length marks))
      where
        there : IsMarked marks (get_or queue k d)
        there = (is.queued.marked (get_or queue k d)).1 (k, l, any_default queue k (get_or queue k d) d l)

        at : (get_or queue k d < length marks) ⊎ (length marks ≤ get_or queue k d) → get_or queue k d < size
        at (inl less) = subst (λ n. get_or queue k d < n) is.count less
        at (inr past) = absurd (clash (get_or queue k d) marks (get_or_past marks (get_or queue k d) false past) there)

    -- all are visited
    pub nothing_next : length queue ≤ place → IsSearching Step size first marks queue (place + 1)
    nothing_next all = record {
      count = is.count;
      queued = is.queued;
      starts = is.starts;
      found = is.found;
      visited = λ k l inside w a. is.visited k (omega (arith, inside, all)) inside w a;
    }

    -- one more is visited
    pub visited_next : (next : List Bool) (queue_next : List ℕ) → place < length queue → AreNoted (Step (get_or queue place 0)) marks queue next queue_next →
        IsSearching Step size first next queue_next (place + 1)
    visited_next next queue_next there noted = record {
      count = noted.count ∙ is.count;
      queued = noted.queued;
      starts = kept_marks is.queued noted first is.starts;
      found = λ v c. found v (Contains-append_cases queue noted.added v (subst (λ (q : List ℕ). Contains q v) noted.extended c));
      visited = λ k l inside w a. visited k w l (cases_eq k place) a;
    }
      where
        at_place : Contains queue (get_or queue place 0)
        at_place = (place, there, any)
          where
            any : get_or queue place (get_or queue place 0) ≡ get_or queue place 0
            any = any_default queue place (get_or queue place 0) 0 there

        found : (v : ℕ) → Contains queue v ⊎ Contains noted.added v → Leads Step first v
        found v (inl c) = is.found v c
        found v (inr c) = last (is.found (get_or queue place 0) at_place) (noted.each v c)

        before : (k : ℕ) → k < length queue → get_or queue_next k 0 ≡ get_or queue k 0
        before k l = ap (λ (q : List ℕ). get_or q k 0) noted.extended ∙ get_or_append_left queue noted.added 0 k l

        visited : (k w : ℕ) → k < place + 1 → (k ≡ place) ⊎ (k ≡ place → ⊥) → Step (get_or queue_next k 0) w → IsMarked next w
        visited k w l (inl e) a = noted.noted w (subst (λ v. Step v w) (ap (λ j. get_or queue_next j 0) e ∙ before place there) a)
        visited k w l (inr n) a = kept_marks is.queued noted w (is.visited k (smaller l n) (inside (smaller l n)) w (subst (λ v. Step v w) (before k (inside (smaller l n))) a))
          where
            smaller : k < place + 1 → (k ≡ place → ⊥) → k < place
            smaller a b = omega arith

            inside : k < place → k < length queue
            inside s = omega (arith, s, there)

    -- nothing else can be come to
    closed : length marks ≤ place → (v u : ℕ) → IsMarked marks v → Leads Step v u → IsMarked marks u
    closed all v u m r = along r m
      where
        few : length queue ≤ place
        few = omega (arith, is.queued.count, count_by-le-length (λ (b : Bool). b) marks, all)

        next : (v w : ℕ) → Step v w → Contains queue v → IsMarked marks w
        next v w allowed c = is.visited c.0 (omega (arith, few, c.1)) c.1 w (subst (λ x. Step x w) (sym c.2 ∙ any_default queue c.0 v 0 c.1) allowed)

        along : {a b : ℕ} → Leads Step a b → IsMarked marks a → IsMarked marks b
        along here m = m
        along (onward {v} {w} {u} allowed rest) m = along rest (next v w allowed ((is.queued.marked v).0 m))

    pub searched : length marks ≤ place → (v : ℕ) → IsMarked marks v ↔ Leads Step first v
    searched all v = (λ m. is.found v ((is.queued.marked v).0 m), λ r. closed all first v is.starts r)

-- steps that a strategy allows are those of a play
leads_is_reaches : (game : Game) (strategy : Strategy) (v w : ℕ) → Leads (AllowsMove game Player.Even strategy) v w ↔ Reaches game Player.Even strategy v w
leads_is_reaches game strategy v w = (λ l. to l, λ r. from r)
  where
    to : {a b : ℕ} → Leads (AllowsMove game Player.Even strategy) a b → Reaches game Player.Even strategy a b
    to here = plays.here
    to (onward s l) = plays.onward s (to l)

    from : {a b : ℕ} → Reaches game Player.Even strategy a b → Leads (AllowsMove game Player.Even strategy) a b
    from plays.here = here
    from (plays.onward s r) = onward s (from r)

-- what was found is what a play comes to
pub searched_plays : (game : Game) (strategy : Strategy) (first : ℕ) (marks : List Bool) → ((v : ℕ) → IsMarked marks v ↔ Leads (AllowsMove game Player.Even strategy) first v) →
    (v : ℕ) → IsMarked marks v ↔ Reaches game Player.Even strategy first v
searched_plays game strategy first marks found v =
    let same = leads_is_reaches game strategy first v in
    (λ m. same.0 ((found v).0 m), λ r. (found v).1 (same.1 r))

-- where the first one was noted, and nothing before
pub begun : (marks later_marks : List Bool) (queue later_queue : List ℕ) (first : ℕ) → queue ≡ [] → AreNoted (λ v. v ≡ first) marks queue later_marks later_queue → IsBegun first later_marks later_queue
begun marks later_marks queue later_queue first empty noted = record {
  queued = noted.queued;
  alone = λ v. (λ c. noted.each v (subst (λ (q : List ℕ). Contains q v) (noted.extended ∙ ap (λ (q : List ℕ). q ++ noted.added) empty) c), λ e. (noted.queued.marked v).0 (noted.noted v e));
}

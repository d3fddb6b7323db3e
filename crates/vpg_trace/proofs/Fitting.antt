-- The transition that is told is one by which the move goes.
use Rattle.std.proofs.Common.{◌≡◌, ℕ, ◌+◌, ◌<◌, ◌≤◌, ◌⊎◌, ◌&&◌, inl, inr, Bool, true, false, cond, List, [], ◌∷◌, length, get_or, Option, Some, None, Contains, refl, sym, ap, ap₂, ◌∙◌, subst, arith}
use Rattle.std.specs.Prelude.{◌==◌, nat_lt, position, IfSome, IsSome, is_some}
use Rattle.std.specs.List.{position_or_len}
use Rattle.std.proofs.lemmas.Bool.{cases_Bool, cases_eq, and_parts, and_from, eqb-true, eq-eqb, ltb-false, lt-ltb, le-ltb, false≢true}
use Rattle.std.proofs.lemmas.List.{get_or_read}
use Rattle.std.proofs.lemmas.List.Quantifiers.{position-Some}
use Rattle.std.proofs.lemmas.List.Sums.{position_or_len_is, fails_before_first}
use Rattle.std.proofs.lemmas.Option.{same_Some}
use Rattle.vpg_guards.specs.declared.tri.Tri.{Tri}
use Rattle.vpg_guards.specs.declared.tri.Tri.TheVariants.{No, Unknown, Yes}
use Rattle.vpg_guards.specs.Known.{kleene}
use Rattle.vpg_parts.specs.declared.part.Part.{Part}
use Rattle.vpg_parts.specs.declared.part.Part.TheVariants.{True, False, And, Or, SomeStep, EveryStep, Fixpoint, Variable}
use Rattle.vpg_parts.specs.Parts.{resolved_part}
use Rattle.vpg_parts.specs.Sets.{is_permitted}
use Rattle.vpg_model.specs.Departures.{Departure}
use Rattle.vpg_model.specs.Pairs.{pair_for, departures_at}
use Rattle.vpg_trace.specs.declared.taking.Taken.{Taken}
use Rattle.vpg_trace.specs.Taking.{IsStep, first_fit, fits, is_pair, is_value, no_departure, taken_along, taken_at, taken_by, taken_from, value_told}
use Rattle.vpg_trace.specs.Telling.{IsTakenBy}

-- ---- first places

module _ {X : Type 0} (test : X → Bool) (xs : List X) where
  place_is : (n : ℕ) → position_or_len test xs ≡ n → n < length xs → position test xs ≡ Some n
  place_is n e l =
      ap (λ (m : ℕ). cond (nat_lt m (length xs)) (Some m) None) e
      ∙ ap (λ (b : Bool). cond b (Some n) None) (lt-ltb n (length xs) l)

  -- the first one is here
  pub first_at : (i : ℕ) (x : X) → i < length xs → x ≡ get_or xs i x → ((k : ℕ) (d : X) → k < i → test (get_or xs k d) ≡ false) → test x ≡ true → position test xs ≡ Some i
  first_at i x l is before t =
      place_is i (position_or_len_is test xs i x (omega arith) (λ k h. before k x h) (λ h. ap test (sym is) ∙ t)) l

-- one more does not pass
pub none_more : {X : Type 0} (test : X → Bool) (xs : List X) (i : ℕ) (x : X) → i < length xs → x ≡ get_or xs i x → ((k : ℕ) (d : X) → k < i → test (get_or xs k d) ≡ false) → test x ≡ false →
    (k : ℕ) (d : X) → k < i + 1 → test (get_or xs k d) ≡ false
none_more {X} test xs i x l is before fails k d less = at (cases_eq k i)
  where
    at : (k ≡ i) ⊎ (k ≡ i → ⊥) → test (get_or xs k d) ≡ false
    at (inl e) = ap (λ (n : ℕ). test (get_or xs n d)) e ∙ (ap test (sym (get_or_read xs i x l is d)) ∙ fails)
    at (inr n) = before k d (omega arith)

-- there is none
pub none_at : {X : Type 0} (test : X → Bool) (xs : List X) (i : ℕ) → length xs ≤ i → ((k : ℕ) (d : X) → k < i → test (get_or xs k d) ≡ false) → position test xs ≡ None
none_at test [] i l before = refl
none_at test (x ∷ xs) i l before =
    let e : position_or_len test (x ∷ xs) ≡ length (x ∷ xs) = position_or_len_is test (x ∷ xs) (length (x ∷ xs)) x (omega arith) (λ k h. before k x (omega arith)) (λ h. absurd (omega arith)) in
    ap (λ (n : ℕ). cond (nat_lt n (length (x ∷ xs))) (Some n) None) e
    ∙ ap (λ (b : Bool). cond b (Some (length (x ∷ xs))) None) (le-ltb (length (x ∷ xs)) (length (x ∷ xs)) (omega arith))

-- where something passes, there is a first one
pub some_passes : {X : Type 0} (test : X → Bool) (xs : List X) (x : X) → Contains xs x → test x ≡ true → IsSome (position test xs)
some_passes test xs x c t = at (cases_Bool (nat_lt (position_or_len test xs) (length xs)))
  where
    at : (nat_lt (position_or_len test xs) (length xs) ≡ true) ⊎ (nat_lt (position_or_len test xs) (length xs) ≡ false) → IsSome (position test xs)
    at (inl y) = ap (λ (b : Bool). is_some (cond b (Some (position_or_len test xs)) None)) y
    at (inr f) = absurd (false≢true (sym (fails_before_first test xs c.0 x (let l : c.0 < position_or_len test xs = omega (arith, ltb-false _ _ f, c.1) in l)) ∙ (ap test c.2 ∙ t)))

-- ---- tests

same_value : (value wanted : Tri) → is_value value wanted ≡ true → value ≡ wanted
same_value Yes Yes e = refl
same_value Yes Unknown e = absurd (false≢true e)
same_value Yes No e = absurd (false≢true e)
same_value Unknown Yes e = absurd (false≢true e)
same_value Unknown Unknown e = refl
same_value Unknown No e = absurd (false≢true e)
same_value No Yes e = absurd (false≢true e)
same_value No Unknown e = absurd (false≢true e)
same_value No No e = refl

pub itself : (value : Tri) → is_value value value ≡ true
itself Yes = refl
itself Unknown = refl
itself No = refl

same_pair : (p q : ℕ × ℕ) → is_pair p q ≡ true → p ≡ q
same_pair p q e =
    let h = and_parts (p.0 == q.0) (p.1 == q.1) e in
    ap₂ (λ (a b : ℕ). (a, b)) (eqb-true p.0 q.0 h.0) (eqb-true p.1 q.1 h.1)

pub pair_itself : (p q : ℕ × ℕ) → p ≡ q → is_pair p q ≡ true
pair_itself p q e = and_from (p.0 == q.0) (p.1 == q.1) (eq-eqb p.0 q.0 (ap (λ (r : ℕ × ℕ). r.0) e)) (eq-eqb p.1 q.1 (ap (λ (r : ℕ × ℕ). r.1) e))

-- ---- what a transition is that fits

module _ (known : List Tri) (states : List (List Departure)) (sets : List (List Bool)) (parts : List Part) (s x a : ℕ) (to : ℕ × ℕ) where
  -- the transition at this place fits
  pub record FitsAt (i : ℕ) (wanted : Tri) : Type 0 where
    pub within : i < length (departures_at states s)
    pub permitted : is_permitted sets x (get_or (departures_at states s) i no_departure).action ≡ true
    pub target : pair_for parts (get_or (departures_at states s) i no_departure).target a ≡ to
    pub guard : kleene known (get_or (departures_at states s) i no_departure).guard ≡ wanted

  pub found : (i : ℕ) (wanted : Tri) → first_fit known states sets parts s x a to wanted ≡ Some i → FitsAt i wanted
  found i wanted e =
      let h = position-Some (fits known sets parts x a to wanted) (departures_at states s) i no_departure e in
      let t = get_or (departures_at states s) i no_departure in
      let first = and_parts (is_permitted sets x t.action && is_pair (pair_for parts t.target a) to) (is_value (kleene known t.guard) wanted) h.1 in
      let second = and_parts (is_permitted sets x t.action) (is_pair (pair_for parts t.target a) to) first.0 in
      record {
        within = h.0;
        permitted = second.0;
        target = same_pair (pair_for parts t.target a) to second.1;
        guard = same_value (kleene known t.guard) wanted first.1;
      }

  -- what is told fits
  pub record IsTold (taken : Taken) : Type 0 where
    pub state : taken.state ≡ s
    pub fits : FitsAt taken.index (value_told taken.depends)

  told_one : (i : ℕ) (b : Bool) (taken : Taken) → FitsAt i (value_told b) → Some (record { state = s; index = i; depends = b }) ≡ Some taken → IsTold taken
  told_one i b taken h e = subst (λ (t : Taken). IsTold t) (same_Some (record { state = s; index = i; depends = b }) taken e) (record { state = refl; fits = h })

  told_by : (there open_one : Option ℕ) → first_fit known states sets parts s x a to Yes ≡ there → first_fit known states sets parts s x a to Unknown ≡ open_one →
      (taken : Taken) → taken_by s there open_one ≡ Some taken → IsTold taken
  told_by (Some i) open_one e f taken is = told_one i false taken (found i Yes e) is
  told_by None (Some i) e f taken is = told_one i true taken (found i Unknown f) is
  told_by None None e f taken is = absurd (none_there is)
    where
      none_there : None ≡ Some taken → ⊥
      none_there q = cc

  pub told_along : (taken : Taken) → taken_along known states sets parts s x a to ≡ Some taken → IsTold taken
  told_along taken is = told_by (first_fit known states sets parts s x a to Yes) (first_fit known states sets parts s x a to Unknown) refl refl taken is

  some_by : (there open_one : Option ℕ) → IsSome there ⊎ IsSome open_one → IsSome (taken_by s there open_one)
  some_by (Some i) open_one h = refl
  some_by None (Some i) h = refl
  some_by None None (inl h) = h
  some_by None None (inr h) = h

  -- where one fits whose guard may be true, one is told
  pub some_along : (t : Departure) → Contains (departures_at states s) t → is_permitted sets x t.action ≡ true → pair_for parts t.target a ≡ to → (kleene known t.guard ≡ No → ⊥) →
      IsSome (taken_along known states sets parts s x a to)
  some_along t c permitted target may_be = some_by _ _ (at (kleene known t.guard) refl)
    where
      passes : (wanted : Tri) → kleene known t.guard ≡ wanted → fits known sets parts x a to wanted t ≡ true
      passes wanted e =
          and_from (is_permitted sets x t.action && is_pair (pair_for parts t.target a) to) (is_value (kleene known t.guard) wanted)
          (and_from (is_permitted sets x t.action) (is_pair (pair_for parts t.target a) to) permitted (pair_itself (pair_for parts t.target a) to target))
          (ap (λ (v : Tri). is_value v wanted) e ∙ itself wanted)

      at : (v : Tri) → kleene known t.guard ≡ v → IsSome (first_fit known states sets parts s x a to Yes) ⊎ IsSome (first_fit known states sets parts s x a to Unknown)
      at Yes e = inl (some_passes (fits known sets parts x a to Yes) (departures_at states s) t c (passes Yes e))
      at Unknown e = inr (some_passes (fits known sets parts x a to Unknown) (departures_at states s) t c (passes Unknown e))
      at No e = absurd (may_be e)

-- ---- what is told of a move

module _ (known : List Tri) (states : List (List Departure)) (sets : List (List Bool)) (parts : List Part) (from to : ℕ × ℕ) where
  by_step : (x a : ℕ) → IsStep (resolved_part parts from.1) x a → (taken : Taken) → IsTold known states sets parts from.0 x a to taken → IsTakenBy known states sets parts from to taken
  by_step x a step taken h = record {
    set = x;
    place = a;
    part = step;
    state = h.state;
    within = subst (λ (s : ℕ). taken.index < length (departures_at states s)) (sym h.state) h.fits.within;
    permitted = subst (λ (s : ℕ). is_permitted sets x (get_or (departures_at states s) taken.index no_departure).action ≡ true) (sym h.state) h.fits.permitted;
    target = subst (λ (s : ℕ). pair_for parts (get_or (departures_at states s) taken.index no_departure).target a ≡ to) (sym h.state) h.fits.target;
    guard = subst (λ (s : ℕ). kleene known (get_or (departures_at states s) taken.index no_departure).guard ≡ value_told taken.depends) (sym h.state) h.fits.guard;
  }

  -- a part that is none tells nothing
  nothing : {P : Type 0} (taken : Taken) → None ≡ Some taken → P
  nothing taken e = absurd (clash e)
    where
      clash : None ≡ Some taken → ⊥
      clash q = cc

  told_at : (part : Part) → resolved_part parts from.1 ≡ part → (taken : Taken) → taken_at known states sets parts from.0 part to ≡ Some taken → IsTakenBy known states sets parts from to taken
  told_at True e taken is = nothing taken is
  told_at False e taken is = nothing taken is
  told_at (And b c) e taken is = nothing taken is
  told_at (Or b c) e taken is = nothing taken is
  told_at (SomeStep x a) e taken is = by_step x a (subst (λ (p : Part). IsStep p x a) (sym e) (refl, refl)) taken (told_along known states sets parts from.0 x a to taken is)
  told_at (EveryStep x a) e taken is = by_step x a (subst (λ (p : Part). IsStep p x a) (sym e) (refl, refl)) taken (told_along known states sets parts from.0 x a to taken is)
  told_at (Fixpoint kind p b) e taken is = nothing taken is
  told_at (Variable m) e taken is = nothing taken is

  pub told_from : (taken : Taken) → taken_from known states sets parts from to ≡ Some taken → IsTakenBy known states sets parts from to taken
  told_from taken is = told_at (resolved_part parts from.1) refl taken is

  -- the clause
  pub told_if : (o : Option Taken) → o ≡ taken_from known states sets parts from to → IfSome o (IsTakenBy known states sets parts from to)
  told_if None e = tt
  told_if (Some taken) e = told_from taken (sym e)

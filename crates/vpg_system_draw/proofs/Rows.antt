-- Rows have the targets of the transitions that may be there.
use Rattle.std.proofs.Common.{◌≡◌, ◌≢◌, ◌↔◌, ℕ, zero, suc, ◌+◌, ◌<◌, ◌≤◌, ◌⊎◌, inl, inr, Bool, true, false, cond, List, [], ◌∷◌, ◌++◌, length, get_or, set, take, replicate, fold, Contains, All, refl, sym, ap, ◌∙◌, subst}
use Rattle.std.proofs.lemmas.Bool.{cases_eq}
use Rattle.std.proofs.lemmas.List.{length-set, length-replicate, get_or-set_same, get_or-set_other, take_all}
use Rattle.std.proofs.lemmas.List.Elements.{All-head, All-tail, All-contains, All-weaker, Contains-append_left, Contains-push, Contains-push_cases}
use Rattle.std.proofs.lemmas.List.Sums.{fold_more}
use Rattle.vpg_diagram.proofs.Lists.{Contains-here, Contains-there, Contains-cons, Contains-nil}
use Rattle.vpg_guards.specs.declared.tri.Tri.{Tri}
use Rattle.vpg_guards.specs.declared.tri.Tri.TheVariants.{No, Unknown, Yes}
use Rattle.vpg_guards.specs.Known.{kleene}
use Rattle.vpg_system.specs.SystemText.{Transition, NamedSystem}
use Rattle.vpg_system.specs.System.{IsSystem, IsTransition}
use Rattle.vpg_system_draw.specs.Arrows.{no_transition}
use Rattle.vpg_system_draw.specs.Reached.{MayStep, AreReached}
use Rattle.vpg_system_draw.specs.Searched.{may_be, with_target, rows_of, RowStep, AreInside, IsSearched}
use Rattle.vpg_system_draw.proofs.Searching.{along}

abbrev pub Rows : Type 0
Rows = List (List ℕ)

-- a value that is not `No`, and these ends
abbrev pub IsStep : Tri → ℕ → ℕ → ℕ → ℕ → Type 0
IsStep value a b s w = (value ≢ No) × (a ≡ s) × (b ≡ w)

-- ---- one target more

module _ (rows : Rows) (a b : ℕ) (less : a < length rows) (s w : ℕ) where
  abbrev more : Rows
  more = set rows a (get_or rows a [] ++ b ∷ [])

  here_is : s ≡ a → get_or more s [] ≡ get_or rows s [] ++ b ∷ []
  here_is e = ap (λ (k : ℕ). get_or more k []) e ∙ (get_or-set_same rows a (get_or rows a [] ++ b ∷ []) [] less ∙ ap (λ (k : ℕ). get_or rows k [] ++ b ∷ []) (sym e))

  pub more_has : (value : Tri) → value ≢ No → Contains (get_or more s []) w ↔ (Contains (get_or rows s []) w ⊎ IsStep value a b s w)
  more_has value may = (λ c. to (cases_eq s a) c, λ h. from (cases_eq s a) h)
    where
      pushed : s ≡ a → Contains (get_or rows s []) w ⊎ (b ≡ w) → Contains (get_or rows s []) w ⊎ IsStep value a b s w
      pushed e (inl c) = inl c
      pushed e (inr q) = inr (may, sym e, q)

      to : (s ≡ a) ⊎ (s ≡ a → ⊥) → Contains (get_or more s []) w → Contains (get_or rows s []) w ⊎ IsStep value a b s w
      to (inl e) c = pushed e (Contains-push_cases (get_or rows s []) b w (subst (λ (r : List ℕ). Contains r w) (here_is e) c))
      to (inr n) c = inl (subst (λ (r : List ℕ). Contains r w) (get_or-set_other rows a s (get_or rows a [] ++ b ∷ []) [] n) c)

      from : (s ≡ a) ⊎ (s ≡ a → ⊥) → Contains (get_or rows s []) w ⊎ IsStep value a b s w → Contains (get_or more s []) w
      from (inl e) (inl c) = subst (λ (r : List ℕ). Contains r w) (sym (here_is e)) (Contains-append_left (get_or rows s []) (b ∷ []) w c)
      from (inl e) (inr h) = subst (λ (r : List ℕ). Contains r w) (sym (here_is e)) (subst (λ (k : ℕ). Contains (get_or rows s [] ++ b ∷ []) k) h.2 (Contains-push (get_or rows s []) b))
      from (inr n) (inl c) = subst (λ (r : List ℕ). Contains r w) (sym (get_or-set_other rows a s (get_or rows a [] ++ b ∷ []) [] n)) c
      from (inr n) (inr h) = absurd (n (sym h.1))

  by_value : (value : Tri) → Contains (get_or (cond (may_be value) more rows) s []) w ↔ (Contains (get_or rows s []) w ⊎ IsStep value a b s w)
  by_value No = (λ c. inl c, λ h. kept h)
    where
      kept : Contains (get_or rows s []) w ⊎ IsStep No a b s w → Contains (get_or rows s []) w
      kept (inl c) = c
      kept (inr h) = absurd (h.0 refl)
  by_value Unknown = more_has Unknown (λ e. cc)
  by_value Yes = more_has Yes (λ e. cc)

same_count : (b : Bool) (rows : Rows) (a : ℕ) (row : List ℕ) → length (cond b (set rows a row) rows) ≡ length rows
same_count true rows a row = length-set rows a row
same_count false rows a row = refl

-- ---- all transitions

module _ (known : List Tri) where
  one_count : (rows : Rows) (t : Transition) → length (with_target known rows t) ≡ length rows
  one_count rows t = same_count (may_be (kleene known t.guard)) rows t.source (get_or rows t.source [] ++ t.target ∷ [])

  all_count : (ts : List Transition) (rows : Rows) → length (fold (with_target known) rows ts) ≡ length rows
  all_count [] rows = refl
  all_count (t ∷ ts) rows = all_count ts (with_target known rows t) ∙ one_count rows t

  pub rows_count : (count : ℕ) (ts : List Transition) → length (rows_of known count ts) ≡ count
  rows_count count ts = all_count ts (replicate count []) ∙ length-replicate count []

  -- one more
  pub next_rows : (count at : ℕ) (ts : List Transition) (rows later : Rows) (t : Transition) → at < length ts → t ≡ get_or ts at no_transition → rows ≡ rows_of known count (take at ts) →
      later ≡ with_target known rows t → later ≡ rows_of known count (take (at + 1) ts)
  next_rows count at ts rows later t less is before after =
      after ∙ (ap (λ (rs : Rows). with_target known rs t) before
      ∙ (ap (λ (u : Transition). with_target known (rows_of known count (take at ts)) u) is ∙ sym (fold_more (with_target known) (replicate count []) ts at no_transition less)))

  pub all_rows : (count at : ℕ) (ts : List Transition) (rows : Rows) → length ts ≤ at → rows ≡ rows_of known count (take at ts) → rows ≡ rows_of known count ts
  all_rows count at ts rows all is = is ∙ ap (rows_of known count) (take_all at ts all)

  module _ (s w : ℕ) where
    abbrev HasIn : Rows → List Transition → Rows → Type 0
    HasIn later ts rows = Contains (get_or later s []) w ↔ (Contains (get_or rows s []) w ⊎ MayStep known ts s w)

    -- one transition in front of the others
    module _ (t : Transition) (ts : List Transition) (rows later : Rows) (less : t.source < length rows) (rest : HasIn later ts (with_target known rows t)) where
      first : Contains (get_or (with_target known rows t) s []) w ↔ (Contains (get_or rows s []) w ⊎ IsStep (kleene known t.guard) t.source t.target s w)
      first = by_value rows t.source t.target less s w (kleene known t.guard)

      by_first : Contains (get_or rows s []) w ⊎ IsStep (kleene known t.guard) t.source t.target s w → Contains (get_or rows s []) w ⊎ MayStep known (t ∷ ts) s w
      by_first (inl c) = inl c
      by_first (inr h) = inr (record { transition = t; its = Contains-here t ts; may_be = h.0; comes = h.1; leads = h.2 })

      to : Contains (get_or (with_target known rows t) s []) w ⊎ MayStep known ts s w → Contains (get_or rows s []) w ⊎ MayStep known (t ∷ ts) s w
      to (inl c) = by_first (first.0 c)
      to (inr m) = inr (record { transition = m.transition; its = Contains-there t ts m.transition m.its; may_be = m.may_be; comes = m.comes; leads = m.leads })

      which : (m : MayStep known (t ∷ ts) s w) → (t ≡ m.transition) ⊎ Contains ts m.transition → Contains (get_or later s []) w
      which m (inl e) = rest.1 (inl (first.1 (inr (
        (λ q. m.may_be (sym (ap (λ (u : Transition). kleene known u.guard) e) ∙ q)),
        ap (λ (u : Transition). u.source) e ∙ m.comes,
        ap (λ (u : Transition). u.target) e ∙ m.leads,
      ))))
      which m (inr c) = rest.1 (inr (record { transition = m.transition; its = c; may_be = m.may_be; comes = m.comes; leads = m.leads }))

      from : Contains (get_or rows s []) w ⊎ MayStep known (t ∷ ts) s w → Contains (get_or later s []) w
      from (inl c) = rest.1 (inl (first.1 (inl c)))
      from (inr m) = which m (Contains-cons t ts m.transition m.its)

      one_has : HasIn later (t ∷ ts) rows
      one_has = (λ c. to (rest.0 c), λ h. from h)

    none_has : (rows : Rows) → Contains (get_or rows s []) w ⊎ MayStep known [] s w → Contains (get_or rows s []) w
    none_has rows (inl c) = c
    none_has rows (inr m) = absurd (Contains-nil m.transition m.its)

    has : (n : ℕ) (ts : List Transition) (rows : Rows) → length rows ≡ n → All (λ (t : Transition). t.source < n) ts → HasIn (fold (with_target known) rows ts) ts rows
    has n [] rows count inside = (λ c. inl c, λ h. none_has rows h)
    has n (t ∷ ts) rows count inside = one_has t ts rows (fold (with_target known) (with_target known rows t) ts)
        (subst (λ (k : ℕ). t.source < k) (sym count) (All-head (λ (u : Transition). u.source < n) t ts inside))
        (has n ts (with_target known rows t) (one_count rows t ∙ count) (All-tail (λ (u : Transition). u.source < n) t ts inside))

  -- ---- the rows of a system

  module _ (system : NamedSystem) (is : IsSystem system) where
    abbrev rows : Rows
    rows = rows_of known system.states system.transitions

    nothing : (n s : ℕ) (none : List ℕ) → get_or (replicate n none) s none ≡ none
    nothing zero s none = refl
    nothing (suc n) zero none = refl
    nothing (suc n) (suc s) none = nothing n s none

    sources : All (λ (t : Transition). t.source < system.states) system.transitions
    sources = All-weaker (IsTransition system.features system.states (length system.actions)) (λ t. t.source < system.states) (λ t i. i.source_below) system.transitions is.transitions_are

    steps : (s w : ℕ) → RowStep rows s w ↔ MayStep known system.transitions s w
    steps s w = (λ c. to (both.0 c), λ m. both.1 (inr m))
      where
        both : Contains (get_or rows s []) w ↔ (Contains (get_or (replicate system.states []) s []) w ⊎ MayStep known system.transitions s w)
        both = has s w system.states system.transitions (replicate system.states []) (length-replicate system.states []) sources

        to : Contains (get_or (replicate system.states []) s []) w ⊎ MayStep known system.transitions s w → MayStep known system.transitions s w
        to (inl c) = absurd (Contains-nil w (subst (λ (r : List ℕ). Contains r w) (nothing system.states s []) c))
        to (inr m) = m

    pub rows_inside : AreInside rows
    rows_inside s w c = subst (λ (n : ℕ). w < n) (sym (rows_count system.states system.transitions)) (below ((steps s w).0 c))
      where
        below : MayStep known system.transitions s w → w < system.states
        below m = subst (λ (k : ℕ). k < system.states) m.leads
            (All-contains (IsTransition system.features system.states (length system.actions)) system.transitions m.transition is.transitions_are m.its).target_below

    pub first_inside : system.first < length rows
    first_inside = subst (λ (n : ℕ). system.first < n) (sym (rows_count system.states system.transitions)) is.first_below

    pub reached_by : (marks : List Bool) → IsSearched rows system.first marks → AreReached known system marks
    reached_by marks searched = record {
      count = searched.count ∙ rows_count system.states system.transitions;
      each = λ s. (λ m. along (λ a b r. (steps a b).0 r) (searched.found s m), λ l. searched.all s (along (λ a b m. (steps a b).1 m) l));
    }

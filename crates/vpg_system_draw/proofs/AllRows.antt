-- Rows have the targets of all transitions.
use Rattle.std.proofs.Common.{◌≡◌, ◌≢◌, ◌↔◌, ℕ, zero, suc, ◌+◌, ◌<◌, ◌≤◌, ◌⊎◌, inl, inr, Bool, List, [], ◌∷◌, ◌++◌, length, get_or, take, replicate, fold, Contains, All, refl, sym, ap, ◌∙◌, subst}
use Rattle.std.proofs.lemmas.List.{length-set, length-replicate, take_all}
use Rattle.std.proofs.lemmas.List.Elements.{All-head, All-tail, All-contains, All-weaker}
use Rattle.std.proofs.lemmas.List.Sums.{fold_more}
use Rattle.vpg_diagram.proofs.Lists.{Contains-here, Contains-there, Contains-cons, Contains-nil}
use Rattle.vpg_guards.specs.declared.tri.Tri.TheVariants.{No, Yes}
use Rattle.vpg_system.specs.SystemText.{Transition, NamedSystem}
use Rattle.vpg_system.specs.System.{IsSystem, IsTransition}
use Rattle.vpg_system_draw.specs.Arrows.{no_transition}
use Rattle.vpg_system_draw.specs.Reached.{Step, AreReachedByAny}
use Rattle.vpg_system_draw.specs.Searched.{with_any_target, all_rows_of, RowStep, AreInside, IsSearched}
use Rattle.vpg_system_draw.proofs.Searching.{along}
use Rattle.vpg_system_draw.proofs.Rows.{Rows, IsStep, more_has}

one_count : (rows : Rows) (t : Transition) → length (with_any_target rows t) ≡ length rows
one_count rows t = length-set rows t.source (get_or rows t.source [] ++ t.target ∷ [])

all_count : (ts : List Transition) (rows : Rows) → length (fold with_any_target rows ts) ≡ length rows
all_count [] rows = refl
all_count (t ∷ ts) rows = all_count ts (with_any_target rows t) ∙ one_count rows t

pub all_rows_count : (count : ℕ) (ts : List Transition) → length (all_rows_of count ts) ≡ count
all_rows_count count ts = all_count ts (replicate count []) ∙ length-replicate count []

-- one more
pub next_of_all : (count at : ℕ) (ts : List Transition) (rows later : Rows) (t : Transition) → at < length ts → t ≡ get_or ts at no_transition → rows ≡ all_rows_of count (take at ts) →
    later ≡ with_any_target rows t → later ≡ all_rows_of count (take (at + 1) ts)
next_of_all count at ts rows later t less is before after =
    after ∙ (ap (λ (rs : Rows). with_any_target rs t) before
    ∙ (ap (λ (u : Transition). with_any_target (all_rows_of count (take at ts)) u) is ∙ sym (fold_more with_any_target (replicate count []) ts at no_transition less)))

pub whole_of_all : (count at : ℕ) (ts : List Transition) (rows : Rows) → length ts ≤ at → rows ≡ all_rows_of count (take at ts) → rows ≡ all_rows_of count ts
whole_of_all count at ts rows all is = is ∙ ap (all_rows_of count) (take_all at ts all)

yes_may : Yes ≢ No
yes_may e = cc

module _ (s w : ℕ) where
  abbrev HasIn : Rows → List Transition → Rows → Type 0
  HasIn later ts rows = Contains (get_or later s []) w ↔ (Contains (get_or rows s []) w ⊎ Step ts s w)

  -- one transition in front of the others
  module _ (t : Transition) (ts : List Transition) (rows later : Rows) (less : t.source < length rows) (rest : HasIn later ts (with_any_target rows t)) where
    first : Contains (get_or (with_any_target rows t) s []) w ↔ (Contains (get_or rows s []) w ⊎ IsStep Yes t.source t.target s w)
    first = more_has rows t.source t.target less s w Yes yes_may

    by_first : Contains (get_or rows s []) w ⊎ IsStep Yes t.source t.target s w → Contains (get_or rows s []) w ⊎ Step (t ∷ ts) s w
    by_first (inl c) = inl c
    by_first (inr h) = inr (record { transition = t; its = Contains-here t ts; comes = h.1; leads = h.2 })

    to : Contains (get_or (with_any_target rows t) s []) w ⊎ Step ts s w → Contains (get_or rows s []) w ⊎ Step (t ∷ ts) s w
    to (inl c) = by_first (first.0 c)
    to (inr m) = inr (record { transition = m.transition; its = Contains-there t ts m.transition m.its; comes = m.comes; leads = m.leads })

    which : (m : Step (t ∷ ts) s w) → (t ≡ m.transition) ⊎ Contains ts m.transition → Contains (get_or later s []) w
    which m (inl e) = rest.1 (inl (first.1 (inr (
      yes_may,
      ap (λ (u : Transition). u.source) e ∙ m.comes,
      ap (λ (u : Transition). u.target) e ∙ m.leads,
    ))))
    which m (inr c) = rest.1 (inr (record { transition = m.transition; its = c; comes = m.comes; leads = m.leads }))

    from : Contains (get_or rows s []) w ⊎ Step (t ∷ ts) s w → Contains (get_or later s []) w
    from (inl c) = rest.1 (inl (first.1 (inl c)))
    from (inr m) = which m (Contains-cons t ts m.transition m.its)

    one_has : HasIn later (t ∷ ts) rows
    one_has = (λ c. to (rest.0 c), λ h. from h)

  none_has : (rows : Rows) → Contains (get_or rows s []) w ⊎ Step [] s w → Contains (get_or rows s []) w
  none_has rows (inl c) = c
  none_has rows (inr m) = absurd (Contains-nil m.transition m.its)

  has : (n : ℕ) (ts : List Transition) (rows : Rows) → length rows ≡ n → All (λ (t : Transition). t.source < n) ts → HasIn (fold with_any_target rows ts) ts rows
  has n [] rows count inside = (λ c. inl c, λ h. none_has rows h)
  has n (t ∷ ts) rows count inside = one_has t ts rows (fold with_any_target (with_any_target rows t) ts)
      (subst (λ (k : ℕ). t.source < k) (sym count) (All-head (λ (u : Transition). u.source < n) t ts inside))
      (has n ts (with_any_target rows t) (one_count rows t ∙ count) (All-tail (λ (u : Transition). u.source < n) t ts inside))

-- ---- the rows of a system

module _ (system : NamedSystem) (is : IsSystem system) where
  abbrev rows : Rows
  rows = all_rows_of system.states system.transitions

  nothing : (n s : ℕ) (none : List ℕ) → get_or (replicate n none) s none ≡ none
  nothing zero s none = refl
  nothing (suc n) zero none = refl
  nothing (suc n) (suc s) none = nothing n s none

  sources : All (λ (t : Transition). t.source < system.states) system.transitions
  sources = All-weaker (IsTransition system.features system.states (length system.actions)) (λ t. t.source < system.states) (λ t i. i.source_below) system.transitions is.transitions_are

  steps : (s w : ℕ) → RowStep rows s w ↔ Step system.transitions s w
  steps s w = (λ c. to (both.0 c), λ m. both.1 (inr m))
    where
      both : Contains (get_or rows s []) w ↔ (Contains (get_or (replicate system.states []) s []) w ⊎ Step system.transitions s w)
      both = has s w system.states system.transitions (replicate system.states []) (length-replicate system.states []) sources

      to : Contains (get_or (replicate system.states []) s []) w ⊎ Step system.transitions s w → Step system.transitions s w
      to (inl c) = absurd (Contains-nil w (subst (λ (r : List ℕ). Contains r w) (nothing system.states s []) c))
      to (inr m) = m

  pub all_inside : AreInside rows
  all_inside s w c = subst (λ (n : ℕ). w < n) (sym (all_rows_count system.states system.transitions)) (below ((steps s w).0 c))
    where
      below : Step system.transitions s w → w < system.states
      below m = subst (λ (k : ℕ). k < system.states) m.leads
          (All-contains (IsTransition system.features system.states (length system.actions)) system.transitions m.transition is.transitions_are m.its).target_below

  pub begun_inside : system.first < length rows
  begun_inside = subst (λ (n : ℕ). system.first < n) (sym (all_rows_count system.states system.transitions)) is.first_below

  pub reached_by_any : (marks : List Bool) → IsSearched rows system.first marks → AreReachedByAny system marks
  reached_by_any marks searched = record {
    count = searched.count ∙ all_rows_count system.states system.transitions;
    each = λ s. (λ m. along (λ a b r. (steps a b).0 r) (searched.found s m), λ l. searched.all s (along (λ a b m. (steps a b).1 m) l));
  }

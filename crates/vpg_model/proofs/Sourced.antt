-- The transitions of a system by their sources are those of the system.
use Rattle.std.proofs.Common.{◌≡◌, ◌≢◌, ℕ, zero, suc, ◌+◌, ◌<◌, ◌≤◌, ◌⊎◌, inl, inr, Bool, true, false, cond, List, [], ◌∷◌, ◌++◌, length, get_or, set, map, filter, take, refl, sym, ◌∙◌, subst, ap, ap₂, All, arith}
use Rattle.std.specs.Prelude.{◌==◌}
use Rattle.std.proofs.lemmas.Bool.{cases_Bool, eqb-true, eq-eqb, cases_lt}
use Rattle.std.proofs.lemmas.List.{length-map, length-set, get_or-set_same, get_or-set_other, append-nil, map-append, take_more}
use Rattle.std.proofs.lemmas.List.Elements.{filter-append}
use Rattle.vpg_guards.specs.Formula.{Formula as Guard}
use Rattle.vpg_guards.specs.Writing.{IsReadable}
use Rattle.vpg_system.specs.SystemText.{Transition as NamedTransition, NamedSystem}
use Rattle.vpg_system.specs.declared.transition.Transition as kept
use Rattle.vpg_system.specs.System.{IsTransition, IsSystem}
use Rattle.vpg_system.specs.SystemView.{transition_of, transitions_of}
use Rattle.vpg_requirement.specs.Systems.{Transition}
use Rattle.vpg_model.specs.Departures.{Departure}
use Rattle.vpg_model.specs.Pairs.{departures_at, HaveGuards}
use Rattle.vpg_model.specs.Forms.{transitions_from, AreDepartures}
use Rattle.vpg_model.specs.Laws.{AreOfSystem}
use Rattle.vpg_model.specs.Sources.{transition_in, system_of, departure_of, departures_from, ArePlacedBySource}

-- ---- one more transition

from_more : (s : ℕ) (ts : List NamedTransition) (t : NamedTransition) → (t.source == s) ≡ true → departures_from s (ts ++ t ∷ []) ≡ departures_from s ts ++ departure_of t ∷ []
from_more s ts t e = ap (map departure_of) (filter-append (λ (t : NamedTransition). t.source == s) ts (t ∷ []) ∙ ap (λ (l : List NamedTransition). filter (λ t. t.source == s) ts ++ l) taken)
    ∙ map-append departure_of (filter (λ t. t.source == s) ts) (t ∷ [])
  where
    taken : filter (λ (t : NamedTransition). t.source == s) (t ∷ []) ≡ t ∷ []
    taken = rw e refl

from_same : (s : ℕ) (ts : List NamedTransition) (t : NamedTransition) → (t.source == s) ≡ false → departures_from s (ts ++ t ∷ []) ≡ departures_from s ts
from_same s ts t e = ap (map departure_of) (filter-append (λ (t : NamedTransition). t.source == s) ts (t ∷ []) ∙ ap (λ (l : List NamedTransition). filter (λ t. t.source == s) ts ++ l) dropped ∙ append-nil (filter (λ t. t.source == s) ts))
  where
    dropped : filter (λ (t : NamedTransition). t.source == s) (t ∷ []) ≡ []
    dropped = rw e refl

pub one_placed : (count : ℕ) (ts : List NamedTransition) (old new : List (List Departure)) (t : NamedTransition) (source : ℕ) (departure : Departure) → ArePlacedBySource count ts old → source ≡ t.source → source < count → departure ≡ departure_of t →
    new ≡ set old source (get_or old source [] ++ departure ∷ []) → ArePlacedBySource count (ts ++ t ∷ []) new
one_placed count ts old new t source departure h same l d e = subst (ArePlacedBySource count (ts ++ t ∷ [])) (sym e) (record {
  count_is = length-set old source (get_or old source [] ++ departure ∷ []) ∙ h.count_is;
  each = λ s j. decide s j (cases_Bool (t.source == s));
})
  where
    decide : (s : ℕ) → s < count → ((t.source == s) ≡ true) ⊎ ((t.source == s) ≡ false) → get_or (set old source (get_or old source [] ++ departure ∷ [])) s [] ≡ departures_from s (ts ++ t ∷ [])
    decide s j (inl y) = ap (λ (n : ℕ). get_or (set old source (get_or old source [] ++ departure ∷ [])) n []) (sym at)
        ∙ get_or-set_same old source (get_or old source [] ++ departure ∷ []) [] (omega (arith, l, h.count_is))
        ∙ ap₂ (λ (n : ℕ) (x : Departure). get_or old n [] ++ x ∷ []) at d
        ∙ ap (λ (ds : List Departure). ds ++ departure_of t ∷ []) (h.each s j) ∙ sym (from_more s ts t y)
      where
        at : source ≡ s
        at = same ∙ eqb-true t.source s y
    decide s j (inr n) = get_or-set_other old source s (get_or old source [] ++ departure ∷ []) [] apart ∙ h.each s j ∙ sym (from_same s ts t n)
      where
        apart : s ≢ source
        apart e = clash (sym (eq-eqb t.source s (sym (e ∙ same))) ∙ n)
          where
            clash : true ≡ false → ⊥
            clash e = cc

-- ---- what they are

past : (states : List (List Departure)) (s : ℕ) → length states ≤ s → departures_at states s ≡ []
past [] s l = refl
past (ds ∷ states) zero l = absurd (omega arith)
past (ds ∷ states) (suc s) l = past states s (omega arith)

leaving_are : (s : ℕ) (ts : List NamedTransition) → filter (λ (t : Transition Guard). t.step.source == s) (map transition_in ts) ≡ transitions_from s (departures_from s ts)
leaving_are s [] = refl
leaving_are s (t ∷ ts) = decide (cases_Bool (t.source == s)) (leaving_are s ts)
  where
    decide : ((t.source == s) ≡ true) ⊎ ((t.source == s) ≡ false) → filter (λ (t : Transition Guard). t.step.source == s) (map transition_in ts) ≡ transitions_from s (departures_from s ts) →
        filter (λ (t : Transition Guard). t.step.source == s) (map transition_in (t ∷ ts)) ≡ transitions_from s (departures_from s (t ∷ ts))
    decide (inl y) rest = rw y (ap₂ {C = List (Transition Guard)} (λ (n : ℕ) (l : List (Transition Guard)). (record { step = record { source = n; label = t.action; target = t.target }; guard = t.guard }) ∷ l) (eqb-true t.source s y) rest)
    decide (inr n) rest = rw n rest

leaving_none : (features states actions s : ℕ) (ts : List NamedTransition) → states ≤ s → All (IsTransition features states actions) ts → filter (λ (t : Transition Guard). t.step.source == s) (map transition_in ts) ≡ []
leaving_none features states actions s [] l h = refl
leaving_none features states actions s (t ∷ ts) l h = decide (cases_Bool (t.source == s)) (leaving_none features states actions s ts l (λ k d j. h (suc k) d (omega arith)))
  where
    first : t.source < states
    first = (h 0 t (omega arith)).source_below

    decide : ((t.source == s) ≡ true) ⊎ ((t.source == s) ≡ false) → filter (λ (t : Transition Guard). t.step.source == s) (map transition_in ts) ≡ [] → filter (λ (t : Transition Guard). t.step.source == s) (map transition_in (t ∷ ts)) ≡ []
    decide (inl y) rest = absurd (clash (eqb-true t.source s y) first)
      where
        clash : t.source ≡ s → t.source < states → ⊥
        clash e j = omega arith
    decide (inr n) rest = rw n rest

are_departures : (s : NamedSystem) (states : List (List Departure)) → IsSystem s → ArePlacedBySource s.states s.transitions states → AreDepartures (system_of s) states
are_departures s states is h = record {
  count = sym h.count_is;
  leaving = λ at. of at (cases_lt at s.states);
}
  where
    of : (at : ℕ) → (at < s.states) ⊎ (s.states ≤ at) → filter (λ (t : Transition Guard). t.step.source == at) (map transition_in s.transitions) ≡ transitions_from at (departures_at states at)
    of at (inl l) = leaving_are at s.transitions ∙ ap (transitions_from at) (sym (h.each at l))
    of at (inr l) = leaving_none s.features s.states (length s.actions) at s.transitions l is.transitions_are ∙ ap (transitions_from at) (sym (past states at (omega (arith, l, h.count_is))))

-- what holds of all transitions holds of those from a state
from_all : (P : Departure → Type 0) (s : ℕ) (ts : List NamedTransition) → ((k : ℕ) (d : NamedTransition) → k < length ts → P (departure_of (get_or ts k d))) → (k : ℕ) (d : Departure) → k < length (departures_from s ts) → P (get_or (departures_from s ts) k d)
from_all P s [] h = λ k d l. absurd (omega arith)
from_all P s (t ∷ ts) h = decide (t.source == s) (from_all P s ts (λ k d l. h (suc k) d (omega arith)))
  where
    decide : (b : Bool) → ((k : ℕ) (d : Departure) → k < length (departures_from s ts) → P (get_or (departures_from s ts) k d)) →
        (k : ℕ) (d : Departure) → k < length (map departure_of (cond b (t ∷ filter (λ t. t.source == s) ts) (filter (λ t. t.source == s) ts))) → P (get_or (map departure_of (cond b (t ∷ filter (λ t. t.source == s) ts) (filter (λ t. t.source == s) ts))) k d)
    decide true rest zero d l = h 0 t (omega arith)
    decide true rest (suc k) d l = rest k d (omega arith)
    decide false rest k d l = rest k d l

states_all : (P : Departure → Type 0) (s : NamedSystem) (states : List (List Departure)) → ArePlacedBySource s.states s.transitions states → ((k : ℕ) (d : NamedTransition) → k < length s.transitions → P (departure_of (get_or s.transitions k d))) →
    All (λ departures. All P departures) states
states_all P s states h all i d l = subst (λ (ds : List Departure). All P ds) here (from_all P i s.transitions all)
  where
    other : (xs : List (List Departure)) (i : ℕ) → i < length xs → get_or xs i [] ≡ get_or xs i d
    other [] i l = absurd (omega arith)
    other (x ∷ xs) zero l = refl
    other (x ∷ xs) (suc i) l = other xs i (omega arith)

    here : departures_from i s.transitions ≡ get_or states i d
    here = sym (h.each i (omega (arith, l, h.count_is))) ∙ other states i l

closed_all : (states : ℕ) (ts : List NamedTransition) → ((k : ℕ) (d : NamedTransition) → k < length ts → (get_or ts k d).target < states) → All (λ (t : Transition Guard). t.step.target < states) (map transition_in ts)
closed_all states [] h k d l = absurd (omega arith)
closed_all states (t ∷ ts) h zero d l = h 0 t (omega arith)
closed_all states (t ∷ ts) h (suc k) d l = closed_all states ts (λ k d l. h (suc k) d (omega arith)) k d (omega arith)

pub are_of_system : (s : NamedSystem) (states : List (List Departure)) → IsSystem s → ArePlacedBySource s.states s.transitions states → AreOfSystem (length s.actions) (system_of s) states s.first
are_of_system s states is h = record {
  departures = are_departures s states is h;
  labelled = states_all (λ (t : Departure). t.action < length s.actions) s states h (λ k d l. (is.transitions_are k d l).action_below);
  closed = closed_all s.states s.transitions (λ k d l. (is.transitions_are k d l).target_below);
  state = is.first_below;
}

pub have_guards : (s : NamedSystem) (states : List (List Departure)) → IsSystem s → ArePlacedBySource s.states s.transitions states → HaveGuards s.features states
have_guards s states is h = states_all (λ (t : Departure). IsReadable s.features t.guard) s states h (λ k d l. (is.transitions_are k d l).guard_is)

-- ---- the transitions of the code

pub taken_more : (ts : List kept.Transition) (i : ℕ) (d : kept.Transition) → i < length ts → transitions_of (take (i + 1) ts) ≡ transitions_of (take i ts) ++ transition_of (get_or ts i d) ∷ []
taken_more ts i d l = ap transitions_of (take_more ts i d l) ∙ map-append transition_of (take i ts) (get_or ts i d ∷ [])

pub is_transition : (s : NamedSystem) (ts : List kept.Transition) (i : ℕ) (d : kept.Transition) → IsSystem s → transitions_of ts ≡ s.transitions → i < length ts → IsTransition s.features s.states (length s.actions) (transition_of (get_or ts i d))
is_transition s ts i d is e l = subst (IsTransition s.features s.states (length s.actions)) here (is.transitions_are i (transition_of d) within)
  where
    within : i < length s.transitions
    within = omega (arith, l, length-map ts transition_of, ap length e)

    mapped : (xs : List kept.Transition) (i : ℕ) → i < length xs → get_or (map transition_of xs) i (transition_of d) ≡ transition_of (get_or xs i d)
    mapped [] i l = absurd (omega arith)
    mapped (x ∷ xs) zero l = refl
    mapped (x ∷ xs) (suc i) l = mapped xs i (omega arith)

    here : get_or s.transitions i (transition_of d) ≡ transition_of (get_or ts i d)
    here = ap (λ (xs : List NamedTransition). get_or xs i (transition_of d)) (sym e) ∙ mapped ts i l

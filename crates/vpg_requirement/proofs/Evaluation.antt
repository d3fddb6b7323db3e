-- Requirements evaluated by iteration: sets of states as tests, and what an evaluation has in common with its parts.
use Rattle.std.proofs.Common.{◌≡◌, ℕ, zero, suc, ◌<◌, ◌⊎◌, inl, inr, Bool, true, false, ◌&&◌, ◌||◌, List, [], ◌∷◌, map, filter, refl, subst, Contains, All}
use Rattle.std.proofs.lemmas.Bool.{cases_Bool, and_parts, and_from, or_cases, or_left, or_right}
use Rattle.std.proofs.lemmas.List.Elements.{All-head, All-tail}
use Rattle.vpg_hope.proofs.Edges.{Contains-first, Contains-later, Contains-cases, not_in_nil}
use Rattle.vpg_requirement.specs.Actions.{ActionFormula}
use Rattle.vpg_requirement.specs.Systems.{Step, PlainSystem, IsClosedSystem, successors}
use Rattle.vpg_requirement.specs.Fixpoints.{Kind, least, greatest, StateSet, nothing, set_of}
use Rattle.vpg_requirement.specs.NormalForms.{NormalForm, met, unmet, both, either, some_step, every_step, fixpoint, variable}

abbrev pub everything : StateSet
everything s = true

-- ---- a test on a list

abbrev pub any_in : StateSet → List ℕ → Bool
any_in P [] = false
any_in P (t ∷ ts) = P t || any_in P ts

abbrev pub all_in : StateSet → List ℕ → Bool
all_in P [] = true
all_in P (t ∷ ts) = P t && all_in P ts

pub any_gives : (P : StateSet) (ts : List ℕ) → any_in P ts ≡ true → (t : ℕ) × Contains ts t × (P t ≡ true)
any_gives P [] e = cc
any_gives P (t ∷ ts) e = split (or_cases (P t) (any_in P ts) e) (any_gives P ts)
  where
    split : (P t ≡ true) ⊎ (any_in P ts ≡ true) → (any_in P ts ≡ true → (u : ℕ) × Contains ts u × (P u ≡ true)) → (u : ℕ) × Contains (t ∷ ts) u × (P u ≡ true)
    split (inl h) rest = (t, Contains-first t ts, h)
    split (inr h) rest = later (rest h)
      where
        later : (u : ℕ) × Contains ts u × (P u ≡ true) → (u : ℕ) × Contains (t ∷ ts) u × (P u ≡ true)
        later u = (u.0, Contains-later t ts u.0 u.1, u.2)

pub any_from : (P : StateSet) (ts : List ℕ) (t : ℕ) → Contains ts t → P t ≡ true → any_in P ts ≡ true
any_from P [] t c e = absurd (not_in_nil t c)
any_from P (u ∷ ts) t c e = split (Contains-cases u ts t c) (λ k. any_from P ts t k e)
  where
    split : (u ≡ t) ⊎ Contains ts t → (Contains ts t → any_in P ts ≡ true) → any_in P (u ∷ ts) ≡ true
    split (inl same) rest = or_left (P u) (any_in P ts) (rw same e)
    split (inr k) rest = or_right (P u) (any_in P ts) (rest k)

pub all_gives : (P : StateSet) (ts : List ℕ) → all_in P ts ≡ true → (t : ℕ) → Contains ts t → P t ≡ true
all_gives P [] e t c = absurd (not_in_nil t c)
all_gives P (u ∷ ts) e t c = split (Contains-cases u ts t c) (all_gives P ts (and_parts (P u) (all_in P ts) e).1 t)
  where
    split : (u ≡ t) ⊎ Contains ts t → (Contains ts t → P t ≡ true) → P t ≡ true
    split (inl same) rest = rw (← same) (and_parts (P u) (all_in P ts) e).0
    split (inr k) rest = rest k

pub all_from : (P : StateSet) (ts : List ℕ) → ((t : ℕ) → Contains ts t → P t ≡ true) → all_in P ts ≡ true
all_from P [] h = refl
all_from P (u ∷ ts) h = and_from (P u) (all_in P ts) (h u (Contains-first u ts)) (all_from P ts (λ t c. h t (Contains-later u ts t c)))

-- ---- evaluation

abbrev pub iterate : ℕ → (StateSet → StateSet) → StateSet → StateSet
iterate zero F start = start
iterate (suc k) F start = F (iterate k F start)

abbrev pub start_of : Kind → StateSet
start_of least = nothing
start_of greatest = everything

abbrev pub holds : PlainSystem → List StateSet → NormalForm → StateSet
holds system sets met s = true
holds system sets unmet s = false
holds system sets (both f g) s = holds system sets f s && holds system sets g s
holds system sets (either f g) s = holds system sets f s || holds system sets g s
holds system sets (some_step x f) s = any_in (holds system sets f) (successors system x s)
holds system sets (every_step x f) s = all_in (holds system sets f) (successors system x s)
holds system sets (fixpoint kind p f) s =
    iterate (suc system.states) (λ set. holds system (set ∷ sets) f) (start_of kind) s
holds system sets (variable i) s = set_of sets i s

-- ---- the states that a step leads to

filtered_inside : (n : ℕ) (test : Step → Bool) (steps : List Step) → All (λ step. step.target < n) steps → (t : ℕ) → Contains (map (λ step. step.target) (filter test steps)) t → t < n
filtered_inside n test [] h t c = absurd (not_in_nil t c)
filtered_inside n test (step ∷ steps) h t c = decide (cases_Bool (test step)) (filtered_inside n test steps (All-tail (λ s. s.target < n) step steps h) t)
  where
    decide : (test step ≡ true) ⊎ (test step ≡ false) → (Contains (map (λ s. s.target) (filter test steps)) t → t < n) → t < n
    decide (inl e) rest = first (Contains-cases step.target (map (λ s. s.target) (filter test steps)) t (rw e at c))
      where
        first : (step.target ≡ t) ⊎ Contains (map (λ s. s.target) (filter test steps)) t → t < n
        first (inl same) = subst (λ u. u < n) same (All-head (λ s. s.target < n) step steps h)
        first (inr k) = rest k
    decide (inr e) rest = rest (rw e at c)

pub successor_inside : (system : PlainSystem) → IsClosedSystem system → (x : ActionFormula) (s t : ℕ) → Contains (successors system x s) t → t < system.states
successor_inside system closed x s t c = filtered_inside system.states _ system.steps closed t c

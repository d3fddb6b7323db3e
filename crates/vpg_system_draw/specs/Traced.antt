-- The marks of a trace on the picture of a system. Each step leaves a state by the transition at some place among those
-- from there, in file order. This project's own.
use Rattle.std.specs.Prelude.{ℕ, zero, suc, ◌+◌, ◌&&◌, ◌==◌, Bool, true, false, List, [], ◌∷◌, ◌++◌, length, slice_index_or}
use Rattle.std.specs.List.{list_any}
use Rattle.vpg_system.specs.SystemText.{Transition, NamedSystem}
use Rattle.vpg_system_draw.specs.Arrows.{no_transition}
use Rattle.vpg_system_draw.specs.declared.marks.Step.{Step}

-- the steps of a trace, the states that it comes back to, and those where it stands
pub record Trail : Type 0 where
  pub steps : List Step
  pub loops : List ℕ
  pub stands : List ℕ

-- for each transition whether it is marked, and the states of each sort: those at the ends of marked transitions, those
-- that the trace comes back to, and those where it stands
pub record Marking : Type 0 where
  pub transitions : List Bool
  pub passed : List ℕ
  pub loops : List ℕ
  pub stands : List ℕ

-- nothing is marked
abbrev pub no_marking : Marking
no_marking = record { transitions = []; passed = []; loops = []; stands = [] }

abbrev pub is_in : (states : List ℕ) → ℕ → Bool
is_in states s = list_any (λ t. t == s) states

-- ---- transitions

abbrev pub transition_in : List Transition → ℕ → Transition
transition_in transitions n = slice_index_or transitions n no_transition

abbrev pub one_if : Bool → ℕ
one_if true = 1
one_if false = 0

-- the number of transitions from a state among the first n
abbrev pub leaving : List Transition → (state : ℕ) → (n : ℕ) → ℕ
leaving transitions state zero = 0
leaving transitions state (suc n) =
    leaving transitions state n + one_if ((transition_in transitions n).source == state)

-- whether some step takes the transition at this place among those from the state
abbrev pub takes : List Step → (state place : ℕ) → Bool
takes steps state place = list_any (λ s. (s.state == state) && (s.place == place)) steps

-- whether some step takes the transition of this number
abbrev pub is_taken : List Transition → List Step → (n : ℕ) → Bool
is_taken transitions steps n =
    takes steps (transition_in transitions n).source (leaving transitions (transition_in transitions n).source n)

-- for each of the first n transitions whether some step takes it
abbrev pub taken_below : List Transition → List Step → (n : ℕ) → List Bool
taken_below transitions steps zero = []
taken_below transitions steps (suc n) = taken_below transitions steps n ++ is_taken transitions steps n ∷ []

-- ---- states

-- the ends of a transition, if it is marked
abbrev pub ends_if : Transition → (is_marked : Bool) → List ℕ
ends_if t true = t.source ∷ t.target ∷ []
ends_if t false = []

-- the ends of the marked ones among the first n transitions
abbrev pub ends_below : List Transition → (marks : List Bool) → (n : ℕ) → List ℕ
ends_below transitions marks zero = []
ends_below transitions marks (suc n) =
    ends_below transitions marks n ++ ends_if (transition_in transitions n) (slice_index_or marks n false)

-- ---- marks

-- for each transition whether some step takes it
abbrev pub taken_of : NamedSystem → List Step → List Bool
taken_of system steps = taken_below system.transitions steps (length system.transitions)

-- Exactly the transitions that some step takes are marked, and the states at their ends. So are the states that the
-- trace comes back to, and those where it stands.
abbrev pub marking_of : NamedSystem → Trail → Marking
marking_of system trail = record {
  transitions = taken_of system trail.steps;
  passed = ends_below system.transitions (taken_of system trail.steps) (length system.transitions);
  loops = trail.loops;
  stands = trail.stands;
}

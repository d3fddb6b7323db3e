-- The transition of the system that a move of the game goes by. This project's own.
use Rattle.std.specs.Prelude.{◌≡◌, ℕ, ◌&&◌, ◌==◌, Bool, true, false, Option, Some, None, List, position, slice_index_or}
use Rattle.vpg_guards.specs.declared.tri.Tri.{Tri}
use Rattle.vpg_guards.specs.declared.tri.Tri.TheVariants.{No, Unknown, Yes}
use Rattle.vpg_guards.specs.Formula.{always}
use Rattle.vpg_guards.specs.Known.{kleene}
use Rattle.vpg_parts.specs.declared.part.Part.{Part}
use Rattle.vpg_parts.specs.declared.part.Part.TheVariants.{True, False, And, Or, SomeStep, EveryStep, Fixpoint, Variable}
use Rattle.vpg_parts.specs.Parts.{resolved_part}
use Rattle.vpg_parts.specs.Sets.{is_permitted}
use Rattle.vpg_model.specs.Departures.{Departure}
use Rattle.vpg_model.specs.Pairs.{pair_for, departures_at}
use Rattle.vpg_trace.specs.declared.taking.Taken.{Taken}

-- whether the values are the same
abbrev pub is_value : Tri → Tri → Bool
is_value Yes Yes = true
is_value Unknown Unknown = true
is_value No No = true
is_value _ wanted = false

-- whether the pairs are the same
abbrev pub is_pair : ℕ × ℕ → ℕ × ℕ → Bool
is_pair p q = (p.0 == q.0) && (p.1 == q.1)

-- Whether a transition leads to this pair by an action of the set, with the part at this place, under a guard with this
-- value.
abbrev pub fits : List Tri → List (List Bool) → List Part → ℕ → ℕ → ℕ × ℕ → Tri → Departure → Bool
fits known sets parts x a to wanted t =
    is_permitted sets x t.action && is_pair (pair_for parts t.target a) to && is_value (kleene known t.guard) wanted

-- the place of the first such transition from the state
abbrev pub first_fit : List Tri → List (List Departure) → List (List Bool) → List Part → ℕ → ℕ → ℕ → ℕ × ℕ → Tri →
    Option ℕ
first_fit known states sets parts s x a to wanted =
    position (fits known sets parts x a to wanted) (departures_at states s)

-- one that depends on open features, if there is one
abbrev pub taken_if_open : ℕ → Option ℕ → Option Taken
taken_if_open s None = None
taken_if_open s (Some i) = Some (record { state = s; index = i; depends = true })

-- one that is there whatever is open, if there is one, otherwise one that depends on it
abbrev pub taken_by : ℕ → Option ℕ → Option ℕ → Option Taken
taken_by s (Some i) other = Some (record { state = s; index = i; depends = false })
taken_by s None other = taken_if_open s other

-- the transition from the state that is taken, with an action of the set
abbrev pub taken_along : List Tri → List (List Departure) → List (List Bool) → List Part → ℕ → ℕ → ℕ → ℕ × ℕ →
    Option Taken
taken_along known states sets parts s x a to = taken_by s (first_fit known states sets parts s x a to Yes)
    (first_fit known states sets parts s x a to Unknown)

-- the transition that is taken at this part in the state
abbrev pub taken_at : List Tri → List (List Departure) → List (List Bool) → List Part → ℕ → Part → ℕ × ℕ → Option Taken
taken_at known states sets parts s True to = None
taken_at known states sets parts s False to = None
taken_at known states sets parts s (And a b) to = None
taken_at known states sets parts s (Or a b) to = None
taken_at known states sets parts s (SomeStep x a) to = taken_along known states sets parts s x a to
taken_at known states sets parts s (EveryStep x a) to = taken_along known states sets parts s x a to
taken_at known states sets parts s (Fixpoint kind p b) to = None
taken_at known states sets parts s (Variable m) to = None

-- The transition by which a move from the first pair to the second goes, under what is known. A move within a
-- requirement has none.
abbrev pub taken_from : List Tri → List (List Departure) → List (List Bool) → List Part → ℕ × ℕ → ℕ × ℕ → Option Taken
taken_from known states sets parts from to =
    taken_at known states sets parts from.0 (resolved_part parts from.1) to

-- past the last transition there is none
abbrev pub no_departure : Departure
no_departure = record { action = 0; guard = always; target = 0 }

abbrev pub departure_at : List (List Departure) → Taken → Departure
departure_at states taken = slice_index_or (departures_at states taken.state) taken.index no_departure

-- a box or a diamond with this set and this part
abbrev pub IsStep : Part → ℕ → ℕ → Type 0
IsStep True x a = ⊥
IsStep False x a = ⊥
IsStep (And b c) x a = ⊥
IsStep (Or b c) x a = ⊥
IsStep (SomeStep y b) x a = (y ≡ x) × (b ≡ a)
IsStep (EveryStep y b) x a = (y ≡ x) × (b ≡ a)
IsStep (Fixpoint kind p b) x a = ⊥
IsStep (Variable m) x a = ⊥

-- the value of its guard: true if it does not depend on open features, otherwise open
abbrev pub value_told : Bool → Tri
value_told false = Yes
value_told true = Unknown

-- Least and greatest fixpoints over sets of states, by the theorem of Knaster and Tarski, as Kozen 1983 defines the
-- modal mu-calculus. A least fixpoint is in every set that is closed under its body, a greatest one is in some set that
-- its body supports. There is no iteration here.
use Rattle.std.specs.Prelude.{◌≡◌, ℕ, ◌<◌, List, Bool, true, false, slice_index_or}

-- whether a fixpoint is the least one (`mu`) or the greatest one (`nu`)
pub data Kind : Type 0 where
  least : Kind
  greatest : Kind

-- the other of the two
abbrev pub other_kind : Kind → Kind
other_kind least = greatest
other_kind greatest = least

-- a set of states: those at which it is true
abbrev pub StateSet : Type 0
StateSet = ℕ → Bool

-- no state
abbrev pub nothing : StateSet
nothing s = false

-- the set that a variable stands for, if each fixpoint around has its set, innermost first
abbrev pub set_of : List StateSet → ℕ → StateSet
set_of sets i = slice_index_or sets i nothing

-- The set is closed under the body: it has each state at which the body holds when its variable stands for the set.
abbrev pub IsClosedUnder : ℕ → (StateSet → ℕ → Type 0) → StateSet → Type 0
IsClosedUnder states Body set = (t : ℕ) → t < states → Body set t → set t ≡ true

-- The body supports the set: it holds at each state of the set when its variable stands for the set.
abbrev pub IsSupportedBy : ℕ → (StateSet → ℕ → Type 0) → StateSet → Type 0
IsSupportedBy states Body set = (t : ℕ) → t < states → set t ≡ true → Body set t

-- The state is in every set that is closed under the body; or in some set that the body supports.
abbrev pub HoldsAtFixpoint : Kind → ℕ → (StateSet → ℕ → Type 0) → ℕ → Type 0
HoldsAtFixpoint least states Body s = (set : StateSet) → IsClosedUnder states Body set → set s ≡ true
HoldsAtFixpoint greatest states Body s = (set : StateSet) × IsSupportedBy states Body set × (set s ≡ true)

-- Sets of actions, as lists of parts name them. This project's own.
use Rattle.std.specs.Prelude.{◌≡◌, ℕ, ◌<◌, List, [], Bool, false, slice_index_or}
use Rattle.vpg_requirement.specs.Actions.{ActionFormula, every_action, other_than, permits}

-- the actions of a set; none, if there is no such set
abbrev pub set_at : List (List Bool) → ℕ → List Bool
set_at sets x = slice_index_or sets x []

-- whether a set has an action
abbrev pub is_permitted : List (List Bool) → ℕ → ℕ → Bool
is_permitted sets x a = slice_index_or (set_at sets x) a false

-- the set has those of this many actions that the action formula permits
abbrev pub ArePermitted : ℕ → List (List Bool) → ℕ → ActionFormula → Type 0
ArePermitted labels sets x actions = (label : ℕ) → label < labels → permits actions label ≡ is_permitted sets x label

-- the action formula of a set; if there is no such set, no action
abbrev pub actions_at : List ActionFormula → ℕ → ActionFormula
actions_at actions x = slice_index_or actions x (other_than every_action)

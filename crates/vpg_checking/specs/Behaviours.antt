-- The origin of a game: the part of it that reports of the system's steps need. This project's own.
use Rattle.std.specs.Prelude.{ℕ, Bool, List, length}
use Rattle.vpg_parts.specs.declared.part.Part.{Part}
use Rattle.vpg_model.specs.Departures.{Departure}
use Rattle.vpg_model.specs.Forms.{HasLabels}
use Rattle.vpg_model.specs.Pairs.{HaveGuards}

-- The number of features, the names of the actions, and the transitions from each state. Then come the sets of actions
-- and the parts of the requirements, and the state and the part of each vertex.
pub record Behaviour : Type 0 where
  pub features : ℕ
  pub actions : List (List ℕ)
  pub states : List (List Departure)
  pub sets : List (List Bool)
  pub parts : List Part
  pub pairs : List (ℕ × ℕ)

-- Guards are over the features, and each transition has one of the actions.
abbrev pub IsBehaviour : Behaviour → Type 0
IsBehaviour b = HaveGuards b.features b.states × HasLabels (length b.actions) b.states

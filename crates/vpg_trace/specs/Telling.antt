-- The report of a step of the system. Featured transition systems after Classen et al. 2010; the marks are this
-- project's own.
use Rattle.std.specs.Prelude.{◌≡◌, ℕ, ◌<◌, Bool, true, List, length}
use Rattle.vpg_guards.specs.declared.tri.Tri.{Tri}
use Rattle.vpg_guards.specs.Known.{kleene}
use Rattle.vpg_parts.specs.declared.part.Part.{Part}
use Rattle.vpg_parts.specs.Parts.{resolved_part}
use Rattle.vpg_parts.specs.Sets.{is_permitted}
use Rattle.vpg_model.specs.Departures.{Departure}
use Rattle.vpg_model.specs.Pairs.{pair_for, departures_at}
use Rattle.vpg_trace.specs.declared.taking.Taken.{Taken}
use Rattle.vpg_trace.specs.Taking.{departure_at, IsStep, value_told}

-- The transition is one by which a move from the first pair to the second goes. The part is a box or a diamond, the
-- transition leaves the state, the part permits its action, and with the part that follows it leads to the second pair.
-- Its guard is true under what is known if the transition does not depend on open features, and open if it does.
pub record IsTakenBy (known : List Tri) (states : List (List Departure)) (sets : List (List Bool)) (parts : List Part)
    (from to : ℕ × ℕ) (taken : Taken) : Type 0 where
  pub set : ℕ
  pub place : ℕ
  pub part : IsStep (resolved_part parts from.1) set place
  pub state : taken.state ≡ from.0
  pub within : taken.index < length (departures_at states taken.state)
  pub permitted : is_permitted sets set (departure_at states taken).action ≡ true
  pub target : pair_for parts (departure_at states taken).target place ≡ to
  pub guard : kleene known (departure_at states taken).guard ≡ value_told taken.depends

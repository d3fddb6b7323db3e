-- Laws of the reported steps, and of who wins. This project's own; products' systems after Classen et al. 2010.
use Rattle.std.specs.Prelude.{◌≡◌, ℕ, ◌<◌, Bool, false, Option, List, length, Contains}
use Rattle.vpg_sides.specs.declared.player.Player.TheVariants.{Even}
use Rattle.vpg_guards.specs.declared.tri.Tri.{Tri}
use Rattle.vpg_guards.specs.Formula.{Formula as Guard, truth}
use Rattle.vpg_diagram.specs.FeatureDiagram.{Line, IsDiagram}
use Rattle.vpg_diagram.specs.declared.clause.Literal.{Literal}
use Rattle.vpg_hope.specs.Games.{Game, owner_of}
use Rattle.vpg_hope.specs.Strategies.{Wins}
use Rattle.vpg_measure.specs.Views.{strategy_of}
use Rattle.vpg_partial.specs.KnownLaws.{IsRemaining}
use Rattle.vpg_partial.specs.TableLaws.{IsKnownTable}
use Rattle.vpg_parts.specs.declared.part.Part.{Part}
use Rattle.vpg_requirement.specs.Systems.{Step, System, product_system}
use Rattle.vpg_model.specs.Departures.{Departure}
use Rattle.vpg_model.specs.Forms.{AreDepartures}
use Rattle.vpg_trace.specs.declared.taking.Taken.{Taken}
use Rattle.vpg_trace.specs.declared.walking.End.TheVariants.{Stands}
use Rattle.vpg_trace.specs.declared.walking.Visit.{Visit}
use Rattle.vpg_trace.specs.Taking.{departure_at}
use Rattle.vpg_trace.specs.Telling.{IsTakenBy}
use Rattle.vpg_trace.specs.Traces.{IsTrace}
use Rattle.vpg_trace.specs.Walks.{visit_at}

-- the reported step
abbrev pub step_of : List (List Departure) → Taken → Step
step_of states taken = record {
  source = taken.state;
  label = (departure_at states taken).action;
  target = (departure_at states taken).target;
}

-- A reported step without the mark "depends" is one of the system of each product that is left.
abbrev pub UnmarkedStepsAreThere : Type 0
UnmarkedStepsAreThere = (lines : List Line) (choices : List Literal) (known : List Tri) (system : System Guard)
    (states : List (List Departure)) (sets : List (List Bool)) (parts : List Part) (from to : ℕ × ℕ)
    (taken : Taken) → IsDiagram lines → IsKnownTable lines choices known → AreDepartures system states →
    IsTakenBy known states sets parts from to taken → taken.depends ≡ false →
    (set : List Bool) → IsRemaining lines choices set →
    Contains (product_system (truth set) system).steps (step_of states taken)

-- If the moves win, no visit stands because the winner lacks a move.
abbrev pub WinnersGoOn : Type 0
WinnersGoOn = (game : Game) (moves : List (Option ℕ)) (first : ℕ) (visits : List Visit) →
    IsTrace game moves first visits → Wins game Even (strategy_of moves) first → (i : ℕ) → i < length visits →
    (visit_at visits i).end ≡ Stands → owner_of game (visit_at visits i).vertex ≡ Even → ⊥

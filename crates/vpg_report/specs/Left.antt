-- The page that a script leaves. This project's own.
use Rattle.std.specs.Prelude.{◌≡◌, ◌⊎◌, ℕ, false, List, length, Option, Some, None, Result, Ok, Err}
use Rattle.vpg_diagram.specs.DiagramText.{NamedDiagram}
use Rattle.vpg_game.specs.Game.{NamedGame, graph_of}
use Rattle.vpg_measure.specs.Orders.{OrderView}
use Rattle.vpg_trail.specs.Page.{Which, Hopeful, Dual, decisions_of, table_of}
use Rattle.vpg_desk.specs.State.{IsOpened}
use Rattle.vpg_script.specs.Manners.{Leaves, MannerOutcome}
use Rattle.vpg_script.specs.Output.{Machine}
use Rattle.vpg_script.specs.declared.fault.RunFault.{RunFault}
use Rattle.vpg_script.specs.declared.fault.RunFault.TheVariants as stops
use Rattle.vpg_script.specs.declared.framing.Form.TheVariants.{Plain}
use Rattle.vpg_script.specs.declared.serving.Manner.{Manner}
use Rattle.vpg_script.specs.declared.serving.Ending.{Ending}
use Rattle.vpg_family.specs.declared.known.Context.{Context}
use Rattle.vpg_family.specs.declared.fault.Fault.{Fault}
use Rattle.vpg_family.specs.declared.fault.Fault.TheVariants.{LogFull}
use Rattle.vpg_engine.specs.Answers.{room}
use Rattle.vpg_engine.specs.Line.{Between, begun}
use Rattle.vpg_report.specs.Run.{answering_called, called_in}
use Rattle.vpg_report.specs.Runs.{Ends, IsRun}

-- each line is answered with its text, and a fault ends the script
abbrev pub plain : Manner
plain = record { is_strict = false; goes_on = false; form = Plain }

-- An office on the family answers all lines of the script, in this context and by one lifter, as a run does. The script
-- has this ending, and this is left after its last line: the book with its present page, the number of calls, and what
-- is held.
pub record LeavesBook (diagram : NamedDiagram) (game : NamedGame) (context : Context) (script : List ℕ)
    (ending : Ending) (left : Between) : Type 0 where
  pub opened : IsOpened game diagram
  pub answered : Leaves plain (answering_called (called_in game diagram context) 1) begun left (Some script) None None
      ending

-- either table of the page that is left
abbrev pub table_left : NamedGame → Between → Which → List ℕ
table_left game left which = table_of which left.book.present (length (graph_of game))

-- the order has the decisions and both tables of the page that is left
pub record IsOrderOn (game : NamedGame) (diagram : NamedDiagram) (left : Between) (order : OrderView) : Type 0 where
  pub game_is : order.game ≡ game
  pub diagram_is : order.diagram ≡ diagram
  pub decisions_are : order.decisions ≡ decisions_of left.book.present
  pub hopeful_is : order.hopeful ≡ table_left game left Hopeful
  pub dual_is : order.dual ≡ table_left game left Dual

-- an order of the present page; or there is none, since the log is full
abbrev pub HandsOver : NamedGame → NamedDiagram → Between → Option OrderView → Type 0
HandsOver game diagram left None = left.calls ≡ room
HandsOver game diagram left (Some order) = IsOrderOn game diagram left order

-- The script leaves a page, and this is an order of it; or its log is full.
abbrev pub IsLeft : NamedDiagram → NamedGame → Context → (script : List ℕ) → Ending → Option OrderView → Type 0
IsLeft diagram game context script ending found =
    (left : Between) × LeavesBook diagram game context script ending left × HandsOver game diagram left found

-- The run of a script ends in this fault, with the text read, and the texts written before and after it.
abbrev pub IsStopped : Machine Between → Between → (input before after : Option (List ℕ)) → RunFault → Type 0
IsStopped serves old input before after fault =
    (rest : Option (List ℕ)) × MannerOutcome plain serves old input rest before after (Err fault)

-- A run that came to an ending has an order, or stops for want of memory or for a stray call. Any other run stops as it
-- did.
abbrev pub IsHanded : NamedGame → NamedDiagram → Between → Result Ending RunFault →
    Result (Ending × Option OrderView) RunFault → Type 0
IsHanded game diagram left run (Ok handed) = (run ≡ Ok handed.0) × HandsOver game diagram left handed.1
IsHanded game diagram left (Ok ending) (Err fault) = (fault ≡ stops.Memory) ⊎ (fault ≡ stops.Stray)
IsHanded game diagram left (Err stop) (Err fault) = fault ≡ stop

-- The run of the script at an office on the family, in this context and by one lifter, ends in this fault.
abbrev pub IsRunStopped : NamedDiagram → NamedGame → Context → (script : List ℕ) → RunFault → Type 0
IsRunStopped diagram game context script fault =
    (rest : Option (List ℕ)) × Ends plain diagram game context 1 (Some script) rest None None (Err fault)

-- Why there is no order of a page: the run's own fault, or `LogFull` if the script left a full log.
abbrev pub IsUnleft : NamedDiagram → NamedGame → Context → (script : List ℕ) → Fault → Type 0
IsUnleft diagram game context script fault =
    ((rest : Option (List ℕ)) × IsRun plain diagram game context 1 (Some script) rest None None (Err fault)) ⊎
    ((fault ≡ LogFull) × (ending : Ending) × IsLeft diagram game context script ending None)

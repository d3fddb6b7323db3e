-- The text that a run of a script on a family reads and writes, and how its end is reported.
use Rattle.std.specs.Prelude.{◌≡◌, ℕ, List, Option, Some, Result, Ok, Err, slice_get, ⊤}
use Rattle.std.specs.String.{string_bytes}
use Rattle.vpg_diagram.specs.DiagramText.{NamedDiagram}
use Rattle.vpg_game.specs.Game.{NamedGame}
use Rattle.vpg_desk.specs.State.{IsOpened}
use Rattle.vpg_faults.specs.declared.fault.OpenFault.{OpenFault}
use Rattle.vpg_faults.specs.declared.fault.OpenFault.TheVariants as opens
use Rattle.vpg_family.specs.Families.{TellsConflict}
use Rattle.vpg_report.specs.Output.{OutcomeAs}
use Rattle.vpg_report.specs.Results.{IsOpenRefusal, Opens}
use Rattle.vpg_engine.specs.Line.{begun}
use Rattle.vpg_report.specs.Run.{answering_called, called_in}
use Rattle.vpg_family.specs.declared.known.Context.{Context}
use Rattle.vpg_script.specs.declared.fault.RunFault.{RunFault}
use Rattle.vpg_script.specs.declared.fault.RunFault.TheVariants as stops
use Rattle.vpg_script.specs.declared.serving.Manner.{Manner}
use Rattle.vpg_script.specs.declared.serving.Ending.{Ending}
use Rattle.vpg_family.specs.declared.fault.Fault.{Fault}
use Rattle.vpg_family.specs.declared.fault.Fault.TheVariants as told

-- the fault that reports an office that isn't opened
abbrev pub TellsOpening : List (List ℕ) → OpenFault → Fault → Type 0
TellsOpening names opens.AtLimit fault = fault ≡ told.AtLimit
TellsOpening names (opens.Conflict f) fault = TellsConflict names f fault
TellsOpening names opens.Memory fault = fault ≡ told.Memory

-- the fault that reports how a run stopped
abbrev pub TellsStop : List (List ℕ) → RunFault → Fault → Type 0
TellsStop names (stops.Line n what) fault = fault ≡ told.Line n what
TellsStop names stops.Read fault = fault ≡ told.Read
TellsStop names stops.Write fault = fault ≡ told.Write
TellsStop names (stops.Open why) fault = TellsOpening names why fault
TellsStop names stops.Memory fault = fault ≡ told.Memory
TellsStop names stops.Stray fault = fault ≡ told.Stray

-- An office on the family answered the lines that were read, in this manner and context and with this many lifters, and
-- ended so. The texts read and written are known if the devices report them.
pub record Ends (manner : Manner) (diagram : NamedDiagram) (game : NamedGame) (context : Context) (lifters : ℕ)
    (script rest before after : Option (List ℕ)) (ended : Result Ending RunFault) : Type 0 where
  pub answered : OutcomeAs manner (answering_called (called_in game diagram context) lifters)
      (IsOpenRefusal game diagram) begun script rest before after ended
  pub opened : Opens ended (IsOpened game diagram)

-- The run has this result, with the script before and after the run, and the output before and after.
abbrev pub IsRun : Manner → NamedDiagram → NamedGame → Context → ℕ → (script rest before after : Option (List ℕ)) →
    Result Ending Fault → Type 0
IsRun manner diagram game context lifters script rest before after (Ok ending) =
    Ends manner diagram game context lifters script rest before after (Ok ending)
IsRun manner diagram game context lifters script rest before after (Err (told.Line n fault)) =
    Ends manner diagram game context lifters script rest before after (Err (stops.Line n fault))
IsRun manner diagram game context lifters script rest before after (Err told.Read) =
    Ends manner diagram game context lifters script rest before after (Err stops.Read)
IsRun manner diagram game context lifters script rest before after (Err told.Write) =
    Ends manner diagram game context lifters script rest before after (Err stops.Write)
IsRun manner diagram game context lifters script rest before after (Err told.AtLimit) =
    Ends manner diagram game context lifters script rest before after (Err (stops.Open opens.AtLimit))
-- the fault names the root
IsRun manner diagram game context lifters script rest before after (Err (told.Conflict name)) =
    Ends manner diagram game context lifters script rest before after (Err (stops.Open (opens.Conflict 0))) ×
    (slice_get diagram.names 0 ≡ Some (string_bytes name))
IsRun manner diagram game context lifters script rest before after (Err told.Memory) =
    Ends manner diagram game context lifters script rest before after (Err stops.Memory)
IsRun manner diagram game context lifters script rest before after (Err told.Stray) =
    Ends manner diagram game context lifters script rest before after (Err stops.Stray)
IsRun manner diagram game context lifters script rest before after (Err fault) = ⊥

-- This holds of each run except one that could not read its script to the end.
abbrev pub UnlessScriptFails : Result Ending Fault → Type 0 → Type 0
UnlessScriptFails (Err told.Read) P = ⊤
UnlessScriptFails result P = P

-- This holds of each run except one that could not write its answers.
abbrev pub UnlessOutputFails : Result Ending Fault → Type 0 → Type 0
UnlessOutputFails (Err told.Write) P = ⊤
UnlessOutputFails result P = P

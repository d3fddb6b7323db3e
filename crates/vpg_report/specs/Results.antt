-- The facts that a run's result states.
use Rattle.std.specs.Prelude.{Result, Ok, Err, ⊤}
use Rattle.vpg_diagram.specs.DiagramText.{NamedDiagram}
use Rattle.vpg_game.specs.Game.{NamedGame}
use Rattle.vpg_faults.specs.declared.fault.OpenFault.{OpenFault}
use Rattle.vpg_faults.specs.declared.fault.OpenFault.TheVariants.{Memory}
use Rattle.vpg_engine.specs.Engine.{IsOpenFault}
use Rattle.vpg_script.specs.declared.fault.RunFault.{RunFault}
use Rattle.vpg_script.specs.declared.fault.RunFault.TheVariants as stops

-- why an office isn't opened; out of memory is reported separately
abbrev pub IsOpenRefusal : NamedGame → NamedDiagram → OpenFault → Type 0
IsOpenRefusal game diagram Memory = ⊥
IsOpenRefusal game diagram fault = IsOpenFault game diagram fault

-- This holds of each run that opened an office: of each except one that ends in Open, or in Memory, which may have come
-- before.
abbrev pub Opens : {A : Type 0} → Result A RunFault → Type 0 → Type 0
Opens (Err (stops.Open fault)) P = ⊤
Opens (Err stops.Memory) P = ⊤
Opens result P = P

-- The run ends at the script's end or at a line's fault: neither a device nor memory nor a stray call stopped it.
abbrev pub IsThrough : Result (Unit {0}) RunFault → Type 0
IsThrough (Ok done) = ⊤
IsThrough (Err (stops.Line n fault)) = ⊤
IsThrough _ = ⊥

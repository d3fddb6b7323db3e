-- How the text that a run writes depends on the one that it reads.
use Rattle.std.specs.Prelude.{◌≡◌, ℕ, List, Option, Result, Err}
use Rattle.vpg_faults.specs.declared.fault.OpenFault.{OpenFault}
use Rattle.vpg_script.specs.Output.{Machine, ScriptOutcome}
use Rattle.vpg_script.specs.Manners.{MannerOutcome}
use Rattle.vpg_script.specs.declared.serving.Manner.{Manner}
use Rattle.vpg_script.specs.declared.serving.Ending.{Ending}
use Rattle.vpg_script.specs.declared.fault.RunFault.{RunFault}
use Rattle.vpg_script.specs.declared.fault.RunFault.TheVariants as stops

-- A run's result with the texts read and written: that of the script's lines, or a refused opening, which comes before
-- any line.
abbrev pub Outcome : {S : Type 0} → Machine S → (OpenFault → Type 0) → S → Option (List ℕ) → Option (List ℕ) →
    Option (List ℕ) → Option (List ℕ) → Result (Unit {0}) RunFault → Type 0
Outcome {S} serves Refuses old input left before after (Err (stops.Open fault)) =
    Refuses fault × (left ≡ input) × (after ≡ before)
Outcome {S} serves Refuses old input left before after result =
    ScriptOutcome serves old input left before after result

-- As `Outcome`, for a run in a manner.
abbrev pub OutcomeAs : {S : Type 0} → Manner → Machine S → (OpenFault → Type 0) → S → Option (List ℕ) →
    Option (List ℕ) → Option (List ℕ) → Option (List ℕ) → Result Ending RunFault → Type 0
OutcomeAs {S} manner serves Refuses old input left before after (Err (stops.Open fault)) =
    Refuses fault × (left ≡ input) × (after ≡ before)
OutcomeAs {S} manner serves Refuses old input left before after result =
    MannerOutcome manner serves old input left before after result

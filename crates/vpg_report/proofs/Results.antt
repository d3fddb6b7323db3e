-- What a run's result says, by that of its script.
use Rattle.std.proofs.Common.{◌≡◌, ℕ, false, List, [], Option, None, Result, Ok, Err, ap, subst}
use Rattle.std.proofs.Math.Path.{fun_ext}
use Rattle.std.specs.Prelude.{IsErrOf}
use Rattle.vpg_faults.specs.declared.fault.OpenFault.{OpenFault}
use Rattle.vpg_script.specs.Output.{Machine}
use Rattle.vpg_script.specs.Manners.{MannerOutcome}
use Rattle.vpg_script.specs.declared.framing.Form.TheVariants.{Plain}
use Rattle.vpg_script.specs.declared.serving.Manner.{Manner}
use Rattle.vpg_script.specs.declared.serving.Ending.{Ending}
use Rattle.vpg_script.specs.declared.fault.RunFault.{RunFault}
use Rattle.vpg_script.specs.declared.fault.RunFault.TheVariants as stops
use Rattle.vpg_script.proofs.MannerLemmas.{as_before, plain_outcome}
use Rattle.vpg_report.specs.Output.{Outcome, OutcomeAs}
use Rattle.vpg_report.specs.Results.{IsOpenRefusal, Opens}
use Rattle.vpg_diagram.specs.DiagramText.{NamedDiagram}
use Rattle.vpg_game.specs.Game.{NamedGame}
use Rattle.vpg_family.specs.declared.known.Context.{Context}
use Rattle.vpg_script.specs.Script.{Request}
use Rattle.vpg_script.proofs.Nameless.{none_meant}
use Rattle.vpg_texts.specs.Scene.{scene_of}
use Rattle.vpg_engine.specs.Line.{begun}
use Rattle.vpg_report.specs.Run.{answering, answering_called, as_meant, called_in}

pub opens : {A : Type 0} (result : Result A RunFault) (P : Type 0) → P → Opens result P
opens (Err (stops.Open fault)) P p = tt
opens (Err stops.Memory) P p = tt
opens _ P p = p

pub outcome_as : {S : Type 0} (manner : Manner) (serves : Machine S) (Refuses : OpenFault → Type 0) (old : S) (input left before after : Option (List ℕ)) (result : Result Ending RunFault) →
    MannerOutcome manner serves old input left before after result → OutcomeAs manner serves Refuses old input left before after result
outcome_as manner serves Refuses old input left before after (Err (stops.Open fault)) so = absurd so
outcome_as manner serves Refuses old input left before after _ so = so

-- without a manner a run is what it was
pub outcome_plain : {S : Type 0} (manner : Manner) (serves : Machine S) (Refuses : OpenFault → Type 0) (old : S) (input left before after : Option (List ℕ)) (result : Result Ending RunFault) →
    manner.is_strict ≡ false → manner.goes_on ≡ false → manner.form ≡ Plain → OutcomeAs manner serves Refuses old input left before after result → Outcome serves Refuses old input left before after (as_before result)
outcome_plain manner serves Refuses old input left before after (Err (stops.Open fault)) lax off plain so = so
outcome_plain manner serves Refuses old input left before after result lax off plain so = plain_outcome manner serves old input left before after result lax off plain so

-- the same fault of a run with another value
pub stopped_alike : (A B : Type 0) (fault stop : RunFault) → IsErrOf {T = A} (Err fault) stop → IsErrOf {T = B} (Err fault) stop
stopped_alike A B fault stop is =
    let same : fault ≡ stop = cc is in
    ap (λ (f : RunFault). Err f) same

-- a run with a value has no fault
pub not_stopped : (A : Type 0) (value : A) (stop : RunFault) → IsErrOf (Ok value) stop → ⊥
not_stopped A value stop is = absurd (cc is)

-- ---- without names of vertices

pub uncalled : (manner : Manner) (game : NamedGame) (diagram : NamedDiagram) (context : Context) (lifters : ℕ) (input left before after : Option (List ℕ)) (result : Result Ending RunFault) → context.callings ≡ [] → context.behaviour ≡ None → context.labels.names ≡ [] →
    OutcomeAs manner (answering_called (called_in game diagram context) lifters) (IsOpenRefusal game diagram) begun input left before after result →
    OutcomeAs manner (answering None (scene_of [] game diagram) lifters) (IsOpenRefusal game diagram) begun input left before after result
uncalled manner game diagram context lifters input left before after result none alone bare outcome =
    subst (λ (meaning : Request → Request). OutcomeAs manner (as_meant meaning (answering None (scene_of [] game diagram) lifters)) (IsOpenRefusal game diagram) begun input left before after result)
    (fun_ext (λ request. none_meant diagram.names request))
    (coe 0 1 (k. OutcomeAs manner (answering_called (record { scene = scene_of (bare k) game diagram; callings = none k; behaviour = alone k }) lifters) (IsOpenRefusal game diagram) begun input left before after result) outcome)

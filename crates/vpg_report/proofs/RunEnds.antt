-- How a run's end is told.
use Rattle.std.proofs.Common.{◌≡◌, ℕ, List, [], Option, Some, None, Err, slice_get, refl, sym, subst}
use Rattle.std.specs.String.{string_bytes}
use Rattle.std.specs.Io.KnownBytes.{Appends}
use Rattle.std.proofs.lemmas.List.{append-nil}
use Rattle.vpg_diagram.specs.DiagramText.{NamedDiagram}
use Rattle.vpg_game.specs.Game.{NamedGame}
use Rattle.vpg_faults.specs.declared.fault.OpenFault.{OpenFault}
use Rattle.vpg_faults.specs.declared.fault.OpenFault.TheVariants as opens
use Rattle.vpg_script.specs.Output.{ReadKnown}
use Rattle.vpg_script.specs.declared.serving.Manner.{Manner}
use Rattle.vpg_engine.specs.Line.{begun}
use Rattle.vpg_family.specs.declared.known.Context.{Context}
use Rattle.vpg_script.specs.declared.fault.RunFault.{RunFault}
use Rattle.vpg_script.specs.declared.fault.RunFault.TheVariants as stops
use Rattle.vpg_report.specs.Runs.{TellsOpening, TellsStop, Ends, IsRun}
use Rattle.vpg_family.specs.declared.fault.Fault.{Fault}
use Rattle.vpg_family.specs.declared.fault.Fault.TheVariants as told

read_nothing : (script : Option (List ℕ)) → ReadKnown script [] script
read_nothing None = tt
read_nothing (Some text) = refl

written_nothing : (before : Option (List ℕ)) → Appends before before []
written_nothing None = tt
written_nothing (Some text) = sym (append-nil text)

-- nothing was read and nothing written
pub nothing_ran : (manner : Manner) (diagram : NamedDiagram) (game : NamedGame) (context : Context) (lifters : ℕ) (script before : Option (List ℕ)) → Ends manner diagram game context lifters script script before before (Err stops.Memory)
nothing_ran manner diagram game context lifters script before = record {
  answered = ([], [], begun, script, record { wrote = record { read = read_nothing script; answered = (refl, refl); written = written_nothing before }; unrefused = λ strict. refl });
  opened = tt;
}

-- the same, where neither device changed
unchanged : (manner : Manner) (diagram : NamedDiagram) (game : NamedGame) (context : Context) (lifters : ℕ) (script rest before after : Option (List ℕ)) → rest ≡ script → after ≡ before → Ends manner diagram game context lifters script rest before after (Err stops.Memory)
unchanged manner diagram game context lifters script rest before after read written =
    subst (λ (r : Option (List ℕ)). Ends manner diagram game context lifters script r before after (Err stops.Memory)) (sym read)
    (subst (λ (a : Option (List ℕ)). Ends manner diagram game context lifters script script before a (Err stops.Memory)) (sym written) (nothing_ran manner diagram game context lifters script before))

module _ (manner : Manner) (diagram : NamedDiagram) (game : NamedGame) (context : Context) (lifters : ℕ) (script rest before after : Option (List ℕ)) where
  abbrev Stops : RunFault → Type 0
  Stops stop = Ends manner diagram game context lifters script rest before after (Err stop)

  abbrev Told : Fault → Type 0
  Told fault = IsRun manner diagram game context lifters script rest before after (Err fault)

  -- a conflict is that of the root
  pub root_of_run : (stop : RunFault) → Stops stop → (f : ℕ) → stop ≡ stops.Open (opens.Conflict f) → f ≡ 0
  root_of_run (stops.Open (opens.Conflict n)) ends f e = let same : n ≡ f = cc in subst (λ (k : ℕ). k ≡ 0) same ends.answered.0.2
  root_of_run _ ends f e = absurd cc

  -- a refused opening
  of_opening : (why : OpenFault) (said : Fault) → Stops (stops.Open why) → TellsOpening diagram.names why said → Told said
  of_opening opens.AtLimit said ends is = subst Told (sym is) ends
  of_opening (opens.Conflict f) (told.Conflict name) ends is =
      let root = ends.answered.0.2 in (
        subst (λ (n : ℕ). Stops (stops.Open (opens.Conflict n))) root ends,
        subst (λ (n : ℕ). slice_get diagram.names n ≡ Some (string_bytes name)) root is,
      )
  of_opening (opens.Conflict f) told.Memory ends is = unchanged manner diagram game context lifters script rest before after ends.answered.1 ends.answered.2
  of_opening (opens.Conflict f) _ ends is = absurd is
  of_opening opens.Memory said ends is = absurd ends.answered.0

  -- the result of a run that stopped
  pub run_of_stop : (stop : RunFault) (said : Fault) → Stops stop → TellsStop diagram.names stop said → Told said
  run_of_stop (stops.Open why) said ends is = of_opening why said ends is
  run_of_stop _ said ends is = subst Told (sym is) ends

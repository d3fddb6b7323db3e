-- Pages that scripts leave.
use Rattle.std.proofs.Common.{◌≡◌, ℕ, inl, inr, List, length, Option, Some, None, Result, Ok, Err, refl, sym, ap, subst, ◌∙◌}
use Rattle.std.specs.Prelude.{IfOk, IfErr}
use Rattle.vpg_diagram.specs.DiagramText.{NamedDiagram}
use Rattle.vpg_game.specs.Game.{NamedGame, graph_of}
use Rattle.vpg_measure.specs.Orders.{OrderView}
use Rattle.vpg_trail.specs.Page.{Hopeful, Dual, table_of}
use Rattle.vpg_desk.specs.Book.{Order, Ordered}
use Rattle.vpg_desk.specs.Commit.{IsOrderOf}
use Rattle.vpg_desk.specs.Desk.{family_of}
use Rattle.vpg_desk.specs.State.{IsOpened, setting_of}
use Rattle.vpg_faults.specs.declared.fault.OpenFault.{OpenFault}
use Rattle.vpg_faults.specs.declared.fault.OpenFault.TheVariants as opens
use Rattle.vpg_faults.specs.declared.refusal.Refusal.{Refusal}
use Rattle.vpg_script.specs.Manners.{Leaves, MannerOutcome}
use Rattle.vpg_script.specs.Output.{Machine}
use Rattle.vpg_script.specs.declared.fault.RunFault.{RunFault}
use Rattle.vpg_script.specs.declared.fault.RunFault.TheVariants as stops
use Rattle.vpg_script.specs.declared.serving.Ending.{Ending}
use Rattle.vpg_script.specs.declared.serving.Ending.TheVariants as endings
use Rattle.vpg_family.specs.declared.known.Context.{Context}
use Rattle.vpg_family.specs.declared.fault.Fault.{Fault}
use Rattle.vpg_family.specs.declared.fault.Fault.TheVariants as told
use Rattle.vpg_engine.specs.Answers.{room}
use Rattle.vpg_engine.specs.Client.{ClientState, IsLogged}
use Rattle.vpg_engine.specs.Faults.{Tells}
use Rattle.vpg_engine.specs.declared.fault.ClientFault.{ClientFault}
use Rattle.vpg_engine.specs.declared.fault.ClientFault.TheVariants.{LogFull}
use Rattle.vpg_engine.specs.Engine.{EngineState, IsOpenFault, between_of, engine_of}
use Rattle.vpg_engine.specs.Line.{Between, begun}
use Rattle.vpg_report.specs.Run.{answering_called, called_by, called_in}
use Rattle.vpg_report.specs.Runs.{TellsStop}
use Rattle.vpg_report.specs.Results.{IsOpenRefusal}
use Rattle.vpg_report.specs.Left.{plain, IsHanded, IsLeft, IsOrderOn, IsRunStopped, IsStopped, IsUnleft}
use Rattle.vpg_report.proofs.Histories.{ordered_is}
use Rattle.vpg_report.proofs.Results.{opens as opened, outcome_as}
use Rattle.vpg_report.proofs.RunEnds.{nothing_ran, run_of_stop, root_of_run}

-- ---- the order

pub order_on : (limit : ℕ) (old : EngineState) (new : ClientState) (label : ℕ) (order : OrderView) (game : NamedGame) (diagram : NamedDiagram) →
    IsLogged limit old.client label Order (Ordered order.decisions order.hopeful order.dual) new → IsOrderOf old.client.desk order → (order.game ≡ game) × (order.diagram ≡ diagram) →
    IsOrderOn game diagram (between_of old) order
order_on limit old new label order game diagram logged ours of =
    let desk = old.client.desk in
    let is = ordered_is (family_of (setting_of desk)) desk.book order.decisions order.hopeful order.dual logged.step.step.0 in
    let same : desk.game ≡ game = sym ours.0 ∙ of.0 in
    record {
      game_is = of.0;
      diagram_is = of.1;
      decisions_are = is.0;
      hopeful_is = is.1 ∙ ap (λ (g : NamedGame). table_of Hopeful desk.book.present (length (graph_of g))) same;
      dual_is = is.2 ∙ ap (λ (g : NamedGame). table_of Dual desk.book.present (length (graph_of g))) same;
    }

-- there is none where the log is full
pub full_on : {F : Type 0} (limit : ℕ) (old : EngineState) (new : ClientState) (label : ℕ) (refusal : F → Option Refusal) (fault : ClientFault F) → limit ≡ room →
    Tells limit refusal old.client label Order new fault → fault ≡ LogFull → (between_of old).calls ≡ room
full_on {F} limit old new label refusal fault same tells is =
    (subst (λ (f : ClientFault F). Tells limit refusal old.client label Order new f) is tells).0 ∙ same

-- ---- the run

pub stopped_of : (serves : Machine Between) (old : Between) (input rest before after : Option (List ℕ)) (run : Result Ending RunFault) → MannerOutcome plain serves old input rest before after run →
    IfErr run (IsStopped serves old input before after)
stopped_of serves old input rest before after (Ok ending) is = tt
stopped_of serves old input rest before after (Err fault) is = (rest, is)

module _ (diagram : NamedDiagram) (game : NamedGame) (context : Context) (script : List ℕ) where
  abbrev serves : Machine Between
  serves = answering_called (called_in game diagram context) 1

  abbrev Stops : RunFault → Type 0
  Stops fault = IsRunStopped diagram game context script fault

  pub out_of_memory : Stops stops.Memory
  out_of_memory = (Some script, nothing_ran plain diagram game context 1 (Some script) None)

  pub not_opened : (fault : OpenFault) → (fault ≡ opens.Memory → ⊥) → IsOpenFault game diagram fault → Stops (stops.Open fault)
  not_opened opens.AtLimit other is = (Some script, record { answered = (is, refl, refl); opened = tt })
  not_opened (opens.Conflict f) other is = (Some script, record { answered = (is, refl, refl); opened = tt })
  not_opened opens.Memory other is = absurd (other refl)

  -- the run at an engine that was just opened
  module _ (old : EngineState) (new : Between) (run : Result Ending RunFault) (just_opened : old ≡ engine_of game diagram) where
    pub leaves_of : IfOk run (Leaves plain (answering_called (called_by old context) 1) (between_of old) new (Some script) None None) → IfOk run (Leaves plain serves begun new (Some script) None None)
    leaves_of is = subst (λ (e : EngineState). IfOk run (Leaves plain (answering_called (called_by e context) 1) (between_of e) new (Some script) None None)) just_opened is

    pub stops_there : IfErr run (IsStopped (answering_called (called_by old context) 1) (between_of old) (Some script) None None) → IfErr run (IsStopped serves begun (Some script) None None)
    stops_there is = subst (λ (e : EngineState). IfErr run (IsStopped (answering_called (called_by e context) 1) (between_of e) (Some script) None None)) just_opened is

  -- the order is of the game and the diagram that the office was opened on
  pub handed_of : (own : NamedGame) (own_diagram : NamedDiagram) (left : Between) (run : Result Ending RunFault) (handed : Result (Ending × Option OrderView) RunFault) → game ≡ own → diagram ≡ own_diagram →
      IsHanded own own_diagram left run handed → IsHanded game diagram left run handed
  handed_of own own_diagram left run handed same_game same_diagram is =
      let g = sym same_game in
      let d = sym same_diagram in
      coe 0 1 (k. IsHanded (g k) (d k) left run handed) is

  module _ (is_opened : IsOpened game diagram) where
    -- a run that came to an ending, and was stopped then
    after_stray : (left : Between) (ending : Ending) → Leaves plain serves begun left (Some script) None None ending → Stops stops.Stray
    after_stray left (endings.Refused n) (lines, answers, last, rest, (wrote, strict, none, refused, counted)) = absurd (cc strict)
    after_stray left endings.Whole (lines, answers, rest, (went, empty, fine)) = (None, record { answered = (lines, answers, left, rest, went); opened = is_opened })
    after_stray left endings.Failed (lines, answers, rest, (went, empty, fails)) = (None, record { answered = (lines, answers, left, rest, went); opened = is_opened })

    module _ (left : Between) (run : Result Ending RunFault) (leaves : IfOk run (Leaves plain serves begun left (Some script) None None)) (stopped : IfErr run (IsStopped serves begun (Some script) None None)) where
      stops_as : (fault : RunFault) (x : Result Ending RunFault) → IfOk x (Leaves plain serves begun left (Some script) None None) → IfErr x (IsStopped serves begun (Some script) None None) → IsHanded game diagram left x (Err fault) → Stops fault
      stops_as fault (Ok ending) so never (inl is) = subst Stops (sym is) out_of_memory
      stops_as fault (Ok ending) so never (inr is) = subst Stops (sym is) (after_stray left ending so)
      stops_as fault (Err stop) never (rest, so) is =
          subst Stops (sym is) (rest, record { answered = outcome_as plain serves (IsOpenRefusal game diagram) begun (Some script) rest None None (Err stop) so; opened = opened {A = Ending} (Err stop) (IsOpened game diagram) is_opened })

      pub ends_of : (handed : Result (Ending × Option OrderView) RunFault) → IsHanded game diagram left run handed → IfOk handed (λ r. IsLeft diagram game context script r.0 r.1) × IfErr handed Stops
      ends_of (Ok r) (is, hands) =
          ((left, record { opened = is_opened; answered = subst (λ (x : Result Ending RunFault). IfOk x (Leaves plain serves begun left (Some script) None None)) is leaves }, hands), tt)
      ends_of (Err fault) is = (tt, stops_as fault run leaves stopped is)

  -- ---- what is told

  abbrev Unleft : Fault → Type 0
  Unleft fault = IsUnleft diagram game context script fault

  -- the office was opened on copies of the game and the diagram
  pub of_copies : (other : NamedDiagram) (copy : NamedGame) (stop fault : RunFault) → other ≡ diagram → copy ≡ game → stop ≡ fault → IsRunStopped other copy context script stop → Stops fault
  of_copies other copy stop fault same_diagram same_game same is = coe 0 1 (k. IsRunStopped (same_diagram k) (same_game k) context script (same k)) is

  pub left_on_copies : (other : NamedDiagram) (copy : NamedGame) (ending : Ending) (found shown : Option OrderView) → other ≡ diagram → copy ≡ game → found ≡ shown → IsLeft other copy context script ending found →
      IsLeft diagram game context script ending shown
  left_on_copies other copy ending found shown same_diagram same_game same is = coe 0 1 (k. IsLeft (same_diagram k) (same_game k) context script ending (same k)) is

  pub unleft_full : (other : NamedDiagram) (copy : NamedGame) (ending : Ending) (found : Option OrderView) → other ≡ diagram → copy ≡ game → found ≡ None → IsLeft other copy context script ending found → Unleft told.LogFull
  unleft_full other copy ending found same_diagram same_game same is = inr (refl, ending, left_on_copies other copy ending found None same_diagram same_game same is)

  pub unleft_memory : Unleft told.Memory
  unleft_memory = inl out_of_memory

  pub unleft_stop : (stop : RunFault) (said : Fault) → Stops stop → TellsStop diagram.names stop said → Unleft said
  unleft_stop stop said (rest, ends) tells = inl (rest, run_of_stop plain diagram game context 1 (Some script) rest None None stop said ends tells)

  pub root_of : (stop : RunFault) → Stops stop → (f : ℕ) → stop ≡ stops.Open (opens.Conflict f) → f ≡ 0
  root_of stop (rest, ends) = root_of_run plain diagram game context 1 (Some script) rest None None stop ends

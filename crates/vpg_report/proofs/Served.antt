-- The answer of a server.
use Rattle.std.proofs.Common.{◌≡◌, ℕ, List, Option, Result, Ok, Err, sym, ap, ap₂, ◌∙◌, subst, []}
use Rattle.std.specs.Prelude.{IfOk, OnOk}
use Rattle.vpg_diagram.specs.DiagramText.{NamedDiagram}
use Rattle.vpg_game.specs.Game.{NamedGame}
use Rattle.vpg_script.specs.Answer.{Gives}
use Rattle.vpg_script.specs.Calling.{meant}
use Rattle.vpg_script.specs.Script as script
use Rattle.vpg_script.specs.View.{command_shown, request_shown}
use Rattle.vpg_script.specs.declared.command.Command.{Command}
use Rattle.vpg_script.specs.declared.command.Request.{Request}
use Rattle.vpg_script.specs.declared.tone.Tone.{Tone}
use Rattle.vpg_checking.specs.Behaviours.{Behaviour}
use Rattle.vpg_family.specs.declared.known.Context.{Context}
use Rattle.vpg_texts.specs.Scene.{Scene, scene_of}
use Rattle.vpg_engine.specs.Engine.{EngineState, AnswersIn, AnswersTo, AnswersWith, SweepsTo, scene_at, scene_with, between_of}
use Rattle.vpg_report.specs.Run.{answering, answering_called, called_by}

module _ (labels : List (List ℕ)) (behaviour : Option Behaviour) (old new : EngineState) (lifters : ℕ) (before after : List ℕ) where
  -- what the engine says of its answer to a command
  abbrev Handles : ℕ → script.Command → Tone → Type 0
  Handles label (script.Looks look) tone = AnswersIn labels behaviour old (record { label = label; command = script.Looks look }) tone before after new
  Handles label script.Changed tone = AnswersWith labels old (record { label = label; command = script.Changed }) tone before after new
  Handles label script.Harvest tone = SweepsTo old lifters (record { label = label; command = script.Harvest }) tone before after new
  Handles label (script.Settle n) tone = SweepsTo old lifters (record { label = label; command = script.Settle n }) tone before after new
  Handles label command tone = AnswersTo old (record { label = label; command = command }) tone before after new

  -- the answer to a request is given, and game and diagram stay
  abbrev IsServed : script.Request → Tone → Type 0
  IsServed request tone = Gives (λ answer. answering behaviour (scene_with labels old) lifters (between_of old) request answer (between_of new)) tone before after × (scene_at new ≡ scene_at old)

  stays : new.client.desk.game ≡ old.client.desk.game → new.client.desk.diagram ≡ old.client.desk.diagram → scene_at new ≡ scene_at old
  stays game diagram = ap₂ (λ (g : NamedGame) (d : NamedDiagram). scene_of [] g d) game diagram

  handled : (label : ℕ) (command : script.Command) (tone : Tone) → Handles label command tone → IsServed (record { label = label; command = command }) tone
  handled label (script.Looks look) said so = ((so.answer, ((so.answers, tt), so.given)), stays so.game so.diagram)
  handled label script.Harvest said so = ((so.answers.by.answer, ((so.answers.by.answers, so.made), so.answers.by.given)), stays so.answers.by.game so.answers.by.diagram)
  handled label (script.Settle n) said so = ((so.answers.by.answer, ((so.answers.by.answers, so.made), so.answers.by.given)), stays so.answers.by.game so.answers.by.diagram)
  handled label _ said so = ((so.by.answer, ((so.by.answers, tt), so.by.given)), stays so.by.game so.by.diagram)

-- The engine's answer to a command is that to the request as it is meant, by the names of vertices. What holds of the
-- label that is meant holds of the request's own.
pub answered : {E : Type 0} (r : Result Tone E) (old new : EngineState) (context : Context) (diagram : NamedDiagram) (features : List (List ℕ)) (lifters : ℕ) (request said : Request) (command : Command) (before after : List ℕ) →
    diagram ≡ old.client.desk.diagram → features ≡ diagram.names → request_shown said ≡ meant context.callings features (request_shown request) → said.command ≡ command →
    IfOk r (Handles context.labels.names context.behaviour old new lifters before after said.label (command_shown command)) → (Strays : ℕ → Type 0) → Strays said.label →
    IfOk r (λ tone. Gives (λ answer. answering_called (called_by old context) lifters (between_of old) (request_shown request) answer (between_of new)) tone before after)
    × OnOk r (called_by new context ≡ called_by old context) × Strays request.label
answered (Ok tone) old new context diagram features lifters request said command before after diagram_is features_are said_is is so Strays strays =
    let served : IsServed context.labels.names context.behaviour old new lifters before after (request_shown said) tone =
    subst (λ (c : Command). IsServed context.labels.names context.behaviour old new lifters before after (record { label = said.label; command = command_shown c }) tone) (sym is)
    (handled context.labels.names context.behaviour old new lifters before after said.label (command_shown command) tone so) in
    let names : features ≡ old.client.desk.diagram.names = features_are ∙ ap (λ (d : NamedDiagram). d.names) diagram_is in
    let meant_is : request_shown said ≡ meant context.callings old.client.desk.diagram.names (request_shown request) = said_is ∙ ap (λ (fs : List (List ℕ)). meant context.callings fs (request_shown request)) names in (
      subst (λ (q : script.Request). Gives (λ answer. answering context.behaviour (scene_with context.labels.names old) lifters (between_of old) q answer (between_of new)) tone before after) meant_is served.0,
      ap (λ (scene : Scene). record { scene = record scene { labels = context.labels.names }; callings = context.callings; behaviour = context.behaviour }) served.1,
      subst (λ (q : script.Request). Strays q.label) said_is strays,
    )
answered (Err e) old new context diagram features lifters request said command before after diagram_is features_are said_is is so Strays strays =
    (tt, tt, subst (λ (q : script.Request). Strays q.label) said_is strays)

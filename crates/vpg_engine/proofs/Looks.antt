-- Looks at the page, and how they are answered.
use Rattle.std.proofs.Common.{◌≡◌, ℕ, ◌+◌, Bool, true, false, List, [], length, Option, Result, Ok, Err, refl, sym, ap, ◌∙◌, subst}
use Rattle.std.specs.Prelude.{IfOk, if◌then◌else◌}
use Rattle.vpg_diagram.specs.DiagramText.{NamedDiagram}
use Rattle.vpg_diagram.specs.FeatureDiagram.{feature_count}
use Rattle.vpg_game.specs.Game.{NamedGame}
use Rattle.vpg_measure.specs.Orders.{OrderView, IsOrder}
use Rattle.vpg_measure.specs.Games.{GamesView}
use Rattle.vpg_office.specs.Made.{IsPage}
use Rattle.vpg_trail.specs.Page.{Decision, Entry}
use Rattle.vpg_desk.specs.Book.{Book, Call, Order, Page, Ordered, PageIs, Reply}
use Rattle.vpg_faults.specs.declared.refusal.Refusal.{Refusal}
use Rattle.vpg_desk.specs.Commit.{IsOrderOf}
use Rattle.vpg_script.specs.Answer.{Gives, IsGiven, refused}
use Rattle.vpg_script.specs.declared.tone.Tone.{Tone}
use Rattle.vpg_engine.specs.Client.{IsLogged}
use Rattle.vpg_engine.specs.Faults.{Tells}
use Rattle.vpg_engine.specs.declared.fault.ClientFault.{ClientFault}
use Rattle.vpg_looks.specs.Meanings.{ordered_sight}
use Rattle.vpg_answers.specs.Told.{IsTold}
use Rattle.vpg_answers.specs.Topics.{IsWithin, Topic, TopicHasSystem, found_shown, takes_order, topic_of, topic_shown}
use Rattle.vpg_answers.specs.declared.topic.Missing.{Missing}
use Rattle.vpg_answers.specs.declared.topic.Topic as code
use Rattle.vpg_checking.specs.Behaviours.{Behaviour}
use Rattle.vpg_script.specs.Script as script
use Rattle.vpg_script.specs.Script.{Request}
use Rattle.vpg_texts.specs.Scene.{scene_of}
use Rattle.vpg_engine.specs.Answers.{Own, Rest, own_of, own_text, room, answer_limits}
use Rattle.vpg_engine.specs.Engine.{EngineState, AnswersIn, TellsFault, scene_with}
use Rattle.vpg_engine.proofs.Asked.{unasked_by, asked_by, unanswered_by}
use Rattle.vpg_engine.proofs.Logged.{unless_stray_any}
use Rattle.vpg_engine.specs.Requests.{Continues, call_or_missing, first_call}

-- what an engine by its fields answers is answered by what contracts see of it
pub told_on_view : {tone : Tone} (labels : List (List ℕ)) (behaviour : Option Behaviour) (seen old new : EngineState) (request : Request) (before after : List ℕ) → seen ≡ old →
    AnswersIn labels behaviour seen request tone before after new → AnswersIn labels behaviour old request tone before after new
told_on_view {tone = tone} labels behaviour seen old new request before after same so = subst (λ (e : EngineState). AnswersIn labels behaviour e request tone before after new) same so

-- the same of a result
pub on_told_view : {E : Type 0} (labels : List (List ℕ)) (behaviour : Option Behaviour) (r : Result Tone E) (P : Tone → Type 0) (seen old new : EngineState) (request : Request) (before after : List ℕ) → seen ≡ old →
    ((tone : Tone) → P tone → AnswersIn labels behaviour seen request tone before after new) → IfOk r P → IfOk r (λ tone. AnswersIn labels behaviour old request tone before after new)
on_told_view labels behaviour (Ok tone) P seen old new request before after same f p = told_on_view {tone = tone} labels behaviour seen old new request before after same (f tone p)
on_told_view labels behaviour (Err e) P seen old new request before after same f p = tt

-- ---- what was found of a look

-- the topic that was found, by places
pub found_topic : (found : Result code.Topic Missing) (topic : code.Topic) (meant : Result Topic Missing) → found ≡ Ok topic → found_shown found ≡ meant → meant ≡ Ok (topic_shown topic)
found_topic found topic meant is shown = sym shown ∙ ap found_shown is

pub found_missing : (found : Result code.Topic Missing) (missing : Missing) (meant : Result Topic Missing) → found ≡ Err missing → found_shown found ≡ meant → meant ≡ Err missing
found_missing found missing meant is shown = sym shown ∙ ap found_shown is

-- what holds of it if it was found
pub found_so : (found : Result code.Topic Missing) (topic : code.Topic) (P : code.Topic → Type 0) → found ≡ Ok topic → IfOk found P → P topic
found_so found topic P is so = subst (λ (r : Result code.Topic Missing). IfOk r P) is so

-- ---- what an answer needs

-- what is looked at is within an order of the same game and diagram
pub within_order : (game : NamedGame) (diagram : NamedDiagram) (order : OrderView) (topic : Topic) → IsOrder order → game ≡ order.game → diagram ≡ order.diagram →
    IsWithin (length game.vertices) (length diagram.names) topic → IsWithin (length order.game.vertices) (feature_count order.diagram.lines) topic
within_order game diagram order topic is game_is diagram_is within =
    subst (λ (n : ℕ). IsWithin (length order.game.vertices) n topic) is.diagram.each_named
    (coe 0 1 (k. IsWithin (length (game_is k).vertices) (length (diagram_is k).names) topic) within)

-- and a trace has its system
pub system_order : (behaviour : Option Behaviour) (diagram : NamedDiagram) (order : OrderView) (topic : Topic) → IsOrder order → diagram ≡ order.diagram → TopicHasSystem (length diagram.names) behaviour topic →
    TopicHasSystem (feature_count order.diagram.lines) behaviour topic
system_order behaviour diagram order topic is diagram_is has =
    subst (λ (n : ℕ). TopicHasSystem n behaviour topic) is.diagram.each_named (subst (λ (d : NamedDiagram). TopicHasSystem (length d.names) behaviour topic) diagram_is has)

-- it is within a game and a diagram, each seen twice
pub within_page : (game own : NamedGame) (diagram shown : NamedDiagram) (topic : Topic) → game ≡ own → diagram ≡ shown → length shown.names ≡ feature_count shown.lines →
    IsWithin (length game.vertices) (length diagram.names) topic → IsWithin (length own.vertices) (feature_count shown.lines) topic
within_page game own diagram shown topic game_is diagram_is each within =
    subst (λ (n : ℕ). IsWithin (length own.vertices) n topic) each (coe 0 1 (k. IsWithin (length (game_is k).vertices) (length (diagram_is k).names) topic) within)

module _ (labels : List (List ℕ)) (behaviour : Option Behaviour) (old : EngineState) (session : ℕ) (game : NamedGame) (diagram : NamedDiagram) (game_is : game ≡ old.client.desk.game) (diagram_is : diagram ≡ old.client.desk.diagram) (look : script.Look) where
  here : (found : Result Topic Missing) → topic_of behaviour (scene_of [] game diagram) look ≡ found → topic_of behaviour (scene_with labels old) look ≡ found
  here found is = coe 0 1 (k. topic_of behaviour (scene_of labels (game_is k) (diagram_is k)) look ≡ found) is

  abbrev first : Result Call Own
  first = first_call behaviour (scene_with labels old) old.held (script.Looks look)

  abbrev goes_on : Reply → Rest
  goes_on = Continues behaviour (scene_with labels old) old.held (old.client.calls + 1) session (script.Looks look)

  -- what it names is missing
  pub missing_answers : {tone : Tone} (missing : Missing) (before after : List ℕ) → topic_of behaviour (scene_of [] game diagram) look ≡ Err missing → IsGiven (refused (own_text (own_of missing))) tone before after →
      AnswersIn labels behaviour old (record { label = session; command = script.Looks look }) tone before after old
  missing_answers missing before after is told = unasked_by old session first goes_on (own_of missing) before after (ap call_or_missing (here (Err missing) is)) told

  module _ (limit : ℕ) (limit_is : limit ≡ room) (new : EngineState) (topic : Topic) (before after : List ℕ) (asks : topic_of behaviour (scene_of [] game diagram) look ≡ Ok topic) where
    calls : (ordered : Bool) → takes_order topic ≡ ordered → first ≡ Ok (if ordered then Order else Page)
    calls ordered is = ap call_or_missing (here (Ok topic) asks) ∙ ap (λ (b : Bool). Ok (if b then Order else Page)) is

    -- its order or its page is not given
    pub look_refused : {F : Type 0} {tone : Tone} (refusal : F → Option Refusal) (ordered : Bool) (fault : ClientFault F) (names : List (List ℕ)) → takes_order topic ≡ ordered → Tells limit refusal old.client session (if ordered then Order else Page) new.client fault → new.held ≡ old.held →
        names ≡ new.client.desk.diagram.names → TellsFault names refusal fault tone before after → AnswersIn labels behaviour old (record { label = session; command = script.Looks look }) tone before after new
    look_refused refusal ordered fault names takes tells held names_are told =
        unanswered_by limit limit_is session refusal old new first goes_on (if ordered then Order else Page) fault names before after (calls ordered takes) tells (unless_stray_any fault (new.held ≡ old.held) held) names_are told

    -- it is answered from an order of the desk
    pub order_answers : {tone : Tone} (order : OrderView) → takes_order topic ≡ true → IsLogged limit old.client session Order (Ordered order.decisions order.hopeful order.dual) new.client → IsOrderOf old.client.desk order → new.held ≡ old.held →
        Gives (IsTold behaviour (scene_of labels order.game order.diagram) answer_limits topic (ordered_sight order.decisions order.hopeful order.dual)) tone before after →
        AnswersIn labels behaviour old (record { label = session; command = script.Looks look }) tone before after new
    order_answers order ordered logged ours held (answer, (answered, given)) =
        asked_by limit limit_is session old new first goes_on Order (Ordered order.decisions order.hopeful order.dual) answer before after (calls true ordered) logged
        ((topic, (here (Ok topic) asks, coe 0 1 (k. IsTold behaviour (scene_of labels (ours.0 k) (ours.1 k)) answer_limits topic (ordered_sight order.decisions order.hopeful order.dual) answer) answered)), refl, held) given

    -- it is answered from the page, with the game and the diagram as the code has them
    pub page_answers : {tone : Tone} (own : NamedGame) (shown : NamedDiagram) → own ≡ old.client.desk.game → shown ≡ old.client.desk.diagram → (book : Book) (entries : List Entry) (decisions : List Decision) (hopeful dual : List ℕ) (games : GamesView) →
        IsPage old.client.desk.game old.client.desk.diagram book entries decisions hopeful dual games → takes_order topic ≡ false → IsLogged limit old.client session Page (PageIs entries) new.client → new.held ≡ old.held →
        Gives (IsTold behaviour (scene_of labels own shown) answer_limits topic (record { entries = entries; decisions = decisions; hopeful = hopeful; dual = dual })) tone before after →
        AnswersIn labels behaviour old (record { label = session; command = script.Looks look }) tone before after new
    page_answers own shown own_is shown_is book entries decisions hopeful dual games page ordered logged held (answer, (answered, given)) =
        asked_by limit limit_is session old new first goes_on Page (PageIs entries) answer before after (calls false ordered) logged
        ((topic, (here (Ok topic) asks, coe 0 1 (k. IsTold behaviour (scene_of labels (own_is k) (shown_is k)) answer_limits topic (record { entries = entries; decisions = page.decided k; hopeful = page.hopeful_is k; dual = page.dual_is k }) answer) answered)), refl, held) given

-- A request's calls, its answer, and what is held then.
use Rattle.std.proofs.Common.{◌≡◌, ℕ, ◌+◌, ◌<◌, ◌≤◌, Bool, true, false, List, [], ◌∷◌, Option, Some, Result, Ok, Err, refl, sym, ap, ◌∙◌, subst, inl, inr, arith}
use Rattle.std.specs.Prelude.{length, codes, IfOk}
use Rattle.vpg_features.specs.Names.{index_of}
use Rattle.vpg_diagram.specs.DiagramText.{NamedDiagram}
use Rattle.vpg_trail.specs.Page.{Which, Decision}
use Rattle.vpg_desk.specs.Book.{Harvest, Call, Reply, Decide, Order, Commit, Ordered, Refused}
use Rattle.vpg_faults.specs.Refusals.{never_refused}
use Rattle.vpg_faults.specs.declared.refusal.Refusal.{Refusal}
use Rattle.vpg_desk.specs.Desk.{family_of}
use Rattle.vpg_desk.specs.History.{Event, IsLegalFrom, book_after}
use Rattle.vpg_office.specs.Fronts.{event}
use Rattle.vpg_desk.specs.Setting.{Setting}
use Rattle.vpg_desk.specs.State.{setting_between, setting_of}
use Rattle.vpg_script.specs.Answer.{Answer, IsGiven, done, refused as refusal_of}
use Rattle.vpg_script.specs.declared.tone.Tone.{Tone}
use Rattle.vpg_engine.specs.Client.{ClientState, IsLogged}
use Rattle.vpg_engine.specs.Faults.{Tells, UnlessStray}
use Rattle.vpg_engine.specs.declared.fault.ClientFault.{ClientFault}
use Rattle.vpg_engine.specs.declared.fault.ClientFault.TheVariants as faults
use Rattle.vpg_script.specs.Script as script
use Rattle.vpg_script.specs.Script.{Request}
use Rattle.vpg_engine.specs.Held.{Held, with_harvest}
use Rattle.vpg_texts.specs.Scene.{Scene}
use Rattle.vpg_engine.specs.Answers.{Own, NoFeature, NoVertex, own_text, full_log, refusal_text, numbered, room, call_or, vertex_of, first_call, IsSwept, IsLifted, most_sweeps, sweeps_of, Rest, Ends, Follows, Asks, TellsAdded, AsksSettled, Continues, Begins}
use Rattle.vpg_engine.specs.Made.{IsMadeBy, IsCommittedBy, AreMadeBy}
use Rattle.vpg_engine.specs.Engine.{EngineState, scene_at, scene_with, deciding, TellsRefusal, TellsFault, AnswersBy, AnswersTo, AnswersWith, SweepsTo}

-- ---- what the code shows

-- an answer of an engine by its fields is one of what contracts see of it
pub on_view_told : {tone : Tone} {labels : List (List ℕ)} (seen old new : EngineState) (request : Request) (before after : List ℕ) → seen ≡ old → AnswersWith labels seen request tone before after new → AnswersWith labels old request tone before after new
on_view_told {tone = tone} {labels = labels} seen old new request before after same so = subst (λ (e : EngineState). AnswersWith labels e request tone before after new) same so

-- the same of a result
pub on_view : {E : Type 0} {labels : List (List ℕ)} (r : Result Tone E) (P : Tone → Type 0) (seen old new : EngineState) (request : Request) (before after : List ℕ) → seen ≡ old →
    ((tone : Tone) → P tone → AnswersWith labels seen request tone before after new) → IfOk r P → IfOk r (λ tone. AnswersWith labels old request tone before after new)
on_view {labels = labels} (Ok tone) P seen old new request before after same f p = subst (λ (e : EngineState). AnswersWith labels e request tone before after new) same (f tone p)
on_view (Err e) P seen old new request before after same f p = tt

-- the same, of what sweeps made
pub on_view_by : {E : Type 0} (r : Result Tone E) (P : Tone → Type 0) (seen old new : EngineState) (lifters : ℕ) (request : Request) (before after : List ℕ) → seen ≡ old →
    ((tone : Tone) → P tone → SweepsTo seen lifters request tone before after new) → IfOk r P → IfOk r (λ tone. SweepsTo old lifters request tone before after new)
on_view_by (Ok tone) P seen old new lifters request before after same f p = subst (λ (e : EngineState). SweepsTo e lifters request tone before after new) same (f tone p)
on_view_by (Err e) P seen old new lifters request before after same f p = tt

-- ---- calls of a client

-- the desk replies so to these calls, and is left so
pub record Calls (old : ClientState) (calls : List Event) (new : ClientState) : Type 0 where
  legal : IsLegalFrom (family_of (setting_of old.desk)) old.desk.book calls
  left : new.desk.book ≡ book_after (family_of (setting_of old.desk)) old.desk.book calls
  counted : new.calls ≡ old.calls + length calls
  game : new.desk.game ≡ old.desk.game
  diagram : new.desk.diagram ≡ old.desk.diagram

pub none : (old new : ClientState) → new ≡ old → Calls old [] new
none old new is = record {
  legal = tt;
  left = ap (λ (c : ClientState). c.desk.book) is;
  counted = omega (arith, ap (λ (c : ClientState). c.calls) is);
  game = ap (λ (c : ClientState). c.desk.game) is;
  diagram = ap (λ (c : ClientState). c.desk.diagram) is;
}

pub then : (limit : ℕ) (old mid new : ClientState) (label : ℕ) (call : Call) (reply : Reply) (calls : List Event) → IsLogged limit old label call reply mid → Calls mid calls new → Calls old (event label call reply ∷ calls) new
then limit old mid new label call reply calls first rest = record {
  legal = (first.step.step.0, coe 0 1 (i. IsLegalFrom (family_of (setting_between (first.step.game i) (first.step.diagram i))) (first.step.step.1 i) calls) rest.legal);
  left = coe 0 1 (i. new.desk.book ≡ book_after (family_of (setting_between (first.step.game i) (first.step.diagram i))) (first.step.step.1 i) calls) rest.left;
  counted = omega (arith, first.counted, rest.counted);
  game = rest.game ∙ first.step.game;
  diagram = rest.diagram ∙ first.step.diagram;
}

-- from a client on, calls of this rest are made, and their answer is given
pub record Goes (client : ClientState) (R : Rest) (tone : Tone) (before after : List ℕ) (new : EngineState) : Type 0 where
  pub calls : List Event
  pub answer : Answer
  pub rest : R calls answer new.held
  pub made : Calls client calls new.client
  pub given : IsGiven answer tone before after

-- no further call
abbrev pub ends : {tone : Tone} (client : ClientState) (new : EngineState) (answer : Answer) (held : Held) (before after : List ℕ) → new.client ≡ client → new.held ≡ held → IsGiven answer tone before after →
    Goes client (Ends answer held) tone before after new
ends client new answer held before after is same given = record { calls = []; answer = answer; rest = (refl, refl, same); made = none client new.client is; given = given }

-- the same calls, of another rest
abbrev pub goes_so : {tone : Tone} (client : ClientState) (R S : Rest) (before after : List ℕ) (new : EngineState) (goes : Goes client R tone before after new) → S goes.calls goes.answer new.held → Goes client S tone before after new
goes_so client R S before after new goes so = record { calls = goes.calls; answer = goes.answer; rest = so; made = goes.made; given = goes.given }

-- a line that begins with this call
abbrev pub begun : {tone : Tone} (old new : EngineState) (label : ℕ) (first : Result Call Own) (P : Reply → Rest) (call : Call) (before after : List ℕ) → first ≡ Ok call →
    Goes old.client (Asks (scene_at old) old.held old.client.calls label call P) tone before after new → AnswersBy old label first P tone before after new
begun old new label first P call before after is goes =
    let begins = subst (λ (c : Result Call Own). Begins (scene_at old) old.held old.client.calls label P c goes.calls goes.answer new.held) (sym is) goes.rest in
    record {
      answer = goes.answer;
      answers = (goes.calls, (begins, goes.made.legal, goes.made.left, goes.made.counted));
      given = goes.given;
      game = goes.made.game;
      diagram = goes.made.diagram;
    }

-- ---- no call

pub unasked_by : {tone : Tone} (old : EngineState) (label : ℕ) (first : Result Call Own) (P : Reply → Rest) (own : Own) (before after : List ℕ) → first ≡ Err own → IsGiven (refusal_of (own_text own)) tone before after →
    AnswersBy old label first P tone before after old
unasked_by old label first P own before after is appended =
    let begins = subst (λ (c : Result Call Own). Begins (scene_at old) old.held old.client.calls label P c [] (refusal_of (own_text own)) old.held) (sym is) (refl, refl, refl) in
    let made = none old.client old.client refl in
    record { answer = refusal_of (own_text own); answers = ([], (begins, made.legal, made.left, made.counted)); given = appended; game = refl; diagram = refl }

pub unasked : {tone : Tone} (old : EngineState) (label : ℕ) (command : script.Command) (own : Own) (before after : List ℕ) → first_call (scene_at old) old.held command ≡ Err own →
    IsGiven (refusal_of (own_text own)) tone before after → AnswersTo old (record { label = label; command = command }) tone before after old
unasked old label command own before after is appended =
    record { by = unasked_by old label (first_call (scene_at old) old.held command) (Continues (scene_at old) old.held (old.client.calls + 1) label command) own before after is appended }

-- where the log has room, or has none
module _ (limit : ℕ) (limit_is : limit ≡ room) (label : ℕ) where
  pub had_room : (made old : ℕ) → made ≡ old → old < limit → made < room
  had_room made old same less = omega (arith, same, less, limit_is)

  pub has_no_room : (made old : ℕ) → made ≡ old → old ≡ limit → room ≤ made
  has_no_room made old same is = omega (arith, same, is, limit_is)

  -- ---- one call more

  module _ {tone : Tone} (scene : Scene) (held : Held) (made : ℕ) (client : ClientState) (new : EngineState) (P : Reply → Rest) (call : Call) (before after : List ℕ) (same : made ≡ client.calls) where
    -- it is made
    abbrev pub makes : (mid : ClientState) (reply : Reply) → IsLogged limit client label call reply mid → Goes mid (Follows scene held P reply) tone before after new → Goes client (Asks scene held made label call P) tone before after new
    makes mid reply logged goes = record {
      calls = event label call reply ∷ goes.calls;
      answer = goes.answer;
      rest = inl (had_room made client.calls same logged.had_room, (refl, refl, goes.rest));
      made = then limit client mid new.client label call reply goes.calls logged goes.made;
      given = goes.given;
    }

    -- a full log leaves the client as it was
    abbrev pub full : client.calls ≡ limit → new.client ≡ client → new.held ≡ held → IsGiven full_log tone before after → Goes client (Asks scene held made label call P) tone before after new
    full is stays same_held told = record { calls = []; answer = full_log; rest = inr (has_no_room made client.calls same is, (refl, refl, same_held)); made = none client new.client stays; given = told }

    -- what the client tells of a call that it doesn't make, or that the desk refuses
    pub unmade : {F : Type 0} (refusal : F → Option Refusal) (fault : ClientFault F) (names : List (List ℕ)) → scene.names ≡ client.desk.diagram.names → Tells limit refusal client label call new.client fault → UnlessStray fault (new.held ≡ held) →
        names ≡ new.client.desk.diagram.names → TellsFault names refusal fault tone before after → Goes client (Asks scene held made label call P) tone before after new
    unmade refusal faults.LogFull names scene_is tells same_held names_are told = full tells.0 tells.1 same_held told
    unmade refusal (faults.Refused fault) names scene_is tells same_held names_are told =
        let given : IsGiven (refusal_of (refusal_text scene.names tells.0)) tone before after =
        subst (λ (ns : List (List ℕ)). IsGiven (refusal_of (refusal_text ns tells.0)) tone before after) (names_are ∙ ap (λ (d : NamedDiagram). d.names) tells.1.1.step.diagram ∙ sym scene_is)
        (subst (λ (x : Option Refusal). TellsRefusal names x tone before after) tells.1.0 told) in
        makes new.client (Refused tells.0) tells.1.1 (ends new.client new (refusal_of (refusal_text scene.names tells.0)) held before after refl same_held given)
    unmade refusal faults.Stray names scene_is tells same_held names_are told = absurd told
    unmade refusal faults.Memory names scene_is tells same_held names_are told = absurd told

  -- the one call of a line
  pub asked_by : {tone : Tone} (old new : EngineState) (first : Result Call Own) (P : Reply → Rest) (call : Call) (reply : Reply) (answer : Answer) (before after : List ℕ) → first ≡ Ok call →
      IsLogged limit old.client label call reply new.client → Follows (scene_at old) old.held P reply [] answer new.held → IsGiven answer tone before after → AnswersBy old label first P tone before after new
  asked_by old new first P call reply answer before after is logged follows appended =
      begun old new label first P call before after is
      (makes (scene_at old) old.held old.client.calls old.client new P call before after refl new.client reply logged (record { calls = []; answer = answer; rest = follows; made = none new.client new.client refl; given = appended }))

  pub asked : {tone : Tone} (old new : EngineState) (command : script.Command) (call : Call) (reply : Reply) (answer : Answer) (before after : List ℕ) → first_call (scene_at old) old.held command ≡ Ok call →
      IsLogged limit old.client label call reply new.client → Follows (scene_at old) old.held (Continues (scene_at old) old.held (old.client.calls + 1) label command) reply [] answer new.held →
      IsGiven answer tone before after → AnswersTo old (record { label = label; command = command }) tone before after new
  asked old new command call reply answer before after first logged follows appended =
      record { by = asked_by old new (first_call (scene_at old) old.held command) (Continues (scene_at old) old.held (old.client.calls + 1) label command) call reply answer before after first logged follows appended }

  -- it is not made, or the desk refuses it
  pub unanswered_by : {F : Type 0} {tone : Tone} (refusal : F → Option Refusal) (old new : EngineState) (first : Result Call Own) (P : Reply → Rest) (call : Call) (fault : ClientFault F) (names : List (List ℕ)) (before after : List ℕ) →
      first ≡ Ok call → Tells limit refusal old.client label call new.client fault → UnlessStray fault (new.held ≡ old.held) →
      names ≡ new.client.desk.diagram.names → TellsFault names refusal fault tone before after → AnswersBy old label first P tone before after new
  unanswered_by refusal old new first P call fault names before after begins tells held names_are told =
      begun old new label first P call before after begins (unmade (scene_at old) old.held old.client.calls old.client new P call before after refl refusal fault names refl tells held names_are told)

  pub unanswered : {F : Type 0} {tone : Tone} (labels : List (List ℕ)) (refusal : F → Option Refusal) (old new : EngineState) (command : script.Command) (call : Call) (fault : ClientFault F) (names : List (List ℕ)) (before after : List ℕ) →
      first_call (scene_with labels old) old.held command ≡ Ok call → Tells limit refusal old.client label call new.client fault → UnlessStray fault (new.held ≡ old.held) →
      names ≡ new.client.desk.diagram.names → TellsFault names refusal fault tone before after → AnswersWith labels old (record { label = label; command = command }) tone before after new
  unanswered labels refusal old new command call fault names before after first tells held names_are told =
      record {
        by = unanswered_by refusal old new (first_call (scene_with labels old) old.held command) (Continues (scene_with labels old) old.held (old.client.calls + 1) label command) call fault names before after first tells held names_are told;
      }

  -- ---- an order, and what is made of it

  -- a sweep that isn't begun, since there is no order
  pub unswept : {F : Type 0} {tone : Tone} (old new : EngineState) (lifters : ℕ) (command : script.Command) (fault : ClientFault F) (names : List (List ℕ)) (before after : List ℕ) →
      first_call (scene_at old) old.held command ≡ Ok Order → ((setting : Setting) (held : Held) → AreMadeBy setting lifters command [] held) → Tells limit never_refused old.client label Order new.client fault → new.held ≡ old.held →
      TellsFault names never_refused fault tone before after → SweepsTo old lifters (record { label = label; command = command }) tone before after new
  unswept old new lifters command faults.LogFull names before after first none_made tells held told =
      let P : Reply → Rest = Continues (scene_at old) old.held (old.client.calls + 1) label command in
      record {
        answers = record { by = begun old new label (first_call (scene_at old) old.held command) P Order before after first (full (scene_at old) old.held old.client.calls old.client new P Order before after refl tells.0 tells.1 held told) };
        made = none_made (setting_of old.client.desk) new.held;
      }
  unswept old new lifters command (faults.Refused fault) names before after first none_made tells held told = absurd (cc tells.1.0)
  unswept old new lifters command faults.Stray names before after first none_made tells held told = absurd told
  unswept old new lifters command faults.Memory names before after first none_made tells held told = absurd told

  module _ (old new : EngineState) (first : ClientState) (decisions : List Decision) (hopeful dual : List ℕ) (made : Harvest) (before after : List ℕ)
      (order : IsLogged limit old.client label Order (Ordered decisions hopeful dual) first) where
    abbrev commits : (ℕ → Reply → Rest) → Rest
    commits P = Asks (scene_at old) old.held (old.client.calls + 1) label (Commit made) (P (old.client.calls + 1 + 1))

    abbrev ordered : {tone : Tone} (command : script.Command) → Goes first (Continues (scene_at old) old.held (old.client.calls + 1) label command (Ordered decisions hopeful dual)) tone before after new →
        first_call (scene_at old) old.held command ≡ Ok Order → AnswersTo old (record { label = label; command = command }) tone before after new
    ordered command goes begins = record {
      by = begun old new label (first_call (scene_at old) old.held command) (Continues (scene_at old) old.held (old.client.calls + 1) label command) Order before after begins
          (makes (scene_at old) old.held old.client.calls old.client new (Continues (scene_at old) old.held (old.client.calls + 1) label command) Order before after refl first (Ordered decisions hopeful dual) order goes);
    }

    -- what was committed was made so
    committed : (setting : Setting) (lifters : ℕ) (sweeps : Option ℕ) (P : ℕ → Reply → Rest) (calls : List Event) (answer : Answer) (held : Held) → IsMadeBy setting lifters (sweeps_of sweeps) decisions hopeful dual made → commits P calls answer held →
        AreMadeBy setting lifters (script.Settle sweeps) (event label Order (Ordered decisions hopeful dual) ∷ calls) held
    committed setting lifters sweeps P [] answer held by asks = tt
    committed setting lifters sweeps P (e ∷ calls) answer held by (inl asks) = subst (λ (c : Call). IsCommittedBy setting lifters (sweeps_of sweeps) (Ordered decisions hopeful dual) c) (sym asks.1.1) by
    committed setting lifters sweeps P (e ∷ calls) answer held by (inr asks) = absurd (cc asks.1.0)

    -- it is swept, and the harvest is committed
    pub settles : {tone : Tone} (lifters : ℕ) (sweeps : Option ℕ) → IsSwept (family_of (setting_of old.client.desk)) (sweeps_of sweeps) decisions hopeful dual made → IsMadeBy (setting_of old.client.desk) lifters (sweeps_of sweeps) decisions hopeful dual made →
        Goes first (commits (λ n. AsksSettled (scene_at old) old.held n label)) tone before after new → SweepsTo old lifters (record { label = label; command = script.Settle sweeps }) tone before after new
    settles lifters sweeps swept by goes = record {
      answers = ordered (script.Settle sweeps)
          (goes_so first (commits (λ n. AsksSettled (scene_at old) old.held n label)) (Continues (scene_at old) old.held (old.client.calls + 1) label (script.Settle sweeps) (Ordered decisions hopeful dual)) before after new goes (made, swept, goes.rest)) refl;
      made = committed (setting_of old.client.desk) lifters sweeps (λ n. AsksSettled (scene_at old) old.held n label) goes.calls goes.answer new.held by goes.rest;
    }

    -- it is lifted once, and the harvest is committed
    pub lifts : {tone : Tone} (table : Which) (named : script.Vertex) (v : ℕ) → vertex_of (scene_at old) named ≡ Some v → IsLifted (setting_of old.client.desk) table v decisions hopeful dual made →
        Goes first (commits (λ n. TellsAdded old.held)) tone before after new → AnswersTo old (record { label = label; command = script.Lift table named }) tone before after new
    lifts table named v vertex lifted goes =
        ordered (script.Lift table named)
        (goes_so first (commits (λ n. TellsAdded old.held)) (Continues (scene_at old) old.held (old.client.calls + 1) label (script.Lift table named) (Ordered decisions hopeful dual)) before after new goes (v, made, vertex, lifted, goes.rest))
        (ap (λ (x : Option ℕ). call_or NoVertex (λ v. Order) x) vertex)

    -- it is swept and kept
    pub keeps : {tone : Tone} (lifters n : ℕ) → IsSwept (family_of (setting_of old.client.desk)) most_sweeps decisions hopeful dual made → IsMadeBy (setting_of old.client.desk) lifters most_sweeps decisions hopeful dual made →
        new.client ≡ first → new.held ≡ with_harvest old.held made → n ≡ length old.held.harvests + 1 → IsGiven (done (numbered (codes "harvest") n)) tone before after →
        SweepsTo old lifters (record { label = label; command = script.Harvest }) tone before after new
    keeps lifters n swept by client held counted appended = record {
      answers = ordered script.Harvest
          (record { calls = []; answer = done (numbered (codes "harvest") n); rest = (made, swept, (refl, ap (λ (k : ℕ). done (numbered (codes "harvest") k)) counted, held)); made = none first new.client client; given = appended }) refl;
      made = (old.held.harvests, made, (ap (λ (h : Held). h.harvests) held, by));
    }

-- ---- a name

pub named_first : (scene : Scene) (held : Held) (value : Bool) (name : List ℕ) → first_call scene held (deciding value name) ≡ call_or NoFeature (λ f. Decide f value) (index_of scene.names name)
named_first scene held true name = refl
named_first scene held false name = refl

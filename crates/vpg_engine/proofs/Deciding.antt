-- The answers to decides and retractions.
use Rattle.std.proofs.Common.{◌≡◌, ℕ, ◌<◌, Bool, List, length, Option, Some, None, Result, Ok, Err, IfOk, refl, sym, ap, ◌∙◌, subst}
use Rattle.std.specs.Prelude.{codes, ◌+◌, IfSome, true, false}
use Rattle.vpg_desk.specs.Book.{Family, Book, Call, Reply, Decide, Retract, Reset, Changed, Refused, RefusesDecide, IsReply}
use Rattle.vpg_faults.specs.declared.refusal.Refusal.{Refusal}
use Rattle.vpg_faults.specs.declared.refusal.Refusal.TheVariants.{Conflict}
use Rattle.vpg_faults.specs.Refusals.{decide_refusal, reset_refusal, retract_refusal}
use Rattle.vpg_faults.specs.declared.fault.DecideFault.{DecideFault}
use Rattle.vpg_faults.specs.declared.fault.ResetFault.{ResetFault}
use Rattle.vpg_faults.specs.declared.fault.ResetFault.TheVariants as resets
use Rattle.vpg_faults.specs.declared.fault.RetractFault.{RetractFault}
use Rattle.vpg_faults.specs.declared.fault.RetractFault.TheVariants as retracts
use Rattle.vpg_desk.specs.Desk.{family_of}
use Rattle.vpg_desk.specs.State.{DeskState, Replies, setting_of}
use Rattle.vpg_script.specs.Answer.{IsGiven, done}
use Rattle.vpg_script.specs.declared.tone.Tone.{Tone}
use Rattle.vpg_engine.specs.Client.{ClientState, IsLogged}
use Rattle.vpg_engine.specs.Faults.{Tells, TellsOf, UnlessStray}
use Rattle.vpg_engine.specs.declared.fault.ClientFault.{ClientFault}
use Rattle.vpg_engine.specs.declared.fault.ClientFault.TheVariants.{LogFull, Refused as Refuses, Stray, Memory}
use Rattle.vpg_faults.specs.declared.fault.DecideFault.TheVariants.{UnknownFeature as Unknown, AlreadyDecided as Decided, Conflict as Conflicts, TooManyChanges as TooMany, Memory as NoRoom}
use Rattle.vpg_script.specs.Script as script
use Rattle.vpg_texts.specs.Scene.{Scene}
use Rattle.vpg_engine.specs.Held.{Held, after_change}
use Rattle.vpg_engine.specs.Answers.{Own, NoFeature, Rest, TellsChanged, Continues, numbered, room, call_or, first_call}
use Rattle.vpg_engine.specs.Engine.{EngineState, deciding, scene_at, IsFaultWithin, IsNamedWithin, TellsFault, AnswersBy, AnswersTo}
use Rattle.vpg_engine.proofs.Asked.{asked_by, unanswered_by}

-- a command that changes the page, by the call that it makes, if it makes one
pub as_asked : {E : Type 0} (r : Result Tone E) (old new : EngineState) (label : ℕ) (command : script.Command) (first : Result Call Own) (before after : List ℕ) → first ≡ first_call (scene_at old) old.held command →
    Continues (scene_at old) old.held (old.client.calls + 1) label command ≡ TellsChanged old.held → IfOk r (λ tone. AnswersBy old label first (TellsChanged old.held) tone before after new) →
    IfOk r (λ tone. AnswersTo old (record { label = label; command = command }) tone before after new)
as_asked (Ok tone) old new label command first before after begins goes so = record {
  by = subst (λ (P : Reply → Rest). AnswersBy old label (first_call (scene_at old) old.held command) P tone before after new) (sym goes)
      (subst (λ (f : Result Call Own). AnswersBy old label f (TellsChanged old.held) tone before after new) begins so);
}
as_asked (Err e) old new label command first before after begins goes so = tt

-- after its reply a decide goes on as each change does
pub decided_goes : (scene : Scene) (held : Held) (made label : ℕ) (value : Bool) (name : List ℕ) → Continues scene held made label (deciding value name) ≡ TellsChanged held
decided_goes scene held made label true name = refl
decided_goes scene held made label false name = refl

-- ---- a call that changes the page

-- what an engine by its fields does is done by what contracts see of it
pub on_changed_view : {E : Type 0} (r : Result Tone E) (P : Tone → Type 0) (seen old new : EngineState) (label : ℕ) (first shown : Result Call Own) (before after : List ℕ) → seen ≡ old → first ≡ shown →
    ((tone : Tone) → P tone → AnswersBy seen label first (TellsChanged seen.held) tone before after new) → IfOk r P → IfOk r (λ tone. AnswersBy old label shown (TellsChanged old.held) tone before after new)
on_changed_view (Ok tone) P seen old new label first shown before after same is f p =
    subst (λ (e : EngineState). AnswersBy e label shown (TellsChanged e.held) tone before after new) same
    (subst (λ (x : Result Call Own). AnswersBy seen label x (TellsChanged seen.held) tone before after new) is (f tone p))
on_changed_view (Err e) P seen old new label first shown before after same is f p = tt

-- the call is this one, or there is none
pub called_some : {X : Type 0} (means : X → Call) (call : Option X) (x : X) → call ≡ Some x → Ok (means x) ≡ call_or NoFeature means call
called_some {X} means call x is = sym (ap (λ (o : Option X). call_or NoFeature means o) is)

pub called_none : {X : Type 0} (means : X → Call) (call : Option X) → ((x : X) → call ≡ Some x → ⊥) → call_or NoFeature means call ≡ Err NoFeature
called_none means None none = refl
called_none means (Some x) none = absurd (none x refl)

pub some_of : {X : Type 0} (call : Option X) (x : X) (P : X → Type 0) → call ≡ Some x → IfSome call P → P x
some_of {X} call x P is so = subst (λ (o : Option X). IfSome o P) is so

module _ {F : Type 0} (limit : ℕ) (refusal : F → Option Refusal) (means : Call) (label : ℕ) where
  -- its refusals are those of one call
  pub tells_means : (call : Refusal → Call) → ((r : Refusal) → call r ≡ means) → (old new : ClientState) (fault : ClientFault F) → TellsOf limit refusal (λ r. IsLogged limit old label (call r) (Refused r) new) old label new fault →
      Tells limit refusal old label means new fault
  tells_means call same old new LogFull told = told
  tells_means call same old new (Refuses fault) told = (told.0, (told.1.0, subst (λ (c : Call). IsLogged limit old label c (Refused told.0) new) (same told.0) told.1.1))
  tells_means call same old new Stray told = told
  tells_means call same old new Memory told = told

  -- they name features that have names
  pub named_within : (seen old : EngineState) (new : ClientState) (fault : ClientFault F) (names : List (List ℕ)) → seen ≡ old → names ≡ seen.client.desk.diagram.names →
      ((f : F) → IfSome (refusal f) (λ r. Replies old.client.desk means (Refused r) → IsNamedWithin (length old.client.desk.diagram.names) r)) → Tells limit refusal seen.client label means new fault →
      IsFaultWithin (length names) refusal fault
  named_within seen old new LogFull names same names_are named told = tt
  named_within seen old new (Refuses fault) names same names_are named told =
      let count = ap (λ (ns : List (List ℕ)). length ns) (ap (λ (e : EngineState). e.client.desk.diagram.names) (sym same) ∙ sym names_are) in
      let within = subst (λ (x : Option Refusal). IfSome x (λ r. Replies old.client.desk means (Refused r) → IsNamedWithin (length old.client.desk.diagram.names) r)) told.1.0 (named fault) in
      let replies = subst (λ (e : EngineState). Replies e.client.desk means (Refused told.0)) same told.1.1.step.step.0 in
      subst (λ (x : Option Refusal). IfSome x (IsNamedWithin (length names))) (sym told.1.0) (subst (λ (n : ℕ). IsNamedWithin n told.0) count (within replies))
  named_within seen old new Stray names same names_are named told = tt
  named_within seen old new Memory names same names_are named told = tt

  module _ (limit_is : limit ≡ room) (old new : EngineState) (before after : List ℕ) where
    pub changes : {tone : Tone} (reply : Reply) (s : ℕ) → reply ≡ Changed s → IsLogged limit old.client label means reply new.client → new.held ≡ after_change old.held s → IsGiven (done (numbered (codes "done") s)) tone before after →
        AnswersBy old label (Ok means) (TellsChanged old.held) tone before after new
    changes reply s is logged held appended =
        asked_by limit limit_is label old new (Ok means) (TellsChanged old.held) means (Changed s) (done (numbered (codes "done") s)) before after refl
        (subst (λ (x : Reply). IsLogged limit old.client label means x new.client) is logged) (refl, refl, held) appended

    pub change_refused : {tone : Tone} (fault : ClientFault F) (names : List (List ℕ)) → Tells limit refusal old.client label means new.client fault → UnlessStray fault (new.held ≡ old.held) →
        names ≡ new.client.desk.diagram.names → TellsFault names refusal fault tone before after → AnswersBy old label (Ok means) (TellsChanged old.held) tone before after new
    change_refused fault names tells held names_are told = unanswered_by limit limit_is label refusal old new (Ok means) (TellsChanged old.held) means fault names before after refl tells held names_are told

-- a conflict names the feature itself
pub conflict_is_own : (family : Family) (book : Book) (f g : ℕ) (value : Bool) → IsReply family book (Decide f value) (Refused (Conflict g)) → g ≡ f
conflict_is_own family book f g value (None, (refuses, told)) = absurd (cc told)
conflict_is_own family book f g value (Some r, (refuses, told)) = go r refuses (cc told)
  where
    go : (r : Refusal) → RefusesDecide family book f value (Some r) → Conflict g ≡ r → g ≡ f
    go r refuses is = (subst (λ (x : Refusal). RefusesDecide family book f value (Some x)) (sym is) refuses).3

-- what refusals name has a name
pub decided_named : (desk : DeskState) (f : ℕ) (value : Bool) → f < length desk.diagram.names → (fault : DecideFault) →
    IfSome (decide_refusal fault) (λ r. Replies desk (Decide f value) (Refused r) → IsNamedWithin (length desk.diagram.names) r)
decided_named desk f value within Unknown = λ reply. tt
decided_named desk f value within (Decided s) = λ reply. tt
decided_named desk f value within (Conflicts g) = λ reply.
    subst (λ (n : ℕ). n < length desk.diagram.names) (sym (conflict_is_own (family_of (setting_of desk)) desk.book f g value reply)) within
decided_named desk f value within TooMany = λ reply. tt
decided_named desk f value within NoRoom = tt

pub retracted_named : (desk : DeskState) (f : ℕ) (fault : RetractFault) → IfSome (retract_refusal fault) (λ r. Replies desk (Retract f) (Refused r) → IsNamedWithin (length desk.diagram.names) r)
retracted_named desk f retracts.UnknownFeature = λ reply. tt
retracted_named desk f retracts.NotDecided = λ reply. tt
retracted_named desk f retracts.TooManyChanges = λ reply. tt
retracted_named desk f retracts.Memory = tt

pub reset_named : (desk : DeskState) (fault : ResetFault) → IfSome (reset_refusal fault) (λ r. Replies desk Reset (Refused r) → IsNamedWithin (length desk.diagram.names) r)
reset_named desk resets.NotDecided = λ reply. tt
reset_named desk resets.TooManyChanges = λ reply. tt
reset_named desk resets.Memory = tt

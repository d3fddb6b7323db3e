-- Tokens that are exchanged or spent.
use Rattle.std.proofs.Common.{◌≡◌, ℕ, Bool, true, false, List, [], ◌∷◌, ◌++◌, Option, Some, None, refl, sym, ap, ◌∙◌}
use Rattle.std.specs.Prelude.{codes, if◌then◌else◌}
use Rattle.vpg_desk.specs.Book.{Family, Book, Undo, Redo, Keep, Forget, Undone, Redone, Spent, IsReply, has_serial}
use Rattle.vpg_desk.specs.Desk.{family_of}
use Rattle.vpg_desk.specs.State.{setting_of}
use Rattle.vpg_script.specs.Answer.{IsGiven, done}
use Rattle.vpg_script.specs.declared.tone.Tone.{Tone}
use Rattle.vpg_engine.specs.Client.{IsLogged}
use Rattle.vpg_script.specs.Script as script
use Rattle.vpg_engine.specs.Held.{if_among, undo_meant, redo_meant, without}
use Rattle.vpg_engine.specs.Answers.{NoToken, call_or, numbered, room}
use Rattle.vpg_engine.specs.Engine.{EngineState, AnswersTo}
use Rattle.vpg_engine.proofs.Asked.{asked}

-- the other token is of the same serial
undone_same : (family : Family) (book : Book) (token redo : ℕ) → IsReply family book (Undo token) (Undone redo) → redo ≡ token
undone_same family book token redo (None, (refuses, told)) = cc told
undone_same family book token redo (Some r, (refuses, told)) = absurd (cc told)

redone_same : (family : Family) (book : Book) (token undo : ℕ) → IsReply family book (Redo token) (Redone undo) → undo ≡ token
redone_same family book token undo (None, (refuses, told)) = cc told
redone_same family book token undo (Some r, (refuses, told)) = absurd (cc told)

module _ (limit : ℕ) (limit_is : limit ≡ room) (old new : EngineState) (session s : ℕ) (before after : List ℕ) where
  module _ (serial : Option ℕ) where
    pub undone : {tone : Tone} (redo : ℕ) → undo_meant old.held.undos serial ≡ Some s → IsLogged limit old.client session (Undo s) (Undone redo) new.client →
        new.held ≡ record { undos = without s old.held.undos; redos = old.held.redos ++ redo ∷ []; harvests = old.held.harvests; seen = old.held.seen } →
        IsGiven (done (numbered (codes "undone") redo)) tone before after → AnswersTo old (record { label = session; command = script.Undo serial }) tone before after new
    undone redo meant logged held appended =
        let same : redo ≡ s = undone_same (family_of (setting_of old.client.desk)) old.client.desk.book s redo logged.step.step.0 in
        asked limit limit_is session old new (script.Undo serial) (Undo s) (Undone redo) (done (numbered (codes "undone") redo)) before after (ap (λ (x : Option ℕ). call_or NoToken Undo x) meant) logged
        (refl, refl, held ∙ ap (λ (r : ℕ). record { undos = without r old.held.undos; redos = old.held.redos ++ redo ∷ []; harvests = old.held.harvests; seen = old.held.seen }) (sym same)) appended

    pub redone : {tone : Tone} (undo : ℕ) → redo_meant old.held.redos serial ≡ Some s → IsLogged limit old.client session (Redo s) (Redone undo) new.client →
        new.held ≡ record { undos = old.held.undos ++ undo ∷ []; redos = without s old.held.redos; harvests = old.held.harvests; seen = old.held.seen } →
        IsGiven (done (numbered (codes "redone") undo)) tone before after → AnswersTo old (record { label = session; command = script.Redo serial }) tone before after new
    redone undo meant logged held appended =
        let same : undo ≡ s = redone_same (family_of (setting_of old.client.desk)) old.client.desk.book s undo logged.step.step.0 in
        asked limit limit_is session old new (script.Redo serial) (Redo s) (Redone undo) (done (numbered (codes "redone") undo)) before after (ap (λ (x : Option ℕ). call_or NoToken Redo x) meant) logged
        (refl, refl, held ∙ ap (λ (r : ℕ). record { undos = old.held.undos ++ undo ∷ []; redos = without r old.held.redos; harvests = old.held.harvests; seen = old.held.seen }) (sym same)) appended

  -- the one that is named is the one that is meant
  same_named : (serial : ℕ) (serials : List ℕ) → if_among serials serial ≡ Some s → s ≡ serial
  same_named serial serials is = go (has_serial serial serials) is
    where
      go : (t : Bool) → (if t then Some serial else None) ≡ Some s → s ≡ serial
      go true is = sym (cc is)
      go false is = absurd (cc is)

  module _ (serial : ℕ) where
    pub kept : {tone : Tone} → undo_meant old.held.undos (Some serial) ≡ Some s → IsLogged limit old.client session (Keep s) Spent new.client →
        new.held ≡ record { undos = without s old.held.undos; redos = old.held.redos; harvests = old.held.harvests; seen = old.held.seen } →
        IsGiven (done (numbered (codes "kept") serial)) tone before after → AnswersTo old (record { label = session; command = script.Keep serial }) tone before after new
    kept meant logged held appended =
        asked limit limit_is session old new (script.Keep serial) (Keep s) Spent (done (numbered (codes "kept") serial)) before after (ap (λ (x : Option ℕ). call_or NoToken Keep x) meant) logged
        (refl, refl, held ∙ ap (λ (t : ℕ). record { undos = without t old.held.undos; redos = old.held.redos; harvests = old.held.harvests; seen = old.held.seen }) (same_named serial old.held.undos meant)) appended

    pub forgotten : {tone : Tone} → redo_meant old.held.redos (Some serial) ≡ Some s → IsLogged limit old.client session (Forget s) Spent new.client →
        new.held ≡ record { undos = old.held.undos; redos = without s old.held.redos; harvests = old.held.harvests; seen = old.held.seen } →
        IsGiven (done (numbered (codes "forgotten") serial)) tone before after → AnswersTo old (record { label = session; command = script.Forget serial }) tone before after new
    forgotten meant logged held appended =
        asked limit limit_is session old new (script.Forget serial) (Forget s) Spent (done (numbered (codes "forgotten") serial)) before after (ap (λ (x : Option ℕ). call_or NoToken Forget x) meant) logged
        (refl, refl, held ∙ ap (λ (t : ℕ). record { undos = old.held.undos; redos = without t old.held.redos; harvests = old.held.harvests; seen = old.held.seen }) (same_named serial old.held.redos meant)) appended

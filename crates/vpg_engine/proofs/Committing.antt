-- The answer to the commit of a kept harvest.
use Rattle.std.proofs.Common.{◌≡◌, ℕ, zero, suc, ◌-◌, ◌<◌, Bool, true, false, List, [], ◌∷◌, ◌++◌, length, Option, Some, None, Ok, refl, sym, ap, ap₂, ◌∙◌, subst}
use Rattle.std.specs.Prelude.{codes, map, option_map, slice_set, IfSome, if◌then◌else◌}
use Rattle.vpg_diagram.specs.DiagramText.{NamedDiagram}
use Rattle.vpg_diagram.specs.FeatureDiagram.{Line, feature_count}
use Rattle.vpg_game.specs.Game.{NamedGame}
use Rattle.vpg_partial.specs.Known.{literal_of}
use Rattle.vpg_partial.specs.TableLaws.{AreChoicesOf}
use Rattle.vpg_measure.specs.Orders.{OrderView, HarvestView, IsOrder}
use Rattle.vpg_trail.specs.Page.{Literal, stands, choices_of}
use Rattle.vpg_desk.specs.Book.{Harvest, Commit, Added, Refused, first_missing, outdated_at}
use Rattle.vpg_faults.specs.declared.refusal.Refusal.{Refusal}
use Rattle.vpg_faults.specs.declared.refusal.Refusal.TheVariants.{Outdated}
use Rattle.vpg_desk.specs.Commit.{handed_in}
use Rattle.vpg_faults.specs.Refusals.{commit_refusal}
use Rattle.vpg_faults.specs.declared.fault.CommitFault.{CommitFault}
use Rattle.vpg_desk.specs.State.{DeskState, Replies}
use Rattle.vpg_script.specs.Answer.{IsGiven, done, refused}
use Rattle.vpg_script.specs.declared.tone.Tone.{Tone}
use Rattle.vpg_engine.specs.Client.{ClientState, IsLogged}
use Rattle.vpg_engine.specs.Faults.{Tells, UnlessStray}
use Rattle.vpg_engine.specs.declared.fault.ClientFault.{ClientFault}
use Rattle.vpg_engine.specs.declared.fault.ClientFault.TheVariants as faults
use Rattle.vpg_engine.specs.declared.fault.ClientFault.TheVariants.{LogFull, Refused as Refuses, Stray, Memory}
use Rattle.vpg_faults.specs.declared.fault.CommitFault.TheVariants.{OtherGame as IsOther, Outdated as IsOutdated, Memory as NoRoom}
use Rattle.vpg_script.specs.Script as script
use Rattle.vpg_engine.specs.Held.{harvest_kept, without_harvest}
use Rattle.vpg_engine.specs.Answers.{NoHarvest, own_text, first_call, room, call_or, numbered}
use Rattle.vpg_engine.specs.Engine.{EngineState, scene_at, IsFaultWithin, TellsFault, AnswersTo}
use Rattle.vpg_engine.specs.EngineFields.{IsOwnHarvest, AreOwnHarvests, harvests_of}
use Rattle.vpg_engine.proofs.Asked.{unasked, asked, unanswered}
use Rattle.vpg_engine.proofs.KeptHarvests.{kept_seen, put_back}

seen_at : (harvests : List (Option HarvestView)) (number : ℕ) (h : Option HarvestView) → h ≡ harvest_kept harvests number → harvest_kept (harvests_of harvests) number ≡ option_map (handed_in true) h
seen_at harvests number h is = kept_seen (handed_in true) harvests number ∙ ap (λ (x : Option HarvestView). option_map (handed_in true) x) (sym is)

module _ (old : EngineState) (session number : ℕ) (harvests : List (Option HarvestView)) (same : old.held.harvests ≡ harvests_of harvests) (before after : List ℕ) where
  held_at : (h : Option HarvestView) → h ≡ harvest_kept harvests number → harvest_kept old.held.harvests number ≡ option_map (handed_in true) h
  held_at h is = ap (λ (hs : List (Option Harvest)). harvest_kept hs number) same ∙ seen_at harvests number h is

  pub commit_unknown : {tone : Tone} → None ≡ harvest_kept harvests number → IsGiven (refused (own_text NoHarvest)) tone before after →
      AnswersTo old (record { label = session; command = script.Commit number }) tone before after old
  commit_unknown is appended = unasked old session (script.Commit number) NoHarvest before after (ap (λ (x : Option Harvest). call_or NoHarvest Commit x) (held_at None is)) appended

  module _ (limit : ℕ) (limit_is : limit ≡ room) (new : EngineState) (harvest : HarvestView) (is : Some harvest ≡ harvest_kept harvests number) where
    commit_first : first_call (scene_at old) old.held (script.Commit number) ≡ Ok (Commit (handed_in true harvest))
    commit_first = ap (λ (x : Option Harvest). call_or NoHarvest Commit x) (held_at (Some harvest) is)

    pub committed : {tone : Tone} (added : ℕ) → IsLogged limit old.client session (Commit (handed_in true harvest)) (Added added) new.client → new.held ≡ without_harvest old.held number →
        IsGiven (done (numbered (codes "added") added)) tone before after → AnswersTo old (record { label = session; command = script.Commit number }) tone before after new
    committed added logged held appended =
        asked limit limit_is session old new (script.Commit number) (Commit (handed_in true harvest)) (Added added) (done (numbered (codes "added") added)) before after commit_first logged (refl, refl, held) appended

    pub commit_refused : {tone : Tone} (fault : ClientFault CommitFault) (names : List (List ℕ)) → Tells limit commit_refusal old.client session (Commit (handed_in true harvest)) new.client fault →
        UnlessStray fault (new.held ≡ old.held) → names ≡ new.client.desk.diagram.names → TellsFault names commit_refusal fault tone before after →
        AnswersTo old (record { label = session; command = script.Commit number }) tone before after new
    commit_refused fault names tells held names_are told =
        unanswered limit limit_is session [] commit_refusal old new (script.Commit number) (Commit (handed_in true harvest)) fault names before after commit_first tells held names_are told

-- ---- the feature that an outdated harvest names

missing_named : (lines : List Line) (present choices : List Literal) (f : ℕ) → AreChoicesOf lines choices → first_missing present choices ≡ Some f → f < feature_count lines
missing_named lines present [] f named is = absurd (cc is)
missing_named lines present (c ∷ choices) f named is = go (stands present c) (λ e. missing_named lines present choices f named.1 e) is
  where
    go : (t : Bool) → (first_missing present choices ≡ Some f → f < feature_count lines) → (if t then first_missing present choices else Some c.feature) ≡ Some f → f < feature_count lines
    go true rest is = rest is
    go false rest is = subst (λ (n : ℕ). n < feature_count lines) (cc is) named.0

named_outdated : (found : Option ℕ) (f : ℕ) → outdated_at found ≡ Some (Outdated f) → found ≡ Some f
named_outdated None f is = absurd (cc is)
named_outdated (Some g) f is = cc is

outdated_named : (desk : DeskState) (harvest : HarvestView) (f : ℕ) → AreChoicesOf desk.diagram.lines (map literal_of harvest.order.decisions) → Replies desk (Commit (handed_in true harvest)) (Refused (Outdated f)) → f < feature_count desk.diagram.lines
outdated_named desk harvest f named (None, (refuses, told)) = absurd (cc told)
outdated_named desk harvest f named (Some r, (refuses, told)) =
    let missing = first_missing (choices_of desk.book.present) (map literal_of harvest.order.decisions) in
    let is : outdated_at missing ≡ Some (Outdated f) = sym refuses ∙ sym (cc told) in
    missing_named desk.diagram.lines (choices_of desk.book.present) (map literal_of harvest.order.decisions) f named (named_outdated missing f is)

-- the features that the client's faults name
pub committed_within : (limit : ℕ) (old new : ClientState) (session : ℕ) (harvest : HarvestView) (fault : ClientFault CommitFault) → IsOwnHarvest old.desk.game old.desk.diagram harvest →
    Tells limit commit_refusal old session (Commit (handed_in true harvest)) new fault → IsFaultWithin (length old.desk.diagram.names) commit_refusal fault
committed_within limit old new session harvest LogFull own tells = tt
committed_within limit old new session harvest (Refuses IsOther) own tells = tt
committed_within limit old new session harvest (Refuses (IsOutdated f)) own tells =
    let is : tells.0 ≡ Outdated f = cc tells.1.0 in
    subst (λ (n : ℕ). f < n) (sym own.each_named)
    (outdated_named old.desk harvest f own.named (subst (λ (r : Refusal). Replies old.desk (Commit (handed_in true harvest)) (Refused r)) is tells.1.1.step.step.0))
committed_within limit old new session harvest (Refuses NoRoom) own tells = tt
committed_within limit old new session harvest Stray own tells = tt
committed_within limit old new session harvest Memory own tells = tt

-- ---- the kept harvests are the engine's own

module _ (game : NamedGame) (diagram : NamedDiagram) where
  pub own_kept : (harvests : List (Option HarvestView)) (number : ℕ) (h : HarvestView) → AreOwnHarvests game diagram harvests → Some h ≡ harvest_kept harvests number → IsOwnHarvest game diagram h
  own_kept harvests zero h own is = absurd (cc is)
  own_kept [] (suc k) h own is = absurd (cc is)
  own_kept (x ∷ harvests) (suc zero) h own is = subst (λ (y : Option HarvestView). IfSome y (IsOwnHarvest game diagram)) (sym is) own.0
  own_kept (x ∷ harvests) (suc (suc k)) h own is = own_kept harvests (suc k) h own.1 is

  pub own_gone : (harvests : List (Option HarvestView)) (k : ℕ) → AreOwnHarvests game diagram harvests → AreOwnHarvests game diagram (slice_set harvests k None)
  own_gone [] k own = tt
  own_gone (h ∷ harvests) zero own = (tt, own.1)
  own_gone (h ∷ harvests) (suc k) own = (own.0, own_gone harvests k own.1)

  pub own_more : (harvests : List (Option HarvestView)) (h : HarvestView) → AreOwnHarvests game diagram harvests → IsOwnHarvest game diagram h → AreOwnHarvests game diagram (harvests ++ Some h ∷ [])
  own_more [] h own is = (is, tt)
  own_more (x ∷ harvests) h own is = (own.0, own_more harvests h own.1 is)

-- a harvest that is put back stands where it was
pub returned_again : (harvests : List (Option HarvestView)) (number : ℕ) (harvest : HarvestView) (fault : ClientFault CommitFault) (value : Option HarvestView) (taken new : List (Option HarvestView)) →
    Some harvest ≡ harvest_kept harvests number → taken ≡ slice_set harvests (number - 1) None → UnlessStray fault (value ≡ Some harvest) → UnlessStray fault (new ≡ slice_set taken (number - 1) value) →
    UnlessStray fault (new ≡ harvests)
returned_again harvests number harvest fault value taken new kept gone back returned = go fault back returned
  where
    again : value ≡ Some harvest → new ≡ slice_set taken (number - 1) value → new ≡ harvests
    again is at = at ∙ ap₂ (λ (xs : List (Option HarvestView)) (h : Option HarvestView). slice_set xs (number - 1) h) gone is ∙ put_back harvests number harvest (sym kept)

    go : (fault : ClientFault CommitFault) → UnlessStray fault (value ≡ Some harvest) → UnlessStray fault (new ≡ slice_set taken (number - 1) value) → UnlessStray fault (new ≡ harvests)
    go faults.LogFull is at = again is at
    go (faults.Refused f) is at = again is at
    go faults.Stray is at = tt
    go faults.Memory is at = again is at

-- put back or not, the kept harvests are the engine's own
pub own_returned : (game : NamedGame) (diagram : NamedDiagram) (harvests : List (Option HarvestView)) (number : ℕ) (harvest : HarvestView) (fault : ClientFault CommitFault) (value : Option HarvestView) (taken new : List (Option HarvestView)) →
    AreOwnHarvests game diagram harvests → Some harvest ≡ harvest_kept harvests number → taken ≡ slice_set harvests (number - 1) None → UnlessStray fault (value ≡ Some harvest) →
    (fault ≡ faults.Stray → new ≡ taken) → UnlessStray fault (new ≡ slice_set taken (number - 1) value) → AreOwnHarvests game diagram new
own_returned game diagram harvests number harvest fault value taken new own kept gone back strayed returned =
    go fault strayed (returned_again harvests number harvest fault value taken new kept gone back returned)
  where
    go : (fault : ClientFault CommitFault) → (fault ≡ faults.Stray → new ≡ taken) → UnlessStray fault (new ≡ harvests) → AreOwnHarvests game diagram new
    go faults.LogFull strayed same = subst (λ (hs : List (Option HarvestView)). AreOwnHarvests game diagram hs) (sym same) own
    go (faults.Refused f) strayed same = subst (λ (hs : List (Option HarvestView)). AreOwnHarvests game diagram hs) (sym same) own
    go faults.Stray strayed same = subst (λ (hs : List (Option HarvestView)). AreOwnHarvests game diagram hs) (sym (strayed refl ∙ gone)) (own_gone game diagram harvests (number - 1) own)
    go faults.Memory strayed same = subst (λ (hs : List (Option HarvestView)). AreOwnHarvests game diagram hs) (sym same) own

pub own_of_order : (game : NamedGame) (diagram : NamedDiagram) (order : OrderView) (harvest : HarvestView) → order.game ≡ game → order.diagram ≡ diagram → IsOrder order → harvest.order.game ≡ order.game → harvest.order.diagram ≡ order.diagram →
    harvest.order.decisions ≡ order.decisions → IsOwnHarvest game diagram harvest
own_of_order game diagram order harvest game_is diagram_is is_order same_game same_diagram same_decisions = record {
  game = same_game ∙ game_is;
  diagram = same_diagram ∙ diagram_is;
  named = coe 0 1 (i. AreChoicesOf (diagram_is i).lines (map literal_of (sym same_decisions i))) is_order.named;
  each_named = subst (λ (d : NamedDiagram). length d.names ≡ feature_count d.lines) diagram_is is_order.diagram.each_named;
}

-- ---- as they are seen

pub seen_more : (harvests : List (Option HarvestView)) (h : HarvestView) → harvests_of (harvests ++ Some h ∷ []) ≡ harvests_of harvests ++ Some (handed_in true h) ∷ []
seen_more [] h = refl
seen_more (x ∷ harvests) h = ap (λ (xs : List (Option Harvest)). option_map (handed_in true) x ∷ xs) (seen_more harvests h)

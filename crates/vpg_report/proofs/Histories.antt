-- The calls of answered lines make a history.
use Rattle.std.proofs.Common.{◌≡◌, ℕ, zero, suc, ◌+◌, ◌-◌, Bool, true, false, List, [], ◌∷◌, ◌++◌, length, Option, Some, None, Result, Ok, Err, refl, sym, ap, ◌∙◌, inl, inr, arith, length-append, subst}
use Rattle.std.specs.Prelude.{IfOk, IfSome, ◌⊎◌, if◌then◌else◌, codes, slice_set, ⊤}
use Rattle.std.specs.List.{AllByRecursion}
use Rattle.vpg_diagram.proofs.Lists.{All-append}
use Rattle.vpg_features.specs.Names.{index_of}
use Rattle.vpg_trail.specs.Page.{Decision, Hopeful, Dual, decisions_of, table_of}
use Rattle.vpg_desk.specs.Book.{Family, Book, Harvest, next, opened, Call, Decide, Retract, Undo, Redo, Keep, Forget, Order, Commit, Settled, Page, Reply, Changed, Undone, Redone, Spent, Ordered, Added, IsSettled, PageIs, Refused, IsReply}
use Rattle.vpg_desk.specs.History.{Event, IsLegal, IsLegalFrom, book_after}
use Rattle.vpg_office.specs.Fronts.{event}
use Rattle.vpg_desk.specs.Desk.{family_of}
use Rattle.vpg_desk.specs.Lawful.{IsLawful, HandsIn, AllHandIn}
use Rattle.vpg_desk.proofs.UndoRedo.{book_after-append}
use Rattle.vpg_script.specs.Script as script
use Rattle.vpg_script.specs.Script.{Said, Request, said}
use Rattle.vpg_script.specs.Answer.{Answer}
use Rattle.vpg_script.specs.Output.{Machine, Speaks, Answered}
use Rattle.vpg_engine.specs.Held.{Held, undo_meant, redo_meant, harvest_kept, after_change, after_undo, after_redo, after_keep, after_forget, with_harvest, without_harvest, with_seen}
use Rattle.vpg_texts.specs.Scene.{Scene}
use Rattle.vpg_engine.specs.Answers.{Own, NoFeature, NoToken, NoHarvest, NoVertex, vertex_of, call_or, full_log, refusal_text, sweeps_of, Rest, Ends, Follows, Makes, Asks, TellsSettled, AsksSettled, TellsAdded, Sweeps, Keeps, Lifts, verdicts_on}
use Rattle.vpg_engine.specs.Requests.{call_or_missing, first_call, sight_on, TellsSight, Continues, Begins, Serves}
use Rattle.vpg_looks.specs.Meanings.{Sight, ordered_sight}
use Rattle.vpg_checking.specs.Behaviours.{Behaviour}
use Rattle.vpg_answers.specs.Topics.{Topic, takes_order, topic_of}
use Rattle.vpg_answers.specs.declared.topic.Missing.{Missing}
use Rattle.vpg_engine.specs.Line.{Between, begun}
use Rattle.vpg_report.specs.Run.{answering, as_meant, Asked, asking, AnswersAreHistories}
use Rattle.vpg_report.specs.Winners.{IsRefusal}
use Rattle.vpg_engine.specs.Setting.{setting_in}

abbrev pub family_at : Scene → Family
family_at scene = family_of (setting_in scene)

legal_more : (family : Family) (book : Book) (events more : List Event) → IsLegalFrom family book events → IsLegalFrom family (book_after family book events) more → IsLegalFrom family book (events ++ more)
legal_more family book [] more first rest = rest
legal_more family book (e ∷ events) more first rest = (first.0, legal_more family (next family book e.session e.call e.reply) events more first.1 rest)

-- ---- the harvests that are kept

module _ (L : Harvest → Type 0) where
  -- all that are kept are lawful
  abbrev pub AreLawful : List (Option Harvest) → Type 0
  AreLawful harvests = AllByRecursion (λ h. IfSome h L) harvests

  kept_lawful : (harvests : List (Option Harvest)) (k : ℕ) (made : Harvest) → AreLawful harvests → harvest_kept harvests k ≡ Some made → L made
  kept_lawful harvests zero made all is = absurd (cc is)
  kept_lawful [] (suc k) made all is = absurd (cc is)
  kept_lawful (h ∷ harvests) (suc zero) made all is = subst (λ (x : Option Harvest). IfSome x L) is all.0
  kept_lawful (h ∷ harvests) (suc (suc k)) made all is = kept_lawful harvests (suc k) made all.1 is

  gone_lawful : (harvests : List (Option Harvest)) (k : ℕ) → AreLawful harvests → AreLawful (slice_set harvests k None)
  gone_lawful [] k all = tt
  gone_lawful (h ∷ harvests) zero all = (tt, all.1)
  gone_lawful (h ∷ harvests) (suc k) all = (all.0, gone_lawful harvests k all.1)

-- ---- a call

-- an order's reply tells of the present page
pub ordered_is : (family : Family) (book : Book) (decisions : List Decision) (hopeful dual : List ℕ) → IsReply family book Order (Ordered decisions hopeful dual) →
    (decisions ≡ decisions_of book.present) × (hopeful ≡ table_of Hopeful book.present family.vertices) × (dual ≡ table_of Dual book.present family.vertices)
ordered_is family book decisions hopeful dual (None, (refuses, is)) = (cc is, cc is, cc is)
ordered_is family book decisions hopeful dual (Some r, (refuses, is)) = absurd (cc is)

module _ (scene : Scene) (held : Held) where
  -- the first of the calls
  pub record First (book : Book) (label : ℕ) (call : Call) (P : Reply → Rest) (calls : List Event) (answer : Answer) (new : Held) : Type 0 where
    pub reply : Reply
    pub rest : List Event
    pub is : calls ≡ event label call reply ∷ rest
    pub told : IsReply (family_at scene) book call reply
    pub legal : IsLegalFrom (family_at scene) (next (family_at scene) book label call reply) rest
    pub goes : Follows scene held P reply rest answer new

  pub first : (book : Book) (label : ℕ) (call : Call) (P : Reply → Rest) (calls : List Event) (answer : Answer) (new : Held) → IsLegalFrom (family_at scene) book calls →
      Makes scene held label call P calls answer new → First book label call P calls answer new
  first book label call P [] answer new legal so = absurd so
  first book label call P (e ∷ calls) answer new legal so =
      let same : e ≡ event label call e.reply = λ i. record { session = so.0 i; call = so.1 i; reply = e.reply } in
      record {
        reply = e.reply;
        rest = calls;
        is = ap (λ (x : Event). x ∷ calls) same;
        told = subst (λ (c : Call). IsReply (family_at scene) book c e.reply) so.1 legal.0;
        legal = subst (λ (x : Event). IsLegalFrom (family_at scene) (next (family_at scene) book x.session x.call x.reply) calls) same legal.1;
        goes = so.2;
      }

  -- what comes after its reply answers the line
  abbrev pub Goes : (book : Book) (label : ℕ) (call : Call) (P : Reply → Rest) (answer : Answer) (new : Held) → Type 0
  Goes book label call P answer new = (reply : Reply) × (rest : List Event) × IsReply (family_at scene) book call reply
      × IsLegalFrom (family_at scene) (next (family_at scene) book label call reply) rest × P reply rest answer new

  pub asked : (book : Book) (before label : ℕ) (call : Call) (P : Reply → Rest) (calls : List Event) (answer : Answer) (new : Held) → IsLegalFrom (family_at scene) book calls →
      Asks scene held before label call P calls answer new → IsRefusal answer ⊎ Goes book label call P answer new
  asked book before label call P calls answer new legal (inr (full, so)) = inl (codes "LogFull", so.1)
  asked book before label call P calls answer new legal (inl (less, so)) = go f.reply f.told f.legal f.goes
    where
      f : First book label call P calls answer new
      f = first book label call P calls answer new legal so

      go : (reply : Reply) → IsReply (family_at scene) book call reply → IsLegalFrom (family_at scene) (next (family_at scene) book label call reply) f.rest → Follows scene held P reply f.rest answer new →
          IsRefusal answer ⊎ Goes book label call P answer new
      go (Refused r) told rest goes = inl (refusal_text scene.names r, goes.1)
      go reply told rest goes = inr (reply, f.rest, told, rest, goes)

-- ---- what holds of each rest of a line

-- what is left to show of a command that takes an order, or looks at the page
module _ (behaviour : Option Behaviour) (scene : Scene) (held : Held) (L : Harvest → Type 0) (Q : Book → Rest → Type 0) (book : Book) (made label : ℕ) where
  -- if it holds of a commit that this comes after, it holds of a rest after the order
  abbrev OfOrder : (Reply → Rest) → (Reply → Rest) → Type 0
  OfOrder P R = (decisions : List Decision) (hopeful dual : List ℕ) → IsReply (family_at scene) book Order (Ordered decisions hopeful dual) →
      ((harvest : Harvest) → HandsIn L (Commit harvest) → Q book (Asks scene held (made + 1) label (Commit harvest) P)) → Q book (R (Ordered decisions hopeful dual))

  abbrev pub Shows : script.Command → Type 0
  Shows (script.Lift table named) = OfOrder (TellsAdded held) (Lifts scene held (made + 1) label table named)
  Shows (script.Settle n) = OfOrder (AsksSettled scene held (made + 1 + 1) label) (Sweeps scene held (made + 1) label (sweeps_of n))
  Shows script.Harvest = OfOrder (TellsAdded held) (Keeps scene held)
  Shows (script.Looks look) = (after : Book) (sight : Sight) → Q after (TellsSight behaviour scene held look sight)
  Shows _ = ⊤

-- It holds of each command, if it holds of an end, and of a call whose replies have rests of which it holds. L holds of
-- the harvests that are kept.
module _ (behaviour : Option Behaviour) (scene : Scene) (held : Held) (L : Harvest → Type 0) (all : AreLawful L held.harvests) (Q : Book → Rest → Type 0)
    (none : (book : Book) (P : Rest) → ((calls : List Event) (answer : Answer) (new : Held) → P calls answer new → ⊥) → Q book P)
    (ends : (book : Book) (given : Answer) (after : Held) → AreLawful L after.harvests → Q book (Ends given after))
    (makes : (book : Book) (made label : ℕ) (call : Call) (P : Reply → Rest) → HandsIn L call →
    ((reply : Reply) → IsReply (family_at scene) book call reply → Q (next (family_at scene) book label call reply) (Follows scene held P reply)) → Q book (Asks scene held made label call P)) where
  follows : (book : Book) (P : Reply → Rest) (reply : Reply) → Q book (P reply) → Q book (Follows scene held P reply)
  follows book P (Refused r) so = ends book _ held all
  follows book P reply so = so

  asks : (book : Book) (made label : ℕ) (call : Call) (P : Reply → Rest) → HandsIn L call →
      ((reply : Reply) → IsReply (family_at scene) book call reply → Q (next (family_at scene) book label call reply) (P reply)) → Q book (Asks scene held made label call P)
  asks book made label call P hands so = makes book made label call P hands (λ reply told. follows _ P reply (so reply told))

  tells_settled : (book : Book) (n : ℕ) (reply : Reply) → Q book (TellsSettled held n reply)
  tells_settled book n (IsSettled b) = ends book _ held all
  tells_settled book n _ = none book _ (λ calls answer new so. so)

  asks_settled : (book : Book) (made label : ℕ) (reply : Reply) → Q book (AsksSettled scene held made label reply)
  asks_settled book made label (Added n) = asks book made label Settled (TellsSettled held n) tt (λ reply told. tells_settled _ n reply)
  asks_settled book made label _ = none book _ (λ calls answer new so. so)

  tells_added : (book : Book) (reply : Reply) → Q book (TellsAdded held reply)
  tells_added book (Added n) = ends book _ held all
  tells_added book _ = none book _ (λ calls answer new so. so)

  -- ---- what a first call hands in

  handed_or : {X : Type 0} (own : Own) (call : X → Call) (found : Option X) → ((x : X) → found ≡ Some x → HandsIn L (call x)) → IfOk (call_or own call found) (HandsIn L)
  handed_or own call None hands = tt
  handed_or own call (Some x) hands = hands x refl

  -- a look hands nothing in
  handed_look : (found : Result Topic Missing) → IfOk (call_or_missing found) (HandsIn L)
  handed_look (Err missing) = tt
  handed_look (Ok topic) = nothing (takes_order topic)
    where
      nothing : (ordered : Bool) → HandsIn L (if ordered then Order else Page)
      nothing true = tt
      nothing false = tt

  handed : (command : script.Command) → IfOk (first_call behaviour scene held command) (HandsIn L)
  handed (script.Select name) = handed_or NoFeature (λ f. Decide f true) (index_of scene.names name) (λ f is. tt)
  handed (script.Exclude name) = handed_or NoFeature (λ f. Decide f false) (index_of scene.names name) (λ f is. tt)
  handed (script.Retract name) = handed_or NoFeature Retract (index_of scene.names name) (λ f is. tt)
  handed (script.Undo s) = handed_or NoToken Undo (undo_meant held.undos s) (λ n is. tt)
  handed (script.Redo s) = handed_or NoToken Redo (redo_meant held.redos s) (λ n is. tt)
  handed (script.Keep s) = handed_or NoToken Keep (undo_meant held.undos (Some s)) (λ n is. tt)
  handed (script.Forget s) = handed_or NoToken Forget (redo_meant held.redos (Some s)) (λ n is. tt)
  handed (script.Lift table named) = handed_or NoVertex (λ v. Order) (vertex_of scene named) (λ v is. tt)
  handed (script.Commit k) = handed_or NoHarvest Commit (harvest_kept held.harvests k) (λ made is ours. kept_lawful L held.harvests k made all is)
  handed (script.Looks look) = handed_look (topic_of behaviour scene look)
  handed _ = tt

  -- ---- a command

  module _ (book : Book) (made label : ℕ) where
    -- only an order is answered by an order, and leaves the book
    at_order : (R : Book → Type 0) (call : Call) (decisions : List Decision) (hopeful dual : List ℕ) → IsReply (family_at scene) book call (Ordered decisions hopeful dual) →
        (IsReply (family_at scene) book Order (Ordered decisions hopeful dual) → R book) → R (next (family_at scene) book label call (Ordered decisions hopeful dual))
    at_order R Order decisions hopeful dual told so = so told
    at_order R Settled decisions hopeful dual (None, (refuses, told)) so = absurd (cc told.1.1)
    at_order R call decisions hopeful dual (None, (refuses, told)) so = absurd (cc told)
    at_order R call decisions hopeful dual (Some r, (refuses, told)) so = absurd (cc told)

    continues : (command : script.Command) → Shows behaviour scene held L Q book made label command → (call : Call) (reply : Reply) → IsReply (family_at scene) book call reply →
        Q (next (family_at scene) book label call reply) (Continues behaviour scene held (made + 1) label command reply)
    continues (script.Select name) shows call (Changed s) told = ends _ _ (after_change held s) all
    continues (script.Exclude name) shows call (Changed s) told = ends _ _ (after_change held s) all
    continues (script.Retract name) shows call (Changed s) told = ends _ _ (after_change held s) all
    continues script.Reset shows call (Changed s) told = ends _ _ (after_change held s) all
    continues (script.Undo t) shows call (Undone s) told = ends _ _ (after_undo held s) all
    continues (script.Redo t) shows call (Redone s) told = ends _ _ (after_redo held s) all
    continues (script.Keep s) shows call Spent told = ends _ _ (after_keep held s) all
    continues (script.Forget s) shows call Spent told = ends _ _ (after_forget held s) all
    continues (script.Commit k) shows call (Added n) told = ends _ _ (without_harvest held k) (gone_lawful L held.harvests (k - 1) all)
    continues script.Changed shows call (PageIs page) told = ends _ _ (with_seen held (verdicts_on scene page)) all
    continues (script.Lift table named) shows call (Ordered d h u) told =
        at_order (λ b. Q b (Lifts scene held (made + 1) label table named (Ordered d h u))) call d h u told
        (λ order. shows d h u order (λ harvest hands. asks book (made + 1) label (Commit harvest) (TellsAdded held) hands (λ reply so. tells_added _ reply)))
    continues (script.Settle n) shows call (Ordered d h u) told =
        at_order (λ b. Q b (Sweeps scene held (made + 1) label (sweeps_of n) (Ordered d h u))) call d h u told
        (λ order. shows d h u order (λ harvest hands. asks book (made + 1) label (Commit harvest) (AsksSettled scene held (made + 1 + 1) label) hands (λ reply so. asks_settled _ (made + 1 + 1) label reply)))
    continues script.Harvest shows call (Ordered d h u) told =
        at_order (λ b. Q b (Keeps scene held (Ordered d h u))) call d h u told
        (λ order. shows d h u order (λ harvest hands. asks book (made + 1) label (Commit harvest) (TellsAdded held) hands (λ reply so. tells_added _ reply)))
    continues (script.Looks look) shows call (PageIs page) told = shows _ (sight_on scene page)
    continues (script.Looks look) shows call (Ordered d h u) told = shows _ (ordered_sight d h u)
    continues _ shows call reply told = none _ _ (λ calls answer new so. so)

    begins : (command : script.Command) → Shows behaviour scene held L Q book made label command → (first : Result Call Own) → IfOk first (HandsIn L) → Q book (Begins behaviour scene held made label command first)
    begins command shows (Err own) hands = ends book _ held all
    begins command shows (Ok call) hands = asks book made label call (Continues behaviour scene held (made + 1) label command) hands (continues command shows call)

    pub serves : (command : script.Command) → Shows behaviour scene held L Q book made label command → Q book (Begins behaviour scene held made label command (first_call behaviour scene held command))
    serves command shows = begins command shows (first_call behaviour scene held command) (handed command)

-- ---- lawful harvests alone are handed in

module _ (behaviour : Option Behaviour) (scene : Scene) (held : Held) where
  abbrev L : Harvest → Type 0
  L = IsLawful (family_at scene)

  -- what the calls hand in is lawful, and so is what is kept then
  abbrev IsFine : Book → Rest → Type 0
  IsFine book R = (calls : List Event) (answer : Answer) (new : Held) → IsLegalFrom (family_at scene) book calls → R calls answer new → AllHandIn L calls × AreLawful L new.harvests

  ends_fine : (book : Book) (given : Answer) (after : Held) → AreLawful L after.harvests → IsFine book (Ends given after)
  ends_fine book given after all calls answer new legal so =
      (subst (λ (es : List Event). AllHandIn L es) (sym so.0) tt, subst (λ (h : Held). AreLawful L h.harvests) (sym so.2) all)

  module _ (all : AreLawful L held.harvests) where
    makes_fine : (book : Book) (made label : ℕ) (call : Call) (P : Reply → Rest) → HandsIn L call →
        ((reply : Reply) → IsReply (family_at scene) book call reply → IsFine (next (family_at scene) book label call reply) (Follows scene held P reply)) → IsFine book (Asks scene held made label call P)
    makes_fine book made label call P hands fine calls answer new legal (inl (less, so)) =
        let f = first scene held book label call P calls answer new legal so in
        let rest = fine f.reply f.told f.rest answer new f.legal f.goes in
        (subst (λ (es : List Event). AllHandIn L es) (sym f.is) (hands, rest.0), rest.1)
    makes_fine book made label call P hands fine calls answer new legal (inr (full, so)) = ends_fine book full_log held all calls answer new legal so

    shows_fine : (book : Book) (made label : ℕ) (command : script.Command) → Shows behaviour scene held L IsFine book made label command
    shows_fine book made label (script.Lift table named) = λ d h u told commits calls answer new legal so. commits so.1 (λ ours. so.3.of_order.lawful) calls answer new legal so.4
    shows_fine book made label (script.Settle n) = λ d h u told commits calls answer new legal so. commits so.0 (λ ours. so.1.of_order.lawful) calls answer new legal so.2
    shows_fine book made label script.Harvest = λ d h u told commits calls answer new legal so.
        ends_fine book _ (with_harvest held so.0) (All-append (λ h. IfSome h L) held.harvests (Some so.0 ∷ []) all (so.1.of_order.lawful, tt)) calls answer new legal so.2
    shows_fine book made label (script.Looks look) = λ after sight calls answer new legal so. ends_fine after answer held all calls answer new legal (so.1, refl, so.2)
    shows_fine book made label _ = tt

    serves_fine : (book : Book) (made label : ℕ) (command : script.Command) → IsFine book (Begins behaviour scene held made label command (first_call behaviour scene held command))
    serves_fine book made label command =
        serves behaviour scene held L all IsFine (λ book P nothing calls answer new legal so. absurd (nothing calls answer new so)) ends_fine makes_fine book made label command (shows_fine book made label command)

-- ---- lines

-- one machine answers as another, where its states are such
module _ {S : Type 0} (one other : Machine S) (I : S → Type 0)
    (step : (s : S) (request : Request) (answer : Answer) (new : S) → I s → one s request answer new → I new × other s request answer new) where
  speaks_as : (s : S) (says : Said) (answer : Answer) (new : S) → I s → Speaks one s says answer new → I new × Speaks other s says answer new
  speaks_as s (Ok None) answer new is so = (subst I (sym so.1) is, so)
  speaks_as s (Ok (Some request)) answer new is so = step s request answer new is so
  speaks_as s (Err fault) answer new is so = absurd so

  pub answered_as : (s : S) (lines : List (List ℕ)) (answers : List Answer) (new : S) → I s → Answered one s lines answers new → Answered other s lines answers new
  answered_as s [] answers new is so = so
  answered_as s (line ∷ lines) answers new is so =
      let first = speaks_as s (said line) so.1 so.0 is so.3 in
      (so.0, so.1, so.2, first.1, so.4, answered_as so.0 lines so.2 new first.0 so.5)

-- the calls so far are a history
pub record IsSoFar (scene : Scene) (old : Between) (before : List Event) : Type 0 where
  pub leaves : old.book ≡ book_after (family_at scene) opened before
  pub legal : IsLegal (family_at scene) before
  pub lawful : AllHandIn (IsLawful (family_at scene)) before
  pub counted : old.calls ≡ length before
  pub kept : AreLawful (IsLawful (family_at scene)) old.held.harvests

module _ (behaviour : Option Behaviour) (scene : Scene) (lifters : ℕ) where
  abbrev so_far : List Event → Between → Asked
  so_far calls old = record { calls = calls; held = old.held }

  -- so they are after one request more
  pub asked_for : (old : Between) (before : List Event) (request : Request) (answer : Answer) (new : Between) → IsSoFar scene old before → answering behaviour scene lifters old request answer new →
      (now : List Event) × IsSoFar scene new now × asking behaviour scene (so_far before old) request answer (so_far now new)
  asked_for old before request answer new here ((calls, so), made) =
      let fine = serves_fine behaviour scene old.held here.kept old.book old.calls request.label request.command calls answer new.held so.1 so.0 in (
        before ++ calls,
        record {
          leaves = so.2 ∙ ap (λ (b : Book). book_after (family_at scene) b calls) here.leaves ∙ sym (book_after-append (family_at scene) opened before calls);
          legal = legal_more (family_at scene) opened before calls here.legal (subst (λ (b : Book). IsLegalFrom (family_at scene) b calls) here.leaves so.1);
          lawful = All-append _ before calls here.lawful fine.0;
          counted = omega (arith, so.3, here.counted, length-append before calls);
          kept = fine.1;
        },
        (calls, (subst (λ (n : ℕ). Serves behaviour scene old.held n request calls answer new.held) here.counted so.0, refl)),
      )

  module _ (meaning : Request → Request) where
    asked_line : (old : Between) (before : List Event) (s : Said) (answer : Answer) (new : Between) → IsSoFar scene old before → Speaks (as_meant meaning (answering behaviour scene lifters)) old s answer new →
        (now : List Event) × IsSoFar scene new now × Speaks (as_meant meaning (asking behaviour scene)) (so_far before old) s answer (so_far now new)
    asked_line old before (Ok None) answer new here so =
        (before, subst (λ (b : Between). IsSoFar scene b before) (sym so.1) here, (so.0, λ i. so_far before (so.1 i)))
    asked_line old before (Ok (Some request)) answer new here so = asked_for old before (meaning request) answer new here so
    asked_line old before (Err fault) answer new here so = absurd so

    asked_lines : (old : Between) (before : List Event) (lines : List (List ℕ)) (answers : List Answer) (new : Between) → IsSoFar scene old before → Answered (as_meant meaning (answering behaviour scene lifters)) old lines answers new →
        (now : List Event) × IsSoFar scene new now × Answered (as_meant meaning (asking behaviour scene)) (so_far before old) lines answers (so_far now new)
    asked_lines old before [] answers new here so =
        (before, subst (λ (b : Between). IsSoFar scene b before) (sym so.1) here, (so.0, λ i. so_far before (so.1 i)))
    asked_lines old before (line ∷ lines) answers new here so =
        let first = asked_line old before (said line) so.1 so.0 here so.3 in
        let rest = asked_lines so.0 first.0 lines so.2 new first.1 so.5 in
        (rest.0, rest.1, (so_far first.0 so.0, so.1, so.2, first.2, so.4, rest.2))

-- before the first line
pub nothing_so_far : (scene : Scene) → IsSoFar scene begun []
nothing_so_far scene = record { leaves = refl; legal = tt; lawful = tt; counted = refl; kept = tt }

pub answers_are_histories : AnswersAreHistories
answers_are_histories meaning behaviour scene lifters lines answers new answered =
    let all = asked_lines behaviour scene lifters meaning begun [] lines answers new (nothing_so_far scene) answered in
    (all.0, (record { legal = all.1.legal; lawful = all.1.lawful; leaves = sym all.1.leaves }, all.2))

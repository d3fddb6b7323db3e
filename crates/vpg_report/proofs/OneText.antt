-- Settled answers are one.
use Rattle.std.proofs.Common.{◌≡◌, ℕ, ◌+◌, true, false, List, [], ◌∷◌, ◌++◌, length, Option, Some, None, Result, Ok, Err, sym, ap, ap₂, ◌∙◌, subst, inl, inr, arith}
use Rattle.std.specs.Prelude.{IfSome, ◌⊎◌, map, ⊤}
use Rattle.vpg_guards.specs.Known.{kleene}
use Rattle.vpg_guards.specs.declared.tri.Tri.{Tri}
use Rattle.vpg_diagram.proofs.Lists.{All-back}
use Rattle.vpg_measure.specs.Lifts.{raised}
use Rattle.vpg_measure.specs.Orders.{other_table}
use Rattle.vpg_measure.specs.TwoGames.{levels_for, arena_for}
use Rattle.vpg_trail.specs.Page.{Which, Hopeful, Dual, Decision, literal_of}
use Rattle.vpg_desk.specs.Book.{Family, Book, Harvest, IsSettledPage, raises_of, next, Call, Order, Commit, Settled, Reply, Ordered, Added, IsSettled, IsReply}
use Rattle.vpg_desk.specs.History.{Event, IsLegalFrom, book_after}
use Rattle.vpg_desk.specs.Desk.{family_of}
use Rattle.vpg_desk.specs.Lawful.{harvested, HandsIn}
use Rattle.vpg_desk.proofs.Replies.{reply_one}
use Rattle.vpg_script.specs.Script as script
use Rattle.vpg_script.specs.Script.{Said, Request, said}
use Rattle.vpg_script.specs.Answer.{Answer}
use Rattle.vpg_script.specs.Output.{Speaks, Answered}
use Rattle.vpg_engine.specs.Held.{Held, with_harvest}
use Rattle.vpg_texts.specs.Scene.{Scene, table_in}
use Rattle.vpg_engine.specs.Answers.{Checks, IsLifted, full_log, settled_text, sweeps_of, Rest, Ends, Follows, Asks, TellsSettled, AsksSettled, TellsAdded, Sweeps, Keeps, Lifts, answer_limits}
use Rattle.vpg_engine.specs.Requests.{first_call, TellsSight, Begins}
use Rattle.vpg_looks.specs.Meanings.{Sight}
use Rattle.vpg_answers.specs.Told.{IsTold}
use Rattle.vpg_answers.specs.Topics.{Topic, topic_of}
use Rattle.vpg_answers.specs.declared.topic.Missing.{Missing}
use Rattle.vpg_checking.specs.Behaviours.{Behaviour}
use Rattle.vpg_answers.proofs.One.{answers_are_one}
use Rattle.vpg_engine.specs.Line.{Between, begun}
use Rattle.vpg_report.specs.Run.{as_meant}
use Rattle.vpg_report.specs.Settling.{settling, TellsSettle, AreChecked, SettledAnswersAreOne}
use Rattle.vpg_texts.proofs.Planned.{known_is_one}
use Rattle.vpg_report.specs.Winners.{IsRefusal}
use Rattle.vpg_office.specs.Fronts.{event}
use Rattle.vpg_report.proofs.Histories.{AreLawful, Goes, Shows, asked, family_at, first, ordered_is, serves}
use Rattle.vpg_report.proofs.LeastHarvests.{same_harvests, checked_are_one, settling_are_one}
use Rattle.vpg_engine.specs.Setting.{setting_in}

-- ---- one lift

module _ (scene : Scene) (decisions : List Decision) (hopeful dual : List ℕ) where
  abbrev family : Family
  family = family_of (setting_in scene)

  lifted_one : (table : Which) (v : ℕ) (one other : Harvest) → IsLifted (setting_in scene) table v decisions hopeful dual one → IsLifted (setting_in scene) table v decisions hopeful dual other → one ≡ other
  lifted_one table v one other a b = same_harvests family decisions hopeful dual one other a.of_order b.of_order (both table lifted (a.other_stays ∙ sym b.other_stays))
    where
      lifted : harvested one table ≡ harvested other table
      lifted = a.lifted
          ∙ ap (λ (known : List Tri). raised (levels_for table scene.game) (arena_for (kleene known) table scene.game) (table_in hopeful dual table) v)
          (known_is_one scene.lines (map literal_of decisions) a.known b.known a.known_is b.known_is) ∙ sym b.lifted

      both : (t : Which) → harvested one t ≡ harvested other t → harvested one (other_table t) ≡ harvested other (other_table t) → (which : Which) → harvested one which ≡ harvested other which
      both Hopeful first second Hopeful = first
      both Hopeful first second Dual = second
      both Dual first second Hopeful = second
      both Dual first second Dual = first

-- ---- what a settle is answered

abbrev first_byte : List ℕ → ℕ
first_byte [] = 0
first_byte (b ∷ answer) = b

not_refusal : (answer : Answer) (n : ℕ) → IsRefusal answer → answer.text ≡ settled_text true n → ⊥
not_refusal answer n (why, e) is = let same : 114 ≡ 115 = ap first_byte (sym (ap (λ (x : Answer). x.text) e) ∙ is) in absurd (omega (arith, same))

not_unsettled : (m n : ℕ) → settled_text false m ≡ settled_text true n → ⊥
not_unsettled m n e = let same : 117 ≡ 115 = ap first_byte e in absurd (omega (arith, same))

module _ (scene : Scene) (held : Held) (answer : Answer) (new : Held) (m : ℕ) (is : answer.text ≡ settled_text true m) where
  told_settled : (book : Book) (made label n : ℕ) (calls : List Event) → IsLegalFrom (family_at scene) book calls → Asks scene held made label Settled (TellsSettled held n) calls answer new →
      IsSettledPage (family_at scene) book.present
  told_settled book made label n calls legal a = go (asked scene held book made label Settled (TellsSettled held n) calls answer new legal a)
    where
      go : IsRefusal answer ⊎ Goes scene held book label Settled (TellsSettled held n) answer new → IsSettledPage (family_at scene) book.present
      go (inl refusal) = absurd (not_refusal answer m refusal is)
      go (inr (IsSettled true, rest, (None, (refuses, told)), more, goes)) = told.1.0.0 (cc told.1.1)
      go (inr (IsSettled true, rest, (Some r, (refuses, told)), more, goes)) = absurd (cc told)
      go (inr (IsSettled false, rest, told, more, goes)) = absurd (not_unsettled n m (sym (ap (λ (x : Answer). x.text) goes.1) ∙ is))
      go (inr (reply, rest, told, more, goes)) = absurd goes

  -- where the commit of a harvest is followed by `settled`, it settles the page
  settles : (book : Book) (harvest : Harvest) (made label : ℕ) (calls : List Event) → IsLegalFrom (family_at scene) book calls →
      Asks scene held made label (Commit harvest) (AsksSettled scene held (made + 1) label) calls answer new → IsSettledPage (family_at scene) (book.present ++ raises_of (family_at scene) harvest book.present)
  settles book harvest made label calls legal a = go (asked scene held book made label (Commit harvest) (AsksSettled scene held (made + 1) label) calls answer new legal a)
    where
      go : IsRefusal answer ⊎ Goes scene held book label (Commit harvest) (AsksSettled scene held (made + 1) label) answer new →
          IsSettledPage (family_at scene) (book.present ++ raises_of (family_at scene) harvest book.present)
      go (inl refusal) = absurd (not_refusal answer m refusal is)
      go (inr (Added n, rest, told, more, goes)) = told_settled (next (family_at scene) book label (Commit harvest) (Added n)) (made + 1) label n rest more goes
      go (inr (reply, rest, told, more, goes)) = absurd goes

topic_one : (found : Result Topic Missing) (one other : Topic) → found ≡ Ok one → found ≡ Ok other → one ≡ other
topic_one found one other a b = cc (a, b)

-- ---- calls from one book

-- each harvest
abbrev Any : Harvest → Type 0
Any made = ⊤

any_kept : (harvests : List (Option Harvest)) → AreLawful Any harvests
any_kept [] = tt
any_kept (None ∷ harvests) = (tt, any_kept harvests)
any_kept (Some made ∷ harvests) = (tt, any_kept harvests)

-- with what is told of the line's answer
module _ (behaviour : Option Behaviour) (scene : Scene) (held : Held) (Told : Answer → Type 0) where
  abbrev all : Family
  all = family_at scene

  -- what the machine asks of calls
  record Fits (book : Book) (calls : List Event) (answer : Answer) (new : Held) : Type 0 where
    legal : IsLegalFrom all book calls
    told : Told answer
    checked : AreChecked scene new

  abbrev IsOne : Book → Rest → Type 0
  IsOne book P = (calls more : List Event) (answer other : Answer) (new newer : Held) → P calls answer new → P more other newer → Fits book calls answer new → Fits book more other newer →
      (calls ≡ more) × (answer ≡ other) × (new ≡ newer)

  ends : (book : Book) (given : Answer) (after : Held) → IsOne book (Ends given after)
  ends book given after calls more answer other new newer a b fit fits = (a.0 ∙ sym b.0, a.1 ∙ sym b.1, a.2 ∙ sym b.2)

  makes : (book : Book) (made label : ℕ) (call : Call) (P : Reply → Rest) → ((reply : Reply) → IsReply all book call reply → IsOne (next all book label call reply) (Follows scene held P reply)) →
      IsOne book (Asks scene held made label call P)
  makes book made label call P one calls more answer other new newer (inl (less, a)) (inl (also, b)) fit fits =
      let f = first scene held book label call P calls answer new fit.legal a in
      let g = first scene held book label call P more other newer fits.legal b in
      let same : g.reply ≡ f.reply = reply_one all book call g.reply f.reply g.told f.told in
      let rest : (f.rest ≡ g.rest) × (answer ≡ other) × (new ≡ newer) =
      one f.reply f.told f.rest g.rest answer other new newer f.goes (subst (λ (r : Reply). Follows scene held P r g.rest other newer) same g.goes)
      (record { legal = f.legal; told = fit.told; checked = fit.checked })
      (record { legal = subst (λ (r : Reply). IsLegalFrom all (next all book label call r) g.rest) same g.legal; told = fits.told; checked = fits.checked }) in
      (f.is ∙ ap₂ (λ (r : Reply) (es : List Event). event label call r ∷ es) (sym same) rest.0 ∙ sym g.is, rest.1, rest.2)
  makes book made label call P one calls more answer other new newer (inl (less, a)) (inr (full, b)) fit fits = absurd (omega (arith, less, full))
  makes book made label call P one calls more answer other new newer (inr (full, a)) (inl (less, b)) fit fits = absurd (omega (arith, less, full))
  makes book made label call P one calls more answer other new newer (inr (full, a)) (inr (also, b)) fit fits = ends book full_log held calls more answer other new newer a b fit fits

  -- a look without a doubt, on one page
  tells_sight : (book : Book) (look : script.Look) → ((answer : Answer) → Told answer → TellsSettle behaviour scene (script.Looks look) answer) → (page : Sight) → IsOne book (TellsSight behaviour scene held look page)
  tells_sight book look sure page calls more answer other new newer a b fit fits =
      let same : b.0.0 ≡ a.0.0 = topic_one (topic_of behaviour scene look) b.0.0 a.0.0 b.0.1.0 a.0.1.0 in
      let of_one : IsTold behaviour scene answer_limits a.0.0 page other = subst (λ (t : Topic). IsTold behaviour scene answer_limits t page other) same b.0.1.1 in (
        a.1 ∙ sym b.1,
        answers_are_one behaviour scene answer_limits answer_limits a.0.0 page answer other a.0.1.1 of_one (sure answer fit.told a.0.0 a.0.1.0) (sure other fits.told a.0.0 a.0.1.0),
        a.2 ∙ sym b.2,
      )

  -- ---- harvests

  module _ (book : Book) (decisions : List Decision) (hopeful dual : List ℕ) (told : IsReply all book Order (Ordered decisions hopeful dual)) where
    swept : (made label n : ℕ) → ((answer : Answer) → Told answer → (m : ℕ) × (answer.text ≡ settled_text true m)) →
        ((harvest : Harvest) → HandsIn Any (Commit harvest) → IsOne book (Asks scene held made label (Commit harvest) (AsksSettled scene held (made + 1) label))) →
        IsOne book (Sweeps scene held made label n (Ordered decisions hopeful dual))
    swept made label n is commits calls more answer other new newer a b fit fits =
        let order = ordered_is all book decisions hopeful dual told in
        let t = is answer fit.told in
        let u = is other fits.told in
        let same : b.0 ≡ a.0 = settling_are_one all decisions hopeful dual book.present (ap (map literal_of) order.0) order.1 order.2 b.0 a.0 b.1.of_order a.1.of_order
        (settles scene held other newer u.0 u.1 book b.0 made label more fits.legal b.2) (settles scene held answer new t.0 t.1 book a.0 made label calls fit.legal a.2) in
        commits a.0 (λ ours. tt) calls more answer other new newer a.2
        (subst (λ (h : Harvest). Asks scene held made label (Commit h) (AsksSettled scene held (made + 1) label) more other newer) same b.2) fit fits

    checks_last : (made : Harvest) (new : Held) → new ≡ with_harvest held made → AreChecked scene new → Checks all made
    checks_last made new is checked =
        (All-back (λ (h : Option Harvest). IfSome h (Checks all)) held.harvests (Some made ∷ []) (subst (λ (h : Held). AreChecked scene h) is checked)).0

    kept : IsOne book (Keeps scene held (Ordered decisions hopeful dual))
    kept calls more answer other new newer a b fit fits =
        let same : a.0 ≡ b.0 = checked_are_one all decisions hopeful dual a.0 b.0 a.1.of_order b.1.of_order (checks_last a.0 new a.2.2 fit.checked) (checks_last b.0 newer b.2.2 fits.checked) in
        (a.2.0 ∙ sym b.2.0, a.2.1 ∙ sym b.2.1, a.2.2 ∙ ap (with_harvest held) same ∙ sym b.2.2)

    lifted : (made label : ℕ) (table : Which) (named : script.Vertex) → ((harvest : Harvest) → HandsIn Any (Commit harvest) → IsOne book (Asks scene held made label (Commit harvest) (TellsAdded held))) →
        IsOne book (Lifts scene held made label table named (Ordered decisions hopeful dual))
    lifted made label table named commits calls more answer other new newer a b fit fits =
        let here : b.0 ≡ a.0 = cc (a.2, b.2) in
        let same : b.1 ≡ a.1 = lifted_one scene decisions hopeful dual table a.0 b.1 a.1 (subst (λ (v : ℕ). IsLifted (setting_in scene) table v decisions hopeful dual b.1) here b.3) a.3 in
        commits a.1 (λ ours. tt) calls more answer other new newer a.4 (subst (λ (h : Harvest). Asks scene held made label (Commit h) (TellsAdded held) more other newer) same b.4) fit fits

  -- ---- a line

  -- a settle is told to be one that was answered `settled`, and an answer about the page to be one without a doubt
  shows : (book : Book) (made label : ℕ) (command : script.Command) → ((answer : Answer) → Told answer → TellsSettle behaviour scene command answer) → Shows behaviour scene held Any IsOne book made label command
  shows book made label (script.Lift table named) is = λ d h u told. lifted book d h u told (made + 1) label table named
  shows book made label (script.Settle n) is = λ d h u told. swept book d h u told (made + 1) label (sweeps_of n) is
  shows book made label script.Harvest is = λ d h u told commits. kept book d h u told
  shows book made label (script.Looks look) is = λ after sight. tells_sight after look is sight
  shows book made label _ is = tt

  serves_one : (book : Book) (made label : ℕ) (command : script.Command) → ((answer : Answer) → Told answer → TellsSettle behaviour scene command answer) →
      IsOne book (Begins behaviour scene held made label command (first_call behaviour scene held command))
  serves_one book made label command is =
      serves behaviour scene held Any (any_kept held.harvests) IsOne (λ book P nothing calls more answer other new newer a. absurd (nothing calls answer new a))
      (λ book given after kept. ends book given after) (λ book made label call P hands. makes book made label call P) book made label command (shows book made label command is)

-- ---- lines

module _ (meaning : Request → Request) (behaviour : Option Behaviour) (scene : Scene) where
  line_one : (old : Between) (s : Said) (answer other : Answer) (new newer : Between) → Speaks (as_meant meaning (settling behaviour scene)) old s answer new → Speaks (as_meant meaning (settling behaviour scene)) old s other newer → (answer ≡ other) × (new ≡ newer)
  line_one old (Ok None) answer other new newer a b = (a.0 ∙ sym b.0, a.1 ∙ sym b.1)
  line_one old (Ok (Some request)) answer other new newer a b =
      let one : (a.0.0 ≡ b.0.0) × (answer ≡ other) × (new.held ≡ newer.held) =
      serves_one behaviour scene old.held (TellsSettle behaviour scene (meaning request).command) old.book old.calls (meaning request).label (meaning request).command (λ answer told. told) a.0.0 b.0.0 answer other new.held newer.held a.0.1.0 b.0.1.0
      (record { legal = a.0.1.1; told = a.1; checked = a.2 }) (record { legal = b.0.1.1; told = b.1; checked = b.2 }) in
      let book : new.book ≡ newer.book = a.0.1.2 ∙ ap (λ (es : List Event). book_after (family_of (setting_in scene)) old.book es) one.0 ∙ sym b.0.1.2 in
      let calls : new.calls ≡ newer.calls = a.0.1.3 ∙ ap (λ (es : List Event). old.calls + length es) one.0 ∙ sym b.0.1.3 in
      (one.1, λ i. record { book = book i; calls = calls i; held = one.2 i })
  line_one old (Err fault) answer other new newer a b = absurd a

  pub lines_one : (old : Between) (lines : List (List ℕ)) (answers others : List Answer) (new newer : Between) → Answered (as_meant meaning (settling behaviour scene)) old lines answers new → Answered (as_meant meaning (settling behaviour scene)) old lines others newer → (answers ≡ others) × (new ≡ newer)
  lines_one old [] answers others new newer a b = (a.0 ∙ sym b.0, a.1 ∙ sym b.1)
  lines_one old (line ∷ lines) answers others new newer a b =
      let first : (a.1 ≡ b.1) × (a.0 ≡ b.0) = line_one old (said line) a.1 b.1 a.0 b.0 a.3 b.3 in
      let rest : (a.2 ≡ b.2) × (new ≡ newer) = lines_one a.0 lines a.2 b.2 new newer a.5 (subst (λ (m : Between). Answered (as_meant meaning (settling behaviour scene)) m lines b.2 newer) (sym first.1) b.5) in
      (a.4 ∙ ap₂ (λ (x : Answer) (xs : List Answer). x ∷ xs) first.0 rest.0 ∙ sym b.4, rest.1)

pub settled_answers_are_one : SettledAnswersAreOne
settled_answers_are_one meaning behaviour scene lines answers others new newer a b = lines_one meaning behaviour scene begun lines answers others new newer a b

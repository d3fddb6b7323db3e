-- What a run writes says who wins.
use Rattle.std.proofs.Common.{◌≡◌, ℕ, zero, suc, ◌+◌, ◌-◌, ◌<◌, ◌≤◌, ◌==◌, Bool, false, List, [], ◌∷◌, ◌++◌, length, Option, Some, None, Result, Ok, slice_index, refl, sym, ap, ◌∙◌, inl, inr, arith, append-nil, subst}
use Rattle.std.specs.Prelude.{◌⊎◌, if◌then◌else◌, map, codes, decimal, option_map}
use Rattle.std.specs.List.{range_with_len}
use Rattle.std.proofs.lemmas.Bool.{cases_lt}
use Rattle.std.proofs.lemmas.List.{length-append, length-map, get_or_append_left, get_or-append_right, map-id}
use Rattle.std.proofs.lemmas.List.Concat.{flat_map-cons}
use Rattle.std.proofs.lemmas.List.FromFn.{map-range_with_len_more}
use Rattle.std.proofs.lemmas.List.Quantifiers.{position-Some}
use Rattle.std.proofs.lemmas.Grind.{flat_map-append}
use Rattle.vpg_game.specs.Game.{unnamed}
use Rattle.vpg_measure.specs.TwoGames.{top_for}
use Rattle.vpg_sides.specs.declared.verdict.Verdict.{Verdict}
use Rattle.vpg_trail.specs.Page.{Hopeful, Dual, Entry, literal_of, decisions_of, value_at, table_of}
use Rattle.vpg_trail.proofs.PageLemmas.{table_of-at}
use Rattle.vpg_desk.specs.Book.{Family, Book, Call, Order, Page, Ordered, PageIs, IsReply}
use Rattle.vpg_desk.specs.Desk.{family_of}
use Rattle.vpg_desk.specs.Headline.{VerdictMeans}
use Rattle.vpg_desk.specs.History.{Event, IsLegal, IsLegalFrom, page_after}
use Rattle.vpg_desk.specs.Lawful.{IsLawful, AllHandIn}
use Rattle.vpg_desk.specs.Setting.{IsSetting}
use Rattle.vpg_desk.proofs.Whole.{reply_means}
use Rattle.vpg_script.specs.declared.look.Claim.{Claim}
use Rattle.vpg_script.specs.declared.look.PageLook.TheVariants as page_looks
use Rattle.vpg_checking.specs.Behaviours.{Behaviour}
use Rattle.vpg_script.specs.Script as script
use Rattle.vpg_script.specs.Script.{Request, all_there}
use Rattle.vpg_script.specs.Answer.{Answer, IsDone, done}
use Rattle.vpg_script.proofs.Given.{is_done}
use Rattle.vpg_texts.specs.Changed.{verdict_of, verdicts_below, unseen, seen_at, changed_text}
use Rattle.vpg_texts.specs.Labels.{label_of, beside}
use Rattle.vpg_texts.specs.Scene.{Scene, IsShown, scene_of}
use Rattle.vpg_texts.specs.Sights.{sight_lines, verdicts_answer}
use Rattle.vpg_texts.specs.Text.{answer_line, blank_number, decisions_line, hopeless_text, sure_text, vertex_line, vertex_lines}
use Rattle.vpg_looks.specs.Looked.{TellsClaims}
use Rattle.vpg_answers.specs.Told.{IsTold, Tells}
use Rattle.vpg_answers.specs.Topics.{Topic, OfPage, OfVertices, OfClaims, places_of, takes_order, topic_of, topic_or}
use Rattle.vpg_answers.specs.declared.topic.Missing.TheVariants as missings
use Rattle.vpg_engine.specs.Answers.{Own, NoVertex, answer_limits, vertex_of, own_text, Asks, verdicts_on}
use Rattle.vpg_engine.specs.Held.{Held}
use Rattle.vpg_engine.specs.Requests.{Continues, Begins, Serves, call_or_missing, first_call, sight_on}
use Rattle.vpg_engine.specs.Line.{Between, begun}
use Rattle.vpg_report.specs.Run.{answering, as_meant}
use Rattle.vpg_engine.specs.Setting.{setting_in}
use Rattle.vpg_report.specs.Winners.{AreTrue, verdict_line, verdict_lines, SaysVerdicts, IsRefusal, NamesWinners, naming, AnswersNameWinners}
use Rattle.vpg_report.proofs.Histories.{Goes, IsSoFar, answered_as, asked, asked_for, nothing_so_far}

-- ---- lines of a text

-- all of some values, if none is missing
all_are : {X : Type 0} (found : List (Option X)) (xs : List X) → all_there found ≡ Some xs → found ≡ map Some xs
all_are [] xs is = let none : [] ≡ xs = cc is in ap (map Some) none
all_are (None ∷ found) xs is = absurd (cc is)
all_are {X} (Some x ∷ found) xs is = go (all_there found) refl is (λ ys. all_are found ys)
  where
    go : (rest : Option (List X)) → all_there found ≡ rest → option_map (λ ys. x ∷ ys) rest ≡ Some xs → ((ys : List X) → all_there found ≡ Some ys → found ≡ map Some ys) → Some x ∷ found ≡ map Some xs
    go None e none are = absurd (cc none)
    go (Some ys) e some are =
        let same : x ∷ ys ≡ xs = cc some in
        ap (λ (r : List (Option X)). Some x ∷ r) (are ys e) ∙ ap (map Some) same

module _ (scene : Scene) (page : List Entry) where
  abbrev hopeful : List ℕ
  hopeful = table_of Hopeful page (length scene.game)

  abbrev dual : List ℕ
  dual = table_of Dual page (length scene.game)

  -- a vertex's verdict by the two tables
  abbrev verdict_by : ℕ → Verdict
  verdict_by v = verdict_of (top_for Hopeful scene.game) (top_for Dual scene.game) (slice_index hopeful v) (slice_index dual v)

  abbrev below : ℕ → List Verdict
  below n = verdicts_below (top_for Hopeful scene.game) (top_for Dual scene.game) hopeful dual n

  below_length : (n : ℕ) → length (below n) ≡ n
  below_length zero = refl
  below_length (suc n) = omega (arith, length-append (below n) (verdict_by n ∷ []), below_length n)

  at_below : (n v : ℕ) → v < n → seen_at (below n) v ≡ verdict_by v
  at_below zero v inside = absurd (omega arith)
  at_below (suc n) v inside = of (cases_lt v n) (at_below n v)
    where
      of : (v < n) ⊎ (n ≤ v) → (v < n → seen_at (below n) v ≡ verdict_by v) → seen_at (below n ++ verdict_by n ∷ []) v ≡ verdict_by v
      of (inl less) before = get_or_append_left (below n) (verdict_by n ∷ []) unseen v (omega (arith, below_length n, less)) ∙ before less
      of (inr more) before =
          let last : v ≡ n = omega (arith, inside, more) in
          let first : v - n ≡ 0 = omega (arith, last) in
          get_or-append_right (below n) (verdict_by n ∷ []) n v unseen (below_length n) more ∙ ap (seen_at (verdict_by n ∷ [])) first ∙ ap verdict_by (sym last)

  at_page : (v : ℕ) → v < length scene.game → seen_at (verdicts_on scene page) v ≡ verdict_by v
  at_page v inside = at_below (length scene.game) v inside

  -- a line of `show`, as the text has it
  abbrev shown_line : ℕ → List ℕ
  shown_line v = vertex_line (top_for Hopeful scene.game) (top_for Dual scene.game) (slice_index scene.identifiers v) (label_of scene.labels v) (slice_index hopeful v) (slice_index dual v)

  abbrev said_line : ℕ → List ℕ
  said_line v = verdict_line scene hopeful dual (verdicts_on scene page) v

  abbrev said_lines : List ℕ → List ℕ
  said_lines vertices = verdict_lines scene hopeful dual (verdicts_on scene page) vertices

  line_is : (v : ℕ) → v < length scene.game → said_line v ≡ shown_line v
  line_is v inside = λ k. decimal (slice_index scene.identifiers v) ++ blank_number (slice_index hopeful v) ++ blank_number (slice_index dual v) ++ hopeless_text (at_page v inside k).hopeless ++ sure_text (at_page v inside k).sure ++ beside (label_of scene.labels v) ++ 10 ∷ []

  range_more : (n : ℕ) → range_with_len 0 (suc n) ≡ range_with_len 0 n ++ n ∷ []
  range_more n =
      let more : suc n ≡ n + 1 = omega arith in
      ap (range_with_len 0) more ∙ sym (map-id (range_with_len 0 (n + 1))) ∙ map-range_with_len_more (λ (k : ℕ). k) 0 n n (omega arith) ∙ ap (λ (l : List ℕ). l ++ n ∷ []) (map-id (range_with_len 0 n))

  range_lines : (n : ℕ) → n ≤ length scene.game → said_lines (range_with_len 0 n) ≡ vertex_lines (top_for Hopeful scene.game) (top_for Dual scene.game) scene.identifiers scene.labels hopeful dual n
  range_lines zero le = refl
  range_lines (suc n) le =
      ap said_lines (range_more n)
      ∙ flat_map-append said_line (range_with_len 0 n) (n ∷ [])
      ∙ (λ k. range_lines n (omega (arith, le)) k ++ (flat_map-cons said_line n [] ∙ append-nil (said_line n) ∙ line_is n le) k)

  -- what `show` writes
  show_says : length scene.identifiers ≡ length scene.game → (answer : Answer) → IsDone (IsShown scene (decisions_of page) hopeful dual) answer → SaysVerdicts scene (script.Looks (script.OfPage page_looks.Show)) (verdicts_on scene page) answer
  show_says sized answer seen =
      let told = seen.1.1.1 in
      let head = decisions_line scene.names (map literal_of (decisions_of page)) ++ codes "full" ++ answer_line told.full ++ codes "settled" ++ answer_line told.settled in (
        head,
        hopeful,
        dual,
        is_done answer _ seen.0 (told.text_is ∙ ap (λ (l : List ℕ). head ++ l)
            (ap (vertex_lines (top_for Hopeful scene.game) (top_for Dual scene.game) scene.identifiers scene.labels hopeful dual) sized ∙ sym (range_lines (length scene.game) (omega arith)))),
      )

  vertex_inside : (named : script.Vertex) (v : ℕ) → vertex_of scene named ≡ Some v → v < length scene.identifiers
  vertex_inside (script.Numbered identifier) v is = (position-Some (λ (n : ℕ). n == identifier) scene.identifiers v 0 is).0
  vertex_inside (script.Named name) v is = absurd (cc is)

  module _ (sized : length scene.identifiers ≡ length scene.game) where
    -- the lines of the vertices that are named
    lines_said : (named : List script.Vertex) (vertices : List ℕ) → map (vertex_of scene) named ≡ map Some vertices → sight_lines scene hopeful dual vertices ≡ said_lines vertices
    lines_said [] [] is = refl
    lines_said [] (v ∷ vertices) is = absurd (cc is)
    lines_said (vertex ∷ named) [] is = absurd (cc is)
    lines_said (vertex ∷ named) (v ∷ vertices) is =
        let here : vertex_of scene vertex ≡ Some v = cc is in
        let rest : map (vertex_of scene) named ≡ map Some vertices = cc is in
        let within = vertex_inside vertex v here in
        flat_map-cons shown_line v vertices
        ∙ (λ k. shown_line v ++ lines_said named vertices rest k)
        ∙ ap (λ (l : List ℕ). l ++ said_lines vertices) (sym (line_is v (omega (arith, within, sized))))
        ∙ sym (flat_map-cons said_line v vertices)

    -- what `show V ..` writes
    named_says : (named : List script.Vertex) (vertices : List ℕ) (answer : Answer) → places_of scene.identifiers named ≡ Some vertices → IsDone (λ text. text ≡ sight_lines scene hopeful dual vertices) answer →
        SaysVerdicts scene (script.Looks (script.OfVertices named)) (verdicts_on scene page) answer
    named_says named vertices answer is seen =
        let are : map (vertex_of scene) named ≡ map Some vertices = all_are (map (vertex_of scene) named) vertices is in
        (vertices, hopeful, dual, are, is_done answer _ seen.0 (seen.1 ∙ lines_said named vertices are))

    -- what `assert V ..` writes
    assert_says : (vertex : script.Vertex) (claims : List Claim) (v : ℕ) (answer : Answer) → vertex_of scene vertex ≡ Some v → TellsClaims scene answer_limits v claims (decisions_of page) hopeful dual answer →
        SaysVerdicts scene (script.Looks (script.OfClaims vertex claims)) (verdicts_on scene page) answer
    assert_says vertex claims v answer is (inl none) = inr (inl none.1)
    assert_says vertex claims v answer is (inr (inl short)) = inr (inr short.1)
    assert_says vertex claims v answer is (inr (inr sees)) =
        let told = sees.1.1.1 in
        let within = vertex_inside vertex v is in
        let inside : v < length scene.game = omega (arith, within, sized) in
        inl (
          v,
          told.settled,
          is,
          told.text_is
              ∙ (λ k. verdicts_answer told.settled ((sym (at_page v inside)) k).hopeless ((sym (at_page v inside)) k).sure claims),
        )

-- ---- the page of a history

module _ (behaviour : Option Behaviour) (scene : Scene) where
  abbrev F : Family
  F = family_of (setting_in scene)

  -- the verdicts on a page
  abbrev TrueOn : List Entry → Type 0
  TrueOn page = AreTrue scene page (verdicts_on scene page)

  by_tables : (history : List Event) → IsSetting (setting_in scene) → IsLegal F history → AllHandIn (IsLawful F) history → (v : ℕ) → v < length scene.game →
      VerdictMeans (setting_in scene) (page_after F history) v (verdict_by scene (page_after F history) v).hopeless (verdict_by scene (page_after F history) v).sure
  by_tables history is_setting legal lawful v inside =
      let page = page_after F history in
      coe 0 1 (k. VerdictMeans (setting_in scene) page v ((sym (table_of-at Hopeful page (length scene.game) v inside)) k == top_for Hopeful scene.game) ((sym (table_of-at Dual page (length scene.game) v inside)) k == top_for Dual scene.game))
      (reply_means (setting_in scene) history is_setting legal lawful v inside (value_at Hopeful v page == top_for Hopeful scene.game) (value_at Dual v page == top_for Dual scene.game) (None, (refl, refl)))

  verdicts_after : (history : List Event) → IsSetting (setting_in scene) → IsLegal F history → AllHandIn (IsLawful F) history → TrueOn (page_after F history)
  verdicts_after history is_setting legal lawful = record {
    size = below_length scene (page_after F history) (length scene.game);
    each = λ v inside.
        coe 0 1 (k. VerdictMeans (setting_in scene) (page_after F history) v ((sym (at_page scene (page_after F history) v inside)) k).hopeless ((sym (at_page scene (page_after F history) v inside)) k).sure)
        (by_tables history is_setting legal lawful v inside);
  }

  -- ---- what is looked at

  page_told : (book : Book) (page : List Entry) → IsReply F book Page (PageIs page) → page ≡ book.present
  page_told book page (None, (refuses, told)) = cc told
  page_told book page (Some r, (refuses, told)) = absurd (cc told)

  -- a look that takes the page
  looked : (book : Book) (held : Held) (made label : ℕ) (look : script.Look) (topic : Topic) → topic_of behaviour scene look ≡ Ok topic → takes_order topic ≡ false →
      (calls : List Event) (answer : Answer) (new : Held) → IsLegalFrom F book calls →
      Begins behaviour scene held made label (script.Looks look) (first_call behaviour scene held (script.Looks look)) calls answer new → IsRefusal answer ⊎ IsTold behaviour scene answer_limits topic (sight_on scene book.present) answer
  looked book held made label look topic of page calls answer new legal so =
      let first : first_call behaviour scene held (script.Looks look) ≡ Ok Page = ap call_or_missing of ∙ ap (λ (b : Bool). Ok (if b then Order else Page)) page in
      replied (asked scene held book made label Page (Continues behaviour scene held (made + 1) label (script.Looks look)) calls answer new legal
      (subst (λ (f : Result Call Own). Begins behaviour scene held made label (script.Looks look) f calls answer new) first so))
    where
      replied : IsRefusal answer ⊎ Goes scene held book label Page (Continues behaviour scene held (made + 1) label (script.Looks look)) answer new →
          IsRefusal answer ⊎ IsTold behaviour scene answer_limits topic (sight_on scene book.present) answer
      replied (inl refusal) = inl refusal
      replied (inr (PageIs seen, rest, told, more, goes)) =
          let same : goes.0.0 ≡ topic = cc (of, goes.0.1.0) in
          let page_is = page_told book seen told in
          inr (coe 0 1 (k. IsTold behaviour scene answer_limits (same k) (sight_on scene (page_is k)) answer) goes.0.1.1)
      replied (inr (Ordered d h u, rest, (None, (refuses, told)), more, goes)) = absurd (cc told)
      replied (inr (Ordered d h u, rest, (Some r, (refuses, told)), more, goes)) = absurd (cc told)
      replied (inr (reply, rest, told, more, goes)) = absurd goes

  -- ---- lines

  -- an answer to `changed`
  changed : (book : Book) (held : Held) (before made label : ℕ) (calls : List Event) (answer : Answer) (new : Held) → IsLegalFrom F book calls → Asks scene held before label Page (Continues behaviour scene held made label script.Changed) calls answer new →
      IsRefusal answer ⊎ SaysVerdicts scene script.Changed (verdicts_on scene book.present) answer
  changed book held before made label calls answer new legal so = compared (asked scene held book before label Page (Continues behaviour scene held made label script.Changed) calls answer new legal so)
    where
      compared : IsRefusal answer ⊎ Goes scene held book label Page (Continues behaviour scene held made label script.Changed) answer new →
          IsRefusal answer ⊎ SaysVerdicts scene script.Changed (verdicts_on scene book.present) answer
      compared (inl refusal) = inl refusal
      compared (inr (PageIs page, rest, told, more, goes)) =
          inr (held.seen, goes.1 ∙ ap (λ (p : List Entry). done (changed_text scene.identifiers scene.labels held.seen (verdicts_on scene p))) (page_told book page told))
      compared (inr (reply, rest, told, more, goes)) = absurd goes

  module _ (sized : length scene.identifiers ≡ length scene.game) (book : Book) (are : TrueOn book.present) (held : Held) (made label : ℕ) where
    abbrev Names : script.Command → Answer → Type 0
    Names command answer = NamesWinners scene book.present command answer

    -- an answer that is no refusal says the verdicts of the page
    by_page : (command : script.Command) (answer : Answer) → IsRefusal answer ⊎ SaysVerdicts scene command (verdicts_on scene book.present) answer → Names command answer
    by_page command answer (inl why) = inl why
    by_page command answer (inr says) = inr (verdicts_on scene book.present, are, says)

    -- a look that takes the page, if it finds what it is about
    looks : {X : Type 0} (look : script.Look) (topic : X → Topic) (found : Option X) (answer : Answer) → topic_of behaviour scene look ≡ topic_or missings.Vertex topic found → ((x : X) → takes_order (topic x) ≡ false) →
        ((x : X) → found ≡ Some x → Tells behaviour scene answer_limits (topic x) (sight_on scene book.present) answer → SaysVerdicts scene (script.Looks look) (verdicts_on scene book.present) answer) →
        (calls : List Event) (new : Held) → IsLegalFrom F book calls → Serves behaviour scene held made (record { label = label; command = script.Looks look }) calls answer new → Names (script.Looks look) answer
    looks look topic None answer is page says calls new legal so =
        inl (own_text NoVertex, (subst (λ (f : Result Call Own). Begins behaviour scene held made label (script.Looks look) f calls answer new) (ap call_or_missing is) so).1)
    looks look topic (Some x) answer is page says calls new legal so = of (looked book held made label look (topic x) is (page x) calls answer new legal so)
      where
        of : IsRefusal answer ⊎ IsTold behaviour scene answer_limits (topic x) (sight_on scene book.present) answer → Names (script.Looks look) answer
        of (inl why) = inl why
        of (inr told) = by_page (script.Looks look) answer (inr (says x refl told.tells))

    names : (command : script.Command) (calls : List Event) (answer : Answer) (new : Held) → IsLegalFrom F book calls → Serves behaviour scene held made (record { label = label; command = command }) calls answer new → Names command answer
    names script.Changed calls answer new legal so = by_page script.Changed answer (changed book held made (made + 1) label calls answer new legal so)
    names (script.Looks (script.OfPage page_looks.Show)) calls answer new legal so =
        looks (script.OfPage page_looks.Show) (λ (one : Unit {0}). OfPage page_looks.Show) (Some tt) answer refl (λ one. refl) (λ one is told. show_says scene book.present sized answer told) calls new legal so
    names (script.Looks (script.OfVertices named)) calls answer new legal so =
        looks (script.OfVertices named) OfVertices (places_of scene.identifiers named) answer refl (λ vertices. refl) (λ vertices is told. named_says scene book.present sized named vertices answer is told) calls new legal so
    names (script.Looks (script.OfClaims vertex claims)) calls answer new legal so =
        looks (script.OfClaims vertex claims) (λ (v : ℕ). OfClaims v claims) (vertex_of scene vertex) answer refl (λ v. refl) (λ v is told. assert_says scene book.present sized vertex claims v answer is told) calls new legal so
    names command calls answer new legal so = by_page command answer (inr tt)

  module _ (sized : length scene.identifiers ≡ length scene.game) (is_setting : IsSetting (setting_in scene)) (lifters : ℕ) where
    names_next : (old : Between) (request : Request) (answer : Answer) (new : Between) → (before : List Event) × IsSoFar scene old before → answering behaviour scene lifters old request answer new →
        ((now : List Event) × IsSoFar scene new now) × naming behaviour scene lifters old request answer new
    names_next old request answer new (before, here) so =
        let next = asked_for behaviour scene lifters old before request answer new here so in
        let are : TrueOn old.book.present = subst (λ (b : Book). TrueOn b.present) (sym here.leaves) (verdicts_after before is_setting here.legal here.lawful) in
        ((next.0, next.1), (so, names sized old.book are old.held old.calls request.label request.command so.0.0 answer new.held so.0.1.1 so.0.1.0))

pub answers_name_winners : AnswersNameWinners
answers_name_winners meaning behaviour labels game diagram lifters lines answers new opens answered =
    let scene : Scene = scene_of labels game diagram in
    answered_as (as_meant meaning (answering behaviour scene lifters)) (as_meant meaning (naming behaviour scene lifters)) (λ (old : Between). (before : List Event) × IsSoFar scene old before)
    (λ old request. names_next behaviour scene (length-map game.vertices _ ∙ sym (length-map game.vertices unnamed)) opens.is_setting lifters old (meaning request)) begun lines answers new ([], nothing_so_far scene) answered

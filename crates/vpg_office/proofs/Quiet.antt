-- Entries that raise no value to the top change no verdict, and neither does a call after which the pages agree.
use Rattle.std.proofs.Common.{◌≡◌, ◌⊎◌, ℕ, ◌+◌, ◌<◌, ◌≤◌, ◌==◌, nat_le, max, cond, Bool, true, false, ◌&&◌, ◌||◌, List, [], ◌∷◌, ◌++◌, length, map, take, drop, get_or, None, Some, refl, sym, ap, ◌∙◌, inl, inr, arith, ne_eqb, append-nil, length-append}
use Rattle.std.specs.List.{list_any}
use Rattle.std.proofs.Math.Seq.{drop-append_seam}
use Rattle.std.proofs.lemmas.Bool.{cases_lt, false≢true, leb-false, or_parts}
use Rattle.std.proofs.lemmas.List.{drop-map}
use Rattle.std.proofs.lemmas.List.Folds.{list_any_more}
use Rattle.vpg_diagram.specs.DiagramText.{NamedDiagram}
use Rattle.vpg_game.specs.Game.{NamedGame}
use Rattle.vpg_sides.specs.declared.verdict.Verdict.{Verdict as Said}
use Rattle.vpg_trail.specs.Page.{Which, Hopeful, Dual, Entry, Decided, Lifted, same_table, value_at}
use Rattle.vpg_trail.specs.Shown.{entry_of}
use Rattle.vpg_trail.specs.declared.entry.Entry.{Entry as Written}
use Rattle.vpg_trail.proofs.PageLemmas.{value_at-append}
use Rattle.vpg_desk.specs.Book.{Family, Book, Reply, Verdict, VerdictIs, IsReply, after, next, is_refusal, decision, raises_of}
use Rattle.vpg_desk.specs.Commit.{handed_in}
use Rattle.vpg_desk.specs.Desk.{family_of}
use Rattle.vpg_desk.specs.State.{DeskState, setting_of, setting_between}
use Rattle.vpg_office.specs.Made.{IsMade}
use Rattle.vpg_office.specs.Sheets.{AreSaid}
use Rattle.vpg_office.specs.Story.{call_of, is_ours, reply_of}
use Rattle.vpg_office.specs.Told.{AgreeOnTops, AreAlike, AreVerdictsOf, Leads, only_appends, raises_to_top}
use Rattle.vpg_office.specs.declared.alike.Alike.{Alike}
use Rattle.vpg_office.specs.declared.asked.Answer.{Answer}
use Rattle.vpg_office.specs.declared.asked.SessionCall.{SessionCall}
use Rattle.vpg_office.specs.declared.asked.SessionCall.TheVariants as ask

-- ---- one of many

pub any_not_yet : {X : Type 0} (test : X → Bool) (xs : List X) (i : ℕ) (x : X) → i < length xs → x ≡ get_or xs i x → list_any test (take i xs) ≡ false → test x ≡ false → list_any test (take (i + 1) xs) ≡ false
any_not_yet test xs i x less is none fails = list_any_more test xs i x less ∙ ap (λ (b : Bool). b || test (get_or xs i x)) none ∙ ap test (sym is) ∙ fails

pub any_map : (test : Entry → Bool) (entries : List Written) → list_any test (map entry_of entries) ≡ list_any (λ e. test (entry_of e)) entries
any_map test [] = refl
any_map test (e ∷ entries) = ap (λ (b : Bool). test (entry_of e) || b) (any_map test entries)

-- ---- values

picked : (family : Family) (which table : Which) (b : Bool) (new rest : ℕ) → new < family.top table → (rest ≡ 0) ⊎ (rest < family.top which) →
    (max (cond (same_table which table && b) new 0) rest ≡ 0) ⊎ (max (cond (same_table which table && b) new 0) rest < family.top which)
picked family Hopeful Hopeful true new rest less few = grind arith
picked family Hopeful Hopeful false new rest less few = grind arith
picked family Dual Dual true new rest less few = grind arith
picked family Dual Dual false new rest less few = grind arith
picked family Hopeful Dual b new rest less few = grind arith
picked family Dual Hopeful b new rest less few = grind arith

below_top : (family : Family) (which : Which) (v : ℕ) (entries : List Entry) → list_any (raises_to_top family) entries ≡ false → (value_at which v entries ≡ 0) ⊎ (value_at which v entries < family.top which)
below_top family which v [] quiet = inl refl
below_top family which v (Decided d ∷ entries) quiet = below_top family which v entries quiet
below_top family which v (Lifted l ∷ entries) quiet =
    let both = or_parts (nat_le (family.top l.table) l.new) (list_any (raises_to_top family) entries) quiet in
    picked family which l.table (v == l.vertex) l.new (value_at which v entries) (leb-false (family.top l.table) l.new both.0) (below_top family which v entries both.1)

same_verdict : (x y top : ℕ) → (y ≡ 0) ⊎ (y < top) → (max x y == top) ≡ (x == top)
same_verdict x y top (inl none) = ap (λ (n : ℕ). n == top) (omega (arith, none))
same_verdict x y top (inr less) = go (cases_lt x y)
  where
    go : (x < y) ⊎ (y ≤ x) → (max x y == top) ≡ (x == top)
    go (inl under) = ne_eqb (max x y) top (λ e. omega (arith, e, less, under)) ∙ sym (ne_eqb x top (λ e. omega (arith, e, less, under)))
    go (inr over) = ap (λ (n : ℕ). n == top) (omega (arith, over))

-- ---- verdicts

still_said : (family : Family) (old new : Book) (v : ℕ) (said : Said) → AgreeOnTops family old.present new.present → IsReply family old (Verdict v) (VerdictIs said.hopeless said.sure) →
    IsReply family new (Verdict v) (VerdictIs said.hopeless said.sure)
still_said family old new v said agree (Some r, (refuses, told)) = absurd (cc refuses)
still_said family old new v said agree (None, (refuses, told)) = (None, (refl, told ∙ (λ k. VerdictIs (agree Hopeful v k) (agree Dual v k))))

quiet_agrees : (family : Family) (old new tail : List Entry) → new ≡ old ++ tail → list_any (raises_to_top family) tail ≡ false → AgreeOnTops family old new
quiet_agrees family old new tail is quiet = λ which v. sym (
    ap (λ (page : List Entry). value_at which v page == family.top which) is ∙ ap (λ (n : ℕ). n == family.top which) (value_at-append which v old tail)
    ∙ same_verdict (value_at which v old) (value_at which v tail) (family.top which) (below_top family which v tail quiet)
    )

-- ---- calls

puts : (family : Family) (book : Book) (session : ℕ) (asked : SessionCall) (answer : Answer) → only_appends asked ≡ true → (tail : List Entry) × ((after family book session (call_of asked answer)).present ≡ book.present ++ tail)
puts family book session (ask.Decide f value) answer is = (decision book session f value ∷ [], refl)
puts family book session (ask.Retract f) answer is = absurd (false≢true is)
puts family book session ask.Reset answer is = absurd (false≢true is)
puts family book session (ask.Undo s) answer is = absurd (false≢true is)
puts family book session (ask.Redo s) answer is = absurd (false≢true is)
puts family book session (ask.Commit harvest) answer is = (raises_of family (handed_in (is_ours answer) harvest.value) book.present, refl)
puts family book session _ answer is = ([], sym (append-nil book.present))

appended : (family : Family) (book : Book) (session : ℕ) (asked : SessionCall) (answer : Answer) (reply : Reply) → only_appends asked ≡ true → (tail : List Entry) × ((next family book session (call_of asked answer) reply).present ≡ book.present ++ tail)
appended family book session asked answer reply is = go (is_refusal reply)
  where
    go : (b : Bool) → (tail : List Entry) × ((cond b book (after family book session (call_of asked answer))).present ≡ book.present ++ tail)
    go true = ([], sym (append-nil book.present))
    go false = puts family book session asked answer is

-- a call that only appends entries
module _ (family : Family) (old new : Book) (asked : SessionCall) (answer : Answer) (is : only_appends asked ≡ true) (leads : Leads family old asked answer new) where
  tail : (tail : List Entry) × (new.present ≡ old.present ++ tail)
  tail =
      let t = appended family old leads.0 asked answer (reply_of family old.present answer) is in
      (t.0, ap (λ (b : Book). b.present) leads.1.1 ∙ t.1)

  -- the page has the entries of the page before
  pub no_shorter : length old.present ≤ length new.present
  no_shorter = omega (arith, ap length tail.1, length-append old.present tail.0)

  -- and if none of the others raises a value to the top, the same values are the top
  pub put_agrees : list_any (raises_to_top family) (drop (length old.present) new.present) ≡ false → AgreeOnTops family old.present new.present
  put_agrees quiet =
      let others : drop (length old.present) new.present ≡ tail.0 = ap (drop (length old.present)) tail.1 ∙ drop-append_seam old.present tail.0 in
      quiet_agrees family old.present new.present tail.0 tail.1 (ap (list_any (raises_to_top family)) (sym others) ∙ quiet)

module _ {game : NamedGame} {diagram : NamedDiagram} {old new : DeskState} {session : ℕ} {asked : SessionCall} {answer : Answer} (made : IsMade game diagram old session asked answer new) where
  family_is : family_of (setting_of new) ≡ family_of (setting_of old)
  family_is = λ k. family_of (setting_between (made.step.game k) (made.step.diagram k))

  pub made_leads : Leads (family_of (setting_of new)) old.book asked answer new.book
  made_leads = coe 0 1 (k. Leads ((sym family_is) k) old.book asked answer new.book) (session, made.step.step)

  pub alike_before : {alike : Alike} → AreAlike (family_of (setting_of old)) old.book alike → AreAlike (family_of (setting_of new)) old.book alike
  alike_before {alike} near = coe 0 1 (k. AreAlike ((sym family_is) k) old.book alike) near

  -- where the pages agree, each verdict stays
  pub still : (verdicts : List Said) → AgreeOnTops (family_of (setting_of new)) old.book.present new.book.present → AreVerdictsOf old verdicts → AreVerdictsOf new verdicts
  still verdicts agree are =
      let each : AreSaid (family_of (setting_of new)) old.book verdicts = coe 0 1 (k. AreSaid ((sym family_is) k) old.book verdicts) are.each in
      record {
        size = are.size ∙ ap (λ (g : NamedGame). length g.vertices) (sym made.step.game);
        each = λ v said at. still_said (family_of (setting_of new)) old.book new.book v said agree (each v said at);
      }

-- ---- the entries that a desk lends

-- none of the last ones raises a value to the top
pub none_of_last : (family : Family) (n : ℕ) (entries : List Written) (present : List Entry) → map entry_of entries ≡ present → list_any (λ e. raises_to_top family (entry_of e)) (drop n entries) ≡ false →
    list_any (raises_to_top family) (drop n present) ≡ false
none_of_last family n entries present is quiet =
    ap (λ (l : List Entry). list_any (raises_to_top family) (drop n l)) (sym is) ∙ ap (list_any (raises_to_top family)) (drop-map entry_of n entries) ∙ any_map (raises_to_top family) (drop n entries) ∙ quiet

-- What a call of the desk means for the log.
use Rattle.std.proofs.Common.{Result, Ok, Err, IfOk, ◌≡◌, ℕ, ◌+◌, ◌<◌, ◌≤◌, List, [], ◌∷◌, ◌++◌, length, drop, Option, Some, None, IfSome, refl, sym, ap, ◌∙◌, subst, arith, append_assoc, length-append, eq-eqb}
use Rattle.std.proofs.Math.Seq.{drop-append_seam}
use Rattle.std.specs.Prelude.{IfNone, OnOk, IsTrue}
use mathlib.Core.List.{IsPrefix}
use Rattle.boxcar.specs.Table.{Shelves}
use Rattle.vpg_diagram.specs.DiagramText.{NamedDiagram}
use Rattle.vpg_game.specs.Game.{NamedGame}
use Rattle.vpg_trail.specs.Page.{Entry as Step}
use Rattle.vpg_desk.specs.Book as book
use Rattle.vpg_desk.specs.Book.{Family, Book, Call, Reply, Page, PageIs, opened, next, IsReply}
use Rattle.vpg_faults.specs.declared.refusal.Refusal.{Refusal}
use Rattle.vpg_desk.specs.Desk.{family_of}
use Rattle.vpg_desk.specs.History.{Event, book_after, gives_undo}
use Rattle.vpg_desk.specs.Lawful.{HandsIn, IsLawful}
use Rattle.vpg_desk.specs.State.{DeskState, IsStep, Replies, setting_of}
use Rattle.vpg_desk.proofs.Tokens.{counts_are_limited}
use Rattle.vpg_office.specs.Faults.{Stops, StandsFor, RefusedFor, TellsOf, Begins, logged}
use Rattle.vpg_office.specs.Fronts.{IsHistory, Extends, calls_by, event, family_between}
use Rattle.vpg_office.specs.Kept.{HasOwn, IsChronicle}
use Rattle.vpg_office.specs.Locked.{IsLog}
use Rattle.vpg_office.specs.Made.{IsEntered, IsLast, IsRefused, Leaves}
use Rattle.vpg_office.specs.Story.{IsNamed, call_of, reply_of}
use Rattle.vpg_office.specs.declared.asked.Answer.{Answer}
use Rattle.vpg_office.specs.declared.asked.Answer.TheVariants.{Changed, Refused}
use Rattle.vpg_office.specs.declared.asked.SessionCall.{SessionCall}
use Rattle.vpg_office.specs.declared.chronicle.Chronicle.{Chronicle}
use Rattle.vpg_office.specs.declared.front.Own.{Own}
use Rattle.vpg_office.specs.declared.fault.Fault.{Fault}
use Rattle.vpg_office.specs.declared.fault.Fault.TheVariants.{LogFull, Doubled, Refused as DeskRefuses, Memory}
use Rattle.vpg_office.proofs.Stories.{book_more}

pub then_some : {A : Type 0} (o : Option A) (P Q : A → Type 0) → ((a : A) → P a → Q a) → IfSome o P → IfSome o Q
then_some (Some a) P Q so h = so a h
then_some None P Q so h = tt

-- the desk's own refusal is one call of the log
one_logged : {L F : Type 0} (refusal : F → Option Refusal) (r : Refusal) (told : Fault L F) → StandsFor refusal r told → logged told ≡ 1
one_logged refusal r (DeskRefuses fault) s = refl
one_logged refusal r _ s = absurd s

-- what comes after a beginning
rest_of : (front log : List Event) (p : IsPrefix front log) → drop (length front) log ≡ p.0
rest_of front log p = ap (drop (length front)) (sym p.1) ∙ drop-append_seam front p.0

pub prefix_more : (h log new : List Event) (e : Event) → IsPrefix h log → new ≡ log ++ e ∷ [] → IsPrefix h new
prefix_more h log new e p is = (p.0 ++ e ∷ [], sym (append_assoc h p.0 (e ∷ [])) ∙ (ap (λ (l : List Event). l ++ e ∷ []) p.1 ∙ sym is))

-- of two beginnings of one list the shorter begins the longer
pub prefix_shorter : (xs ys zs : List Event) → IsPrefix xs zs → IsPrefix ys zs → length xs ≤ length ys → IsPrefix xs ys
prefix_shorter [] ys zs p q le = (ys, refl)
prefix_shorter (x ∷ xs) [] zs p q le = absurd (omega arith)
prefix_shorter (x ∷ xs) (y ∷ ys) [] p q le = absurd (cc (p.1))
prefix_shorter (x ∷ xs) (y ∷ ys) (z ∷ zs) p q le =
    let rest = prefix_shorter xs ys zs (p.0, cc (p.1)) (q.0, cc (q.1)) (omega arith) in
    (rest.0, cc (p.1, q.1, rest.1))

pub kept_history : (row : Shelves) (game : NamedGame) (diagram : NamedDiagram) (c : Chronicle) (newest : List Event) → IsChronicle row game diagram c newest → IsHistory (family_between game diagram) newest
kept_history row game diagram c newest kept = subst (IsHistory (family_between game diagram)) (sym kept.newest_is) kept.is_story.history

-- a call that was made extends the front
pub entered_extends : {family : Family} {log front : List Event} {session : ℕ} {call : Call} {reply : Reply} {new : List Event} → IsPrefix front log → IsEntered family log front session call reply new → Extends family front session call reply new
entered_extends {family} {log} {front} {session} {call} {reply} p e = record {
  between = p.0;
  is = e.is ∙ ap (λ (l : List Event). l ++ event session call reply ∷ []) (sym p.1);
  none = ap (calls_by session) (sym (rest_of front log p)) ∙ e.none;
  history = e.history;
}

-- after it the log has the front of the call's token
pub entered_begins : {T E L : Type 0} (family : Family) (log front : List Event) (session : ℕ) (call : Call) (new : List Event) (r : Result T E) (own : Option (Own L)) (reply : T → Reply) → IfSome own (HasOwn log) →
    IfOk r (λ t. IsEntered family log front session call (reply t) new) → OnOk r (IfSome own (λ o. IsPrefix o.front new))
entered_begins family log front session call new (Ok t) own reply has e =
    then_some own (HasOwn log) (λ o. IsPrefix o.front new) (λ o h. prefix_more o.front log new (event session call (reply t)) h.0 e.is) has
entered_begins family log front session call new (Err e) own reply has h = tt

-- a last call that leaves the book
pub last_leaves : {L : Type 0} {family : Family} {own : Option (Own L)} {book : Book} {call : Call} {reply : Reply} {front : List Event} (last : IsLast family own book call reply front) →
    next family (book_after family opened last.log) last.session call reply ≡ book_after family opened last.log → book_after family opened front ≡ book
last_leaves {family = family} {call = call} {reply = reply} last stays = ap (book_after family opened) last.is ∙ book_more family last.log (event last.session call reply) ∙ stays ∙ sym last.leaves

pub stops_tell : {L F : Type 0} (family : Family) (limit : ℕ) (refusal : F → Option Refusal) (Means : Refusal → Type 0) (session : ℕ) (front newest : List Event) (f : Fault L F) → IsPrefix front newest → IsHistory family newest →
    Stops limit front session newest f → TellsOf family limit refusal Means session front front f
stops_tell family limit refusal Means session front newest (LogFull g) p h s =
    (refl, subst (λ (l : List Event). IsPrefix front l) (sym s.0) p, ap length s.0 ∙ (omega (arith, s.1, s.2)), subst (IsHistory family) (sym s.0) h)
stops_tell family limit refusal Means session front newest (Doubled g) p h s =
    (refl, subst (λ (l : List Event). length l < limit) (sym s.0) s.1, record { between = p.0; is = s.0 ∙ sym p.1; some = subst (λ (l : List Event). 0 < calls_by session l) (rest_of front newest p) s.2; history = subst (IsHistory family) (sym s.0) h })
stops_tell family limit refusal Means session front newest (DeskRefuses fault) p h s = absurd s
stops_tell family limit refusal Means session front newest Memory p h s = refl

module _ {row : Shelves} {game : NamedGame} {diagram : NamedDiagram} {limit : ℕ} {chronicle : Chronicle} {newest : List Event} {desk : DeskState} {room total left : ℕ} {shown : List Event}
    (i : IsLog row game diagram limit chronicle newest desk room total left shown) where
  abbrev F : Family
  F = family_between game diagram

  -- the desk's reply is that of the log's book
  pub told_here : (call : Call) (reply : Reply) → Replies desk call reply → IsReply F (book_after F opened newest) call reply
  told_here call reply r = coe 0 1 (k. IsReply (family_between (i.replay.of_game k) (i.replay.of_diagram k)) (i.replay.book k) call reply) r

  pub reply_here : (asked : SessionCall) (answer : Answer) → Replies desk (call_of asked answer) (reply_of (family_of (setting_of desk)) desk.book.present answer) →
      IsReply F (book_after F opened newest) (call_of asked answer) (reply_of F (book_after F opened newest).present answer)
  reply_here asked answer r =
      coe 0 1 (k. IsReply (family_between (i.replay.of_game k) (i.replay.of_diagram k)) (i.replay.book k) (call_of asked answer) (reply_of (family_between (i.replay.of_game k) (i.replay.of_diagram k)) (i.replay.book k).present answer)) r

  pub leaves : (session : ℕ) (call : Call) (reply : Reply) → next (family_of (setting_of desk)) desk.book session call reply ≡ book_after F opened (newest ++ event session call reply ∷ [])
  leaves session call reply = (λ k. next (family_between (i.replay.of_game k) (i.replay.of_diagram k)) (i.replay.book k) session call reply) ∙ sym (book_more F newest (event session call reply))

  pub log_history : IsHistory F newest
  log_history = kept_history row game diagram chronicle newest i.replay.kept

  pub seen_here : {log : List Event} (front : List Event) → newest ≡ log → IsPrefix front log → IsPrefix front newest
  seen_here {log} front is p = subst (λ (l : List Event). IsPrefix front l) (sym is) p

  -- there is a share for one token more
  pub few_tokens : total ≤ 1048576
  few_tokens =
      let h = counts_are_limited F newest (kept_history row game diagram chronicle newest i.replay.kept).legal in
      omega (arith, i.counted, ap (λ (b : Book). b.tokens) i.replay.book, h.0, h.1)

  -- a call was taken in
  pub admitted : {after : Chronicle} {new : List Event} {room_after left_after : ℕ} → new ≡ newest → room_after ≡ room → left_after ≡ left → IsChronicle row game diagram after new →
      IsLog row game diagram limit after new desk room_after total left_after shown
  admitted same fits all kept = record {
    replay = record {
      kept = kept;
      of_game = i.replay.of_game;
      of_diagram = i.replay.of_diagram;
      book = i.replay.book ∙ ap (book_after F opened) (sym same);
      most = fits ∙ i.replay.most;
      few = subst (λ n. n ≤ 1048576) (sym fits) i.replay.few;
    };
    counted = i.counted;
    untaken = omega (arith, i.untaken, all, ap length same);
    published = subst (λ (l : List Event). IsPrefix shown l) (sym same) i.published;
  }

  -- a log that takes a call has a part for it, beside the one that is always left
  pub more_left : {new : List Event} {left_after : ℕ} → new ≡ newest → left_after ≡ left → length new < limit → 1 < left_after
  more_left same all fits = omega (arith, i.untaken, i.replay.most, i.replay.few, all, ap length same, fits)

  pub log_after : (after : Chronicle) (new : List Event) (room_after : ℕ) (desk_after : DeskState) (total_after left_after : ℕ) (session : ℕ) (call : Call) (reply : Reply) → IsChronicle row game diagram after new →
      new ≡ newest ++ event session call reply ∷ [] → room_after ≡ room → desk_after.game ≡ desk.game → desk_after.diagram ≡ desk.diagram → desk_after.book ≡ next (family_of (setting_of desk)) desk.book session call reply →
      total_after ≡ desk_after.book.tokens → left_after + 1 ≡ left → IsLog row game diagram limit after new desk_after room_after total_after left_after shown
  log_after after new room_after desk_after total_after left_after session call reply kept is fits g d b t one = record {
    replay = record {
      kept = kept;
      of_game = g ∙ i.replay.of_game;
      of_diagram = d ∙ i.replay.of_diagram;
      book = b ∙ leaves session call reply ∙ ap (book_after F opened) (sym is);
      most = fits ∙ i.replay.most;
      few = subst (λ n. n ≤ 1048576) (sym fits) i.replay.few;
    };
    counted = t;
    untaken = omega (arith, i.untaken, one, ap length is, length-append newest (event session call reply ∷ []));
    published = prefix_more shown newest new (event session call reply) i.published is;
  }

  -- after a call that the desk made
  pub log_made : (after : Chronicle) (new : List Event) (room_after : ℕ) (desk_after : DeskState) (total_after left_after session : ℕ) (asked : SessionCall) (answer : Answer) → IsChronicle row game diagram after new →
      new ≡ newest ++ event session (call_of asked answer) (reply_of F (book_after F opened newest).present answer) ∷ [] → room_after ≡ room →
      IsStep desk session (call_of asked answer) (reply_of (family_of (setting_of desk)) desk.book.present answer) desk_after → total_after ≡ desk_after.book.tokens → left_after + 1 ≡ left →
      IsLog row game diagram limit after new desk_after room_after total_after left_after shown
  log_made after new room_after desk_after total_after left_after session asked answer kept is fits step t one =
      let same : reply_of (family_of (setting_of desk)) desk.book.present answer ≡ reply_of F (book_after F opened newest).present answer = λ k. reply_of (family_between (i.replay.of_game k) (i.replay.of_diagram k)) (i.replay.book k).present answer in
      log_after after new room_after desk_after total_after left_after session (call_of asked answer) (reply_of F (book_after F opened newest).present answer) kept is fits step.game step.diagram
      (step.step.1 ∙ ap (next (family_of (setting_of desk)) desk.book session (call_of asked answer)) same) t one

  -- after the desk's refusal, or where memory ran out
  pub log_refused : {L F : Type 0} (refusal : F → Option Refusal) (why : Option Refusal) (session : ℕ) (asked : SessionCall) (told : Fault L F) (front front_after : List Event) (after : Chronicle) (new : List Event) (room_after : ℕ) (desk_after : DeskState) (total_after left_after : ℕ) →
      left_after + logged told ≡ left → desk_after ≡ desk → total_after ≡ desk_after.book.tokens → room_after ≡ room → IsChronicle row game diagram after new →
      IfNone why ((told ≡ Memory) × (front_after ≡ front) × (new ≡ newest)) →
      IfSome why (λ r. StandsFor refusal r told × (front_after ≡ new) × (new ≡ newest ++ event session (call_of asked (Refused r)) (book.Refused r) ∷ [])) →
      IsLog row game diagram limit after new desk_after room_after total_after left_after shown
  log_refused {L} {F} refusal None session asked told front front_after after new room_after desk_after total_after left_after untaken same t fits kept none some =
      let count : total_after ≡ total = t ∙ (λ k. (same k).book.tokens) ∙ sym i.counted in
      let all : left_after + logged {L = L} {F = F} Memory ≡ left = subst (λ (f : Fault L F). left_after + logged f ≡ left) none.0 untaken in
      coe 0 1 (k. IsLog row game diagram limit after new ((sym same) k) room_after ((sym count) k) left_after shown) (admitted none.2 fits (omega (arith, all)) kept)
  log_refused {L} {F} refusal (Some r) session asked told front front_after after new room_after desk_after total_after left_after untaken same t fits kept none some =
      let one : left_after + 1 ≡ left = subst (λ (n : ℕ). left_after + n ≡ left) (one_logged refusal r told some.0) untaken in
      log_after after new room_after desk_after total_after left_after session (call_of asked (Refused r)) (book.Refused r) kept some.2 fits
      (λ k. (same k).game) (λ k. (same k).diagram) (λ k. (same k).book) t one

-- a page has the entries of the desk's present page
pub page_is : (state : DeskState) (entries : List Step) → Replies state Page (PageIs entries) → entries ≡ state.book.present
page_is state entries (None, (refuses, told)) = cc told
page_is state entries (Some r, (refuses, told)) = absurd (cc told)

-- what the desk's own fault leaves
leaves_refused : {L F : Type 0} (game : NamedGame) (diagram : NamedDiagram) (limit : ℕ) (refusal : F → Option Refusal) (log front : List Event) (session : ℕ) (asked : SessionCall) (new : List Event) (r : Refusal) (told : Fault L F) → StandsFor refusal r told →
    IsNamed game diagram asked (Refused r) → IsEntered (family_between game diagram) log front session (call_of asked (Refused r)) (book.Refused r) new → Leaves game diagram limit refusal log front session asked new told
leaves_refused game diagram limit refusal log front session asked new r (DeskRefuses fault) s named entered = (r, (s, (named, entered)))
leaves_refused game diagram limit refusal log front session asked new r _ s named entered = absurd s

-- what the desk's refusal leaves
pub refused_leaves : {L F : Type 0} {row : Shelves} {game : NamedGame} {diagram : NamedDiagram} {chronicle : Chronicle} {new : List Event} (kept : IsChronicle row game diagram chronicle new)
    (asked : SessionCall) (session : ℕ) (front front_after newest : List Event) (desk : DeskState) (limit : ℕ) (refusal : F → Option Refusal) (told : Fault L F) (why : Option Refusal) → IsHistory (family_between game diagram) newest →
    calls_by session (drop (length front) newest) ≡ 0 → IfSome why (IsRefused game diagram desk asked) →
    IfNone why ((told ≡ Memory) × (front_after ≡ front) × (new ≡ newest)) →
    IfSome why (λ r. StandsFor refusal r told × (front_after ≡ new) × (new ≡ newest ++ event session (call_of asked (Refused r)) (book.Refused r) ∷ [])) →
    Leaves game diagram limit refusal newest front session asked front_after told
refused_leaves {L} {F} {row} {game} {diagram} {chronicle} {new} kept asked session front front_after newest desk limit refusal told None h alone refused none some =
    subst (λ (f : Fault L F). Leaves game diagram limit refusal newest front session asked front_after f) (sym none.0) (none.1, (h, tt))
refused_leaves {L} {F} {row} {game} {diagram} {chronicle} {new} kept asked session front front_after newest desk limit refusal told (Some r) h alone refused none some =
    leaves_refused game diagram limit refusal newest front session asked front_after r told some.0 refused.named
    (record { is = some.1 ∙ some.2; none = alone; history = subst (IsHistory (family_between game diagram)) (sym some.1) (kept_history row game diagram chronicle new kept) })

-- what is left where a call isn't taken in
pub stops_leave : {L F : Type 0} (game : NamedGame) (diagram : NamedDiagram) (limit : ℕ) (refusal : F → Option Refusal) (log front : List Event) (session : ℕ) (asked : SessionCall) (f : Fault L F) → IsHistory (family_between game diagram) log →
    Stops limit front session log f → Leaves game diagram limit refusal log front session asked front f
stops_leave game diagram limit refusal log front session asked (DeskRefuses fault) h s = absurd s
stops_leave game diagram limit refusal log front session asked _ h s = (refl, (h, s))

-- what a call that gives nothing tells
pub leaves_tells : {L F : Type 0} (game : NamedGame) (diagram : NamedDiagram) (limit : ℕ) (refusal : F → Option Refusal) (log front : List Event) (session : ℕ) (asked : SessionCall) (new : List Event) (f : Fault L F) → IsPrefix front log →
    Leaves game diagram limit refusal log front session asked new f → TellsOf (family_between game diagram) limit refusal (λ r. Extends (family_between game diagram) front session (call_of asked (Refused r)) (book.Refused r) new) session front new f
leaves_tells {L} {F} game diagram limit refusal log front session asked new (LogFull g) p l =
    let s = stops_tell {L = L} {F = F} (family_between game diagram) limit refusal (λ r. ⊥) session front log (LogFull g) p l.1.0 l.1.1 in
    (l.0, s.1, s.2, s.3)
leaves_tells {L} {F} game diagram limit refusal log front session asked new (Doubled g) p l =
    let s = stops_tell {L = L} {F = F} (family_between game diagram) limit refusal (λ r. ⊥) session front log (Doubled g) p l.1.0 l.1.1 in
    (l.0, s.1, s.2)
leaves_tells game diagram limit refusal log front session asked new (DeskRefuses fault) p (r, (why, (named, entered))) = (r, (why, entered_extends p entered))
leaves_tells game diagram limit refusal log front session asked new Memory p l = l.0

-- what the desk's refusal says of the call
pub leaves_names : {L F : Type 0} (game : NamedGame) (diagram : NamedDiagram) (limit : ℕ) (refusal : F → Option Refusal) (log front : List Event) (session : ℕ) (asked : SessionCall) (new : List Event) (f : Fault L F) →
    Leaves game diagram limit refusal log front session asked new f → RefusedFor refusal (λ r. IsNamed game diagram asked (Refused r)) f
leaves_names game diagram limit refusal log front session asked new (DeskRefuses fault) (r, (why, (named, entered))) = λ q is.
    let same : Some r ≡ Some q = sym why ∙ is in
    subst (λ (x : Refusal). IsNamed game diagram asked (Refused x)) (cc same) named
leaves_names game diagram limit refusal log front session asked new _ l = tt

-- and of a token's history
pub leaves_begins : {L F : Type 0} (game : NamedGame) (diagram : NamedDiagram) (limit : ℕ) (refusal : F → Option Refusal) (log front : List Event) (session : ℕ) (asked : SessionCall) (new history : List Event) (f : Fault L F) → IsPrefix history log →
    Leaves game diagram limit refusal log front session asked new f → Begins history new f
leaves_begins game diagram limit refusal log front session asked new history (DeskRefuses fault) p (r, (why, (named, entered))) =
    prefix_more history log new (event session (call_of asked (Refused r)) (book.Refused r)) p entered.is
leaves_begins game diagram limit refusal log front session asked new history _ p l = tt

-- the desk's refusal of a call that its answer doesn't change
pub refused_is : (game : NamedGame) (diagram : NamedDiagram) (desk : DeskState) (asked : SessionCall) (call : Call) (why : Option Refusal) →
    ((r : Refusal) → call_of asked (Refused r) ≡ call) → ((r : Refusal) → HandsIn (IsLawful (family_between game diagram)) (call_of asked (Refused r)) × IsNamed game diagram asked (Refused r)) →
    IfSome why (λ r. Replies desk call (book.Refused r)) → IfSome why (IsRefused game diagram desk asked)
refused_is game diagram desk asked call None of free replies = tt
refused_is game diagram desk asked call (Some r) of free replies =
    record { told = coe 0 1 (k. Replies desk ((sym (of r)) k) (book.Refused r)) replies; hands = (free r).0; named = (free r).1 }

-- a change gives its undo
pub changed_fits : (family : Family) (page : List Step) (token : ℕ) (answer : Answer) → answer ≡ Changed token → IsTrue (gives_undo token (reply_of family page answer))
changed_fits family page token answer is = subst (λ (a : Answer). IsTrue (gives_undo token (reply_of family page a))) (sym is) (eq-eqb token token refl)

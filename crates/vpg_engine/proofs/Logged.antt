-- What a session's call tells a client: its front has grown by that call alone.
use Rattle.std.proofs.Common.{◌≡◌, ℕ, ◌+◌, ◌-◌, ◌<◌, ◌≤◌, Bool, true, List, [], ◌∷◌, ◌++◌, length, take, Option, refl, sym, ap, ◌∙◌, subst, arith, length-append, append-nil, inl, inr}
use mathlib.Core.List.{IsPrefix}
use Rattle.std.specs.Bool.{Decides}
use Rattle.std.specs.Prelude.{not, slice_index_or, slice_set, Result, Ok, Err, IfOk, IfErr, OnOk, MatchResult}
use Rattle.std.proofs.lemmas.List.{get_or_read}
use Rattle.std.proofs.lemmas.Result.{IfOk-at_ok}
use Rattle.vpg_diagram.specs.DiagramText.{NamedDiagram}
use Rattle.vpg_game.specs.Game.{NamedGame}
use Rattle.vpg_measure.specs.Orders.{HarvestView}
use Rattle.vpg_desk.specs.Book as book
use Rattle.vpg_desk.specs.Book.{Family, Call, Reply, Commit, opened}
use Rattle.vpg_faults.specs.declared.refusal.Refusal.{Refusal}
use Rattle.vpg_desk.specs.Commit.{handed_in}
use Rattle.vpg_faults.specs.Refusals.{commit_refusal}
use Rattle.vpg_faults.specs.declared.fault.CommitFault.{CommitFault}
use Rattle.vpg_desk.specs.History.{Event, IsLegal, book_after}
use Rattle.vpg_desk.proofs.UndoRedo.{legal_parts}
use Rattle.vpg_office.specs.Faults.{TellsOf as OfficeTells, RefusedFor as OfficeRefused, logged as entries}
use Rattle.vpg_office.specs.Fronts.{Extends, Overtakes, before_last, calls_by, event, family_between}
use Rattle.vpg_office.specs.Story.{IsOf, tells_other}
use Rattle.vpg_office.specs.Token.{Caller}
use Rattle.vpg_office.specs.declared.fault.Fault.{Fault}
use Rattle.vpg_office.specs.declared.fault.Fault.TheVariants as office
use Rattle.vpg_office.proofs.Stories.{book_more}
use Rattle.vpg_engine.proofs.Fronts.{none_of, same_front}
use Rattle.vpg_engine.proofs.Seats.{counted_at, seats_stay}
use Rattle.vpg_engine.specs.Client.{ClientState, IsLogged, IsFrontOf, IsNumbered, IsBeyond, calls_of, unseated_from, client_in, client_after, nobody}
use Rattle.vpg_engine.specs.Faults.{RefusedFor, Tells, TellsOf, HasStrayed, IsAstray, Sorts, IsAbsent, UnlessStray, shown_by, shown_after}
use Rattle.vpg_engine.specs.declared.fault.Back.{Back}
use Rattle.vpg_engine.specs.declared.fault.Back.TheVariants as backs
use Rattle.vpg_engine.specs.declared.fault.ClientFault.{ClientFault}
use Rattle.vpg_engine.specs.declared.fault.ClientFault.TheVariants.{LogFull, Refused, Stray, Memory}

take_front : (front more : List Event) → take (length front) (front ++ more) ≡ front
take_front [] more = refl
take_front (x ∷ front) more = ap (λ (l : List Event). x ∷ l) (take_front front more)

before_more : (front : List Event) (e : Event) → before_last (front ++ e ∷ []) ≡ front
before_more front e =
    let count : length (front ++ e ∷ []) - 1 ≡ length front = omega (arith, length-append front (e ∷ [])) in
    ap (λ (n : ℕ). take n (front ++ e ∷ [])) count ∙ take_front front (e ∷ [])

-- the session at a place is the one of this number
pub number_is : (sessions : List Caller) (place : ℕ) (session : Caller) (label : ℕ) → place < length sessions → session ≡ slice_index_or sessions place session → (slice_index_or sessions place nobody).number ≡ label → session.number ≡ label
number_is sessions place session label within here is = ap (λ (c : Caller). c.number) (get_or_read sessions place session within here nobody) ∙ is

pub numbered : (sessions : List Caller) (place : ℕ) (session : Caller) (number : ℕ) → place < length sessions → session ≡ slice_index_or sessions place session → session.number ≡ number → IsNumbered sessions place number
numbered sessions place session number within here is = (within, ap (λ (c : Caller). c.number) (sym (get_or_read sessions place session within here nobody)) ∙ is)

-- a call was made, or not
pub one_kind : {C G : Type 0} (b : Back C G) (given : G) (call : C) → b ≡ backs.Given given → b ≡ backs.Call call → ⊥
one_kind b given call is other = absurd (cc (is, other))

-- ---- what is said of an answer, of the result that was made of it

pub unless_stray_any : {G : Type 0} (told : ClientFault G) (P : Type 0) → P → UnlessStray told P
unless_stray_any LogFull P p = p
unless_stray_any (Refused fault) P p = p
unless_stray_any Stray P p = tt
unless_stray_any Memory P p = p

pub unless_stray : {G : Type 0} (told : ClientFault G) (P Q : Type 0) → UnlessStray told P → (P → Q) → UnlessStray told Q
unless_stray LogFull P Q p f = f p
unless_stray (Refused fault) P Q p f = f p
unless_stray Stray P Q p f = tt
unless_stray Memory P Q p f = f p

-- what was handed in comes back as it was
pub given_back : {G X : Type 0} (told : ClientFault G) (value : X) → UnlessStray told (value ≡ value)
given_back told value = unless_stray_any told (value ≡ value) refl

-- what is said of an answer that is known
pub said_of_ok : {T E : Type 0} (answer : Result T E) (made : T) (P : T → Type 0) (Q : E → Type 0) → answer ≡ Ok made → P made → MatchResult answer P Q
said_of_ok {T} {E} answer made P Q is p = subst (λ (a : Result T E). MatchResult a P Q) (sym is) p

-- what the answer gives back comes back
pub comes_back : {U D T E G V X : Type 0} (result : Result U D) (answer : Result T E) (told_of : D → ClientFault G) (value_of : D → X) (Sorted : D → E → Type 0) (wrapped : V → X) (back : E → V) (value : V) (Longer : Type 0) →
    IfErr result (λ d. MatchResult answer (λ _. (told_of d ≡ Stray) × Longer) (λ e. Sorted d e × (value_of d ≡ wrapped (back e)))) → IfErr answer (λ e. back e ≡ value) → IfErr result (λ d. UnlessStray (told_of d) (value_of d ≡ wrapped value))
comes_back (Ok u) answer told_of value_of Sorted wrapped back value Longer is same = tt
comes_back (Err d) (Ok t) told_of value_of Sorted wrapped back value Longer is same = subst (λ told. UnlessStray told (value_of d ≡ wrapped value)) (sym is.0) tt
comes_back (Err d) (Err e) told_of value_of Sorted wrapped back value Longer is same = unless_stray_any (told_of d) (value_of d ≡ wrapped value) (is.1 ∙ ap wrapped same)

-- a stray shows in the log or in the sessions
pub astray : {A D G : Type 0} (r : Result A D) (told_of : D → ClientFault G) (room : ℕ) (refusal : G → Option Refusal) (Means : Refusal → Type 0) (old : ClientState) (label : ℕ) (new : ClientState) → IfErr r (λ d. TellsOf room refusal Means old label new (told_of d)) →
    IfErr r (λ d. told_of d ≡ Stray → IsAstray old label new)
astray (Ok a) told_of room refusal Means old label new tells = tt
astray {A} {D} {G} (Err d) told_of room refusal Means old label new tells = go (told_of d) tells
  where
    shown : HasStrayed old label new → IsAstray old label new
    shown (inl foreign) = inl foreign
    shown (inr unseated) = inr unseated.beyond

    go : (told : ClientFault G) → TellsOf room refusal Means old label new told → told ≡ Stray → IsAstray old label new
    go LogFull tells is = absurd (cc is)
    go (Refused fault) tells is = absurd (cc is)
    go Stray tells is = shown tells.1
    go Memory tells is = absurd (cc is)

-- ---- logs that are longer than the front

longer : (front log : List Event) (calls : ℕ) → calls ≡ length front → IsPrefix front log → ¬ (length log ≡ calls) → length front < length log
longer front log calls calls_is begins other = omega (arith, calls_is, other, ap length begins.1, length-append front begins.0)

some_of : (session : ℕ) (events : List Event) → 0 < calls_by session events → 0 < length events
some_of session [] some = absurd (omega (arith, some))
some_of session (e ∷ events) some = omega arith

overtaken : (family : Family) (front : List Event) (session : ℕ) (log : List Event) → Overtakes family front session log → length front < length log
overtaken family front session log is = omega (arith, ap length is.is, length-append front is.between, some_of session is.between is.some)

pub grows : (family : Family) (front : List Event) (session : ℕ) (call : Call) (reply : Reply) (new : List Event) → Extends family front session call reply new → length front < length new
grows family front session call reply new is =
    omega (arith, ap length is.is, length-append (front ++ is.between) (event session call reply ∷ []), length-append front is.between)

-- an answer says that the front has grown
pub grew : {T E : Type 0} (family : Family) (front : List Event) (session : ℕ) (call : Call) (reply : T → Reply) (new : List Event) (answer : Result T E) → IfOk answer (λ t. Extends family front session call (reply t) new) →
    OnOk answer (length front < length new)
grew family front session call reply new (Ok t) done = grows family front session call (reply t) new done
grew family front session call reply new (Err e) done = tt

-- ---- counts of calls

as_many : (a b c : ℕ) → a ≡ b + 0 → b ≡ c → a ≡ c
as_many a b c is same = omega (arith, is, same)

some_more : (a b c n : ℕ) → a ≡ b + n → b ≡ c → a ≡ c + n
some_more a b c n is same = omega (arith, is, same)

-- the log grew by more calls than the session made
grows_more : (old new own after n : ℕ) → old + n < new → after ≡ own + n → old + after < new + own
grows_more old new own after n more is = omega (arith, more, is)

no_other : (a b c d : ℕ) → a < b → ¬ (c ≡ d + 1) → b ≡ c → d ≡ a → a + 1 < b
no_other a b c d more other is same = omega (arith, more, other, is, same)

none_made : (a b : ℕ) → a < b → a + 0 < b
none_made a b more = omega (arith, more)

-- A client has these sessions before the call. When the label has its session, there are those. The session at the
-- label's place makes the call.
module _ (game : NamedGame) (diagram : NamedDiagram) (room : ℕ) (first sessions : List Caller) (place : ℕ) (mine made : Caller) (front new : List Event) where
  abbrev F : Family
  F = family_between game diagram

  abbrev before : List Event → ClientState
  before events = client_after game diagram first events

  abbrev here : List Event → ClientState
  here events = client_after game diagram (slice_set sessions place made) events

  module _ (label : ℕ) (call : Call) (reply : Reply) (more : length new ≡ length front + 1) (is : Extends F front label call reply new) where
    grown : new ≡ front ++ event label call reply ∷ []
    grown =
        let e = event label call reply in
        let nothing : is.between ≡ [] = none_of is.between (omega (arith, more, ap length is.is, length-append (front ++ is.between) (e ∷ []), length-append front is.between)) in
        is.is ∙ ap (λ (b : List Event). (front ++ b) ++ e ∷ []) nothing ∙ ap (λ (l : List Event). l ++ e ∷ []) (append-nil front)

    logged : length new ≤ room → calls_of (slice_set sessions place made) ≡ calls_of first + 1 → unseated_from 1 (slice_set sessions place made) ≡ unseated_from 1 first → IsLogged room (before front) label call reply (here new)
    logged fits own seats =
        let e = event label call reply in
        let legal : IsLegal F (front ++ e ∷ []) = subst (IsLegal F) grown is.history.legal in
        let said = (legal_parts F opened front (e ∷ []) legal).1.0 in
        record {
          had_room = omega (arith, more, fits);
          step = record { step = (said, ap (book_after F opened) grown ∙ book_more F front e); game = refl; diagram = refl };
          counted = more;
          own = own;
          seats = seats;
        }

  module _ (label : ℕ) (within : place < length sessions) (at : mine ≡ slice_index_or sessions place mine) (is_seat : (slice_index_or sessions place nobody).number ≡ label) (own : calls_of sessions ≡ calls_of first)
      (seated : unseated_from 1 sessions ≡ unseated_from 1 first) (kept : made.number ≡ mine.number) (old : ClientState) (view : before front ≡ old) where
    by : mine.number ≡ label
    by = number_is sessions place mine label within at is_seat

    seats_are : unseated_from 1 (slice_set sessions place made) ≡ unseated_from 1 first
    seats_are = seats_stay mine made 1 sessions place within at kept ∙ seated

    own_after : (n : ℕ) → made.calls ≡ mine.calls + n → calls_of (slice_set sessions place made) ≡ calls_of first + n
    own_after n counts = some_more (calls_of (slice_set sessions place made)) (calls_of sessions) (calls_of first) n (counted_at mine made sessions place n within at counts) own

    own_same : made.calls ≡ mine.calls + 0 → calls_of (slice_set sessions place made) ≡ calls_of first
    own_same counts = as_many (calls_of (slice_set sessions place made)) (calls_of sessions) (calls_of first) (counted_at mine made sessions place 0 within at counts) own

    here_by : (call : Call) (reply : Reply) → Extends F front mine.number call reply new → Extends F front label call reply new
    here_by call reply is = subst (λ (n : ℕ). Extends F front n call reply new) by is

    -- the call is one step of the desk, and is counted
    pub accepted : (call : Call) (reply : Reply) → length new ≤ room → length new ≡ length front + 1 → made.calls ≡ mine.calls + 1 → Extends F front mine.number call reply new → IsLogged room old label call reply (here new)
    accepted call reply fits more counts is = subst (λ (s : ClientState). IsLogged room s label call reply (here new)) view (logged label call reply more (here_by call reply is) fits (own_after 1 counts) seats_are)

    module _ (calls : ℕ) (calls_is : calls ≡ length front) where
      -- the log grew by a call that no session of the client made
      strayed : (last : List Event) (n : ℕ) → length front + n < length last → made.calls ≡ mine.calls + n → (((here last).desk.game ≡ old.desk.game) × ((here last).desk.diagram ≡ old.desk.diagram)) × HasStrayed old label (here last)
      strayed last n more counts =
          subst (λ (s : ClientState). (((here last).desk.game ≡ s.desk.game) × ((here last).desk.diagram ≡ s.desk.diagram)) × HasStrayed s label (here last)) view
          ((refl, refl), inl (record { more = grows_more (length front) (length last) (calls_of first) (calls_of (slice_set sessions place made)) n more (own_after n counts); seats = seats_are }))

      stays : (log : List Event) → log ≡ front → made.calls ≡ mine.calls + 0 → here log ≡ old
      stays log same counts = (λ k. client_in game diagram (own_same counts k) (seats_are k) (same k)) ∙ view

      -- what the client tells of the office's fault
      pub tells : {T G : Type 0} (refusal : G → Option Refusal) (call : Refusal → Call) (fault : Fault T G) (told : ClientFault G) → length (shown_by fault new) ≤ room → Sorts calls (length (shown_by fault new)) fault told →
          made.calls ≡ mine.calls + entries fault → OfficeTells F room refusal (λ r. Extends F front mine.number (call r) (book.Refused r) new) mine.number front new fault →
          TellsOf room refusal (λ r. IsLogged room old label (call r) (book.Refused r) (here (shown_by fault new))) old label (here (shown_by fault new)) told
      tells refusal call (office.LogFull log) LogFull fits same counts said =
          (subst (λ (s : ClientState). s.calls ≡ room) view (sym calls_is ∙ sym same ∙ said.2), stays log (same_front front log said.1 (same ∙ calls_is)) counts)
      tells refusal call (office.LogFull log) (Refused other) fits sorts counts said = absurd sorts
      tells refusal call (office.LogFull log) Stray fits other counts said = strayed log 0 (none_made (length front) (length log) (longer front log calls calls_is said.1 other)) counts
      tells refusal call (office.LogFull log) Memory fits sorts counts said = absurd sorts
      tells refusal call (office.Doubled log) LogFull fits sorts counts said = absurd sorts
      tells refusal call (office.Doubled log) (Refused other) fits sorts counts said = absurd sorts
      tells refusal call (office.Doubled log) Stray fits sorts counts said = strayed log 0 (none_made (length front) (length log) (overtaken F front mine.number log said.2)) counts
      tells refusal call (office.Doubled log) Memory fits sorts counts said = absurd sorts
      tells refusal call (office.Refused fault) LogFull fits sorts counts said = absurd sorts
      tells refusal call (office.Refused fault) (Refused other) fits (is, more) counts said =
          (said.0, (ap refusal is ∙ said.1.0, accepted (call said.0) (book.Refused said.0) fits (more ∙ ap (λ (n : ℕ). n + 1) calls_is) counts said.1.1))
      tells refusal call (office.Refused fault) Stray fits other counts said =
          strayed new 1 (no_other (length front) (length new) (length new) calls (grows F front mine.number (call said.0) (book.Refused said.0) new said.1.1) other refl calls_is) counts
      tells refusal call (office.Refused fault) Memory fits sorts counts said = absurd sorts
      tells refusal call office.Memory LogFull fits sorts counts said = absurd sorts
      tells refusal call office.Memory (Refused other) fits sorts counts said = absurd sorts
      tells refusal call office.Memory Stray fits sorts counts said = absurd sorts
      tells refusal call office.Memory Memory fits sorts counts said = stays new said counts

      -- ---- what is said of an answer; after it the client's front is the log that it shows

      pub all_told : {U D T E G L : Type 0} (answer : Result T E) (fault_of : E → Fault L G) → OnOk answer (made.calls ≡ mine.calls + 1) → IfErr answer (λ e. made.calls ≡ mine.calls + entries (fault_of e)) →
          (last : List Event) → last ≡ shown_after answer fault_of new → (result : Result U D) (told_of : D → ClientFault G) (Back : D → E → Type 0)
          (refusal : G → Option Refusal) (call : Refusal → Call) → length last ≤ room → OnOk answer (length front < length new) →
          IfErr result (λ d. MatchResult answer (λ _. (told_of d ≡ Stray) × ¬ (length last ≡ calls + 1)) (λ e. Sorts calls (length last) (fault_of e) (told_of d) × Back d e)) →
          IfErr answer (λ e. OfficeTells F room refusal (λ r. Extends F front mine.number (call r) (book.Refused r) new) mine.number front new (fault_of e)) →
          IfErr result (λ d. TellsOf room refusal (λ r. IsLogged room old label (call r) (book.Refused r) (here last)) old label (here last) (told_of d))
      all_told answer fault_of counted uncounted last last_is (Ok u) told_of Back refusal call fits more is said = tt
      all_told {U} {D} {T} {E} {G} {L} (Ok t) fault_of counted uncounted last last_is (Err d) told_of Back refusal call fits more is said =
          subst (λ (told : ClientFault G). TellsOf room refusal (λ r. IsLogged room old label (call r) (book.Refused r) (here last)) old label (here last) told) (sym is.0)
          (strayed last 1 (no_other (length front) (length last) (length last) calls (omega (arith, more, ap length last_is)) is.1 refl calls_is) counted)
      all_told (Err e) fault_of counted uncounted last last_is (Err d) told_of Back refusal call fits more is said =
          let sorts = subst (λ (l : List Event). Sorts calls (length l) (fault_of e) (told_of d)) last_is is.0 in
          let room_for = subst (λ (l : List Event). length l ≤ room) last_is fits in
          subst (λ (l : List Event). TellsOf room refusal (λ r. IsLogged room old label (call r) (book.Refused r) (here l)) old label (here l) (told_of d)) (sym last_is)
          (tells refusal call (fault_of e) (told_of d) room_for sorts uncounted said)

      module _ {T E L G : Type 0} (answer : Result T E) (fault_of : E → Fault L G) (last : List Event) (last_is : last ≡ shown_after answer fault_of new) where
        at_last : (t : T) → answer ≡ Ok t → last ≡ new
        at_last t is = last_is ∙ ap (λ (a : Result T E). shown_after a fault_of new) is

        one_more : (t : T) → answer ≡ Ok t → length last ≡ calls + 1 → length new ≡ length front + 1
        one_more t is more = omega (arith, ap length (at_last t is), more, calls_is)

        fits_new : (t : T) → answer ≡ Ok t → length last ≤ room → length new ≤ room
        fits_new t is fits = omega (arith, ap length (at_last t is), fits)

        counted_once : (t : T) → answer ≡ Ok t → OnOk answer (made.calls ≡ mine.calls + 1) → made.calls ≡ mine.calls + 1
        counted_once t is counted = IfOk-at_ok (λ (_ : T). made.calls ≡ mine.calls + 1) is counted

        -- what was made is one step of the desk, and is counted
        pub step_made : {D : Type 0} (result : Result T D) (call : Call) (reply : T → Reply) → OnOk answer (made.calls ≡ mine.calls + 1) → IfOk result (λ t. answer ≡ Ok t) → OnOk result (length last ≡ calls + 1) → length last ≤ room →
            IfOk answer (λ t. Extends F front mine.number call (reply t) new) → IfOk result (λ t. IsLogged room old label call (reply t) (here last))
        step_made (Ok t) call reply counted is more fits done =
            subst (λ (l : List Event). IsLogged room old label call (reply t) (here l)) (sym (at_last t is))
            (accepted call (reply t) (fits_new t is fits) (one_more t is more) (counted_once t is counted) (IfOk-at_ok (λ (x : T). Extends F front mine.number call (reply x) new) is done))
        step_made (Err d) call reply counted is more fits done = tt

        -- what was made says so of a front that ends with the call
        pub gives_made : {D : Type 0} (result : Result T D) (call : Call) (reply : T → Reply) (Gives : List Event → T → Type 0) → IfOk result (λ t. answer ≡ Ok t) → OnOk result (length last ≡ calls + 1) →
            IfOk answer (λ t. Extends F front mine.number call (reply t) new) → IfOk answer (Gives new) →
            IfOk result (λ t. (f : List Event) × (IsFrontOf old (before_last f) × (IsFrontOf (here last) f × Gives f t)))
        gives_made (Ok t) call reply Gives is more done gives =
            let extends = here_by call (reply t) (IfOk-at_ok (λ (x : T). Extends F front mine.number call (reply x) new) is done) in
            let ends : before_last new ≡ front = ap before_last (grown label call (reply t) (one_more t is more) extends) ∙ before_more front (event label call (reply t)) in
            let same = sym (at_last t is) in (
              new,
              (
                subst (λ (s : ClientState). IsFrontOf s (before_last new)) view (record { counted = ap length ends; leaves = ap (book_after F opened) ends }),
                (record { counted = ap length same; leaves = ap (book_after F opened) same }, IfOk-at_ok (Gives new) is gives),
              ),
            )
        gives_made (Err d) call reply Gives is more done gives = tt

-- what the desk's refusal says of the call
sorts_for : {L G : Type 0} (before now : ℕ) (refusal : G → Option Refusal) (Means : Refusal → Type 0) (fault : Fault L G) (told : ClientFault G) → Sorts before now fault told →
    OfficeRefused refusal Means fault → RefusedFor refusal Means told
sorts_for before now refusal Means fault LogFull sorts named = tt
sorts_for before now refusal Means fault Stray sorts named = tt
sorts_for before now refusal Means fault Memory sorts named = tt
sorts_for before now refusal Means (office.LogFull log) (Refused other) sorts named = absurd sorts
sorts_for before now refusal Means (office.Doubled log) (Refused other) sorts named = absurd sorts
sorts_for before now refusal Means (office.Refused fault) (Refused other) sorts named = λ r why. named r (ap refusal (sym sorts.0) ∙ why)
sorts_for before now refusal Means office.Memory (Refused other) sorts named = absurd sorts

stray_for : {G : Type 0} (refusal : G → Option Refusal) (Means : Refusal → Type 0) (told : ClientFault G) → told ≡ Stray → RefusedFor refusal Means told
stray_for refusal Means LogFull is = tt
stray_for refusal Means (Refused fault) is = absurd (cc is)
stray_for refusal Means Stray is = tt
stray_for refusal Means Memory is = tt

pub all_for : {U D T E G L : Type 0} (before now : ℕ) (answer : Result T E) (fault_of : E → Fault L G) (result : Result U D) (told_of : D → ClientFault G) (Back : D → E → Type 0) (Longer : Type 0) (refusal : G → Option Refusal) (Means : Refusal → Type 0) →
    IfErr result (λ d. MatchResult answer (λ _. (told_of d ≡ Stray) × Longer) (λ e. Sorts before now (fault_of e) (told_of d) × Back d e)) → IfErr answer (λ e. OfficeRefused refusal Means (fault_of e)) →
    IfErr result (λ d. RefusedFor refusal Means (told_of d))
all_for before now answer fault_of (Ok u) told_of Back Longer refusal Means is named = tt
all_for before now (Ok t) fault_of (Err d) told_of Back Longer refusal Means is named = stray_for refusal Means (told_of d) is.0
all_for before now (Err e) fault_of (Err d) told_of Back Longer refusal Means is named = sorts_for before now refusal Means (fault_of e) (told_of d) is.0 named

pub absent_for : {G : Type 0} (label : ℕ) (old new : Option ℕ) (refusal : G → Option Refusal) (Means : Refusal → Type 0) (told : ClientFault G) → IsAbsent label old new told → RefusedFor refusal Means told
absent_for label old new refusal Means LogFull absent = tt
absent_for label old new refusal Means (Refused fault) absent = absurd absent
absent_for label old new refusal Means Stray absent = tt
absent_for label old new refusal Means Memory absent = tt

-- of a harvest of the desk's game and diagram
pub own_tells : (game : NamedGame) (diagram : NamedDiagram) (room : ℕ) (old new : ClientState) (label : ℕ) (harvest : HarvestView) (fault : ClientFault CommitFault) → IsOf game diagram harvest.order →
    TellsOf room commit_refusal (λ r. IsLogged room old label (Commit (handed_in (not (tells_other r)) harvest)) (book.Refused r) new) old label new fault →
    RefusedFor commit_refusal (λ r. Decides (not (tells_other r)) (IsOf game diagram harvest.order)) fault → Tells room commit_refusal old label (Commit (handed_in true harvest)) new fault
own_tells game diagram room old new label harvest LogFull ours told named = told
own_tells game diagram room old new label harvest (Refused fault) ours (r, (why, logged)) named =
    (r, (why, subst (λ (b : Bool). IsLogged room old label (Commit (handed_in b harvest)) (book.Refused r) new) ((named r why).1 ours) logged))
own_tells game diagram room old new label harvest Stray ours told named = told
own_tells game diagram room old new label harvest Memory ours told named = told

-- a label has no session: nothing was asked of the office
module _ (game : NamedGame) (diagram : NamedDiagram) (front : List Event) (before after : List Caller) (own : calls_of after ≡ calls_of before) (label : ℕ) (old : ClientState) (view : client_after game diagram before front ≡ old) where
  abbrev afterwards : ClientState
  afterwards = client_after game diagram after front

  unchanged : unseated_from 1 after ≡ unseated_from 1 before → afterwards ≡ old
  unchanged same = (λ k. client_in game diagram (own k) (same k) front) ∙ view

  has_none : IsBeyond label (unseated_from 1 after) → ((afterwards.desk.game ≡ old.desk.game) × (afterwards.desk.diagram ≡ old.desk.diagram)) × HasStrayed old label afterwards
  has_none beyond = (
    (ap (λ (s : ClientState). s.desk.game) view, ap (λ (s : ClientState). s.desk.diagram) view),
    inr (record { desk = ap (λ (s : ClientState). s.desk) view; calls = ap (λ (s : ClientState). s.calls) view; own = own ∙ ap (λ (s : ClientState). s.own) view; beyond = beyond }),
  )

  pub absent_tells : {G : Type 0} (room : ℕ) (refusal : G → Option Refusal) (Means : Refusal → Type 0) (told : ClientFault G) → IsAbsent label (unseated_from 1 before) (unseated_from 1 after) told →
      TellsOf room refusal Means old label afterwards told
  absent_tells room refusal Means LogFull absent = absurd absent
  absent_tells room refusal Means (Refused fault) absent = absurd absent
  absent_tells room refusal Means Stray absent = has_none absent
  absent_tells room refusal Means Memory absent = unchanged absent

  pub absent_astray : {G : Type 0} (told : ClientFault G) → IsAbsent label (unseated_from 1 before) (unseated_from 1 after) told → told ≡ Stray → IsAstray old label afterwards
  absent_astray LogFull absent is = absurd absent
  absent_astray (Refused fault) absent is = absurd absent
  absent_astray Stray absent is = inr absent
  absent_astray Memory absent is = absurd (cc is)

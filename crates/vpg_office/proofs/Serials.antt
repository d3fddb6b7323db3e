-- The serials of tokens: each that was given is noted.
use Rattle.std.proofs.Common.{◌≡◌, ◌≢◌, ◌⊎◌, ℕ, ◌+◌, ◌-◌, ◌<◌, ◌≤◌, max, Bool, false, true≢false, List, [], ◌∷◌, ◌++◌, length, take, slice_index, Option, Some, None, IfSome, refl, sym, ap, ◌∙◌, subst, arith, inl, inr, ne_eqb, length-append}
use Rattle.std.specs.List.{list_any}
use Rattle.std.specs.Prelude.{IsFalse}
use Rattle.std.proofs.lemmas.Bool.{or_parts, or_from}
use Rattle.std.proofs.lemmas.List.{length-take-le}
use Rattle.vpg_trail.specs.Page.{Entry as Step}
use Rattle.vpg_desk.specs.Book.{Family, Book, Kept, Call, Decide, Retract, Reset, Undo, Redo, Settled, Reply, Changed, Undone as UndoneIs, Redone as RedoneIs, Answers, IsReply, Refuses, next, refuses_undo, refuses_redo, serials_of, undone, redone}
use Rattle.vpg_desk.specs.History.{Event, IsBeforeLast}
use Rattle.vpg_desk.proofs.Serials.{IsOrdered, Falls, Rises, newest_of, below_high, undo_newest, redo_nearest}
use Rattle.vpg_desk.proofs.UndoRedo.{last_is_one}
use Rattle.vpg_office.specs.Kept.{AreGiven, IsLastGiven, NoneIsLeftOut, gives, noted_after}
use Rattle.vpg_office.specs.Story.{is_token, reply_of, token_of}
use Rattle.vpg_office.specs.declared.asked.Answer.{Answer}
use Rattle.vpg_office.specs.declared.asked.Answer.TheVariants.{Spent}
use Rattle.vpg_office.proofs.Given.{any-append}

-- the serial of the token that a reply gives
abbrev pub serial_in : Reply → Option ℕ
serial_in (Changed s) = Some s
serial_in (UndoneIs s) = Some s
serial_in (RedoneIs s) = Some s
serial_in _ = None

pub serial_is : (family : Family) (page : List Step) (a : Answer) → serial_in (reply_of family page a) ≡ token_of a
serial_is family page Spent = refl
serial_is family page _ = refl

newest_fits : (past future : List Kept) (high t : ℕ) → refuses_undo t (serials_of past) ≡ None → Falls past → Rises (newest_of past) future high → (1 ≤ t) × (t < high)
newest_fits [] future high t e f r = absurd (cc e)
newest_fits (p ∷ past) future high t e f r =
    let same : p.serial ≡ t = undo_newest t p past e in
    let under : p.serial < high = below_high p.serial future high r in
    (omega (arith, f.0, same), omega (arith, under, same))

nearest_fits : (low : ℕ) (future : List Kept) (high t : ℕ) → refuses_redo t (serials_of future) ≡ None → Rises low future high → (1 ≤ t) × (t < high)
nearest_fits low [] high t e r = absurd (cc e)
nearest_fits low (p ∷ future) high t e r =
    let same : p.serial ≡ t = redo_nearest t p future e in
    let under : p.serial < high = below_high p.serial future high r.1 in
    (omega (arith, r.0, same), omega (arith, under, same))

undone_changes : (b : Book) (past : List Kept) → (undone b past).changes ≡ b.changes
undone_changes b [] = refl
undone_changes b (p ∷ past) = refl

redone_changes : (b : Book) (future : List Kept) → (redone b future).changes ≡ b.changes
redone_changes b [] = refl
redone_changes b (p ∷ future) = refl

max_next : (n : ℕ) → n + 1 ≡ max (n + 1) n
max_next n = omega arith

max_low : (t n : ℕ) → t ≤ n → n ≡ max t n
max_low t n low = omega (arith, low)

-- the token that a call gives is one of the changes that were made, or of the next one, and so many there are then
module _ (family : Family) (b : Book) (session : ℕ) (o : IsOrdered b) where
  abbrev pub TokenFits : Call → Reply → Type 0
  TokenFits call reply = IfSome (serial_in reply) (λ s. (1 ≤ s) × (s ≤ b.changes + 1)) × ((next family b session call reply).changes ≡ noted_after (serial_in reply) b.changes)

  answered : (call : Call) (reply : Reply) → Refuses family b call None → Answers family b call reply → TokenFits call reply
  answered (Decide f v) reply refuses told = subst (TokenFits (Decide f v)) (sym told) ((omega arith, omega arith), max_next b.changes)
  answered (Retract f) reply refuses told = subst (TokenFits (Retract f)) (sym told) ((omega arith, omega arith), max_next b.changes)
  answered Reset reply refuses told = subst (TokenFits Reset) (sym told) ((omega arith, omega arith), max_next b.changes)
  answered (Undo t) reply refuses told =
      let h = newest_fits b.past b.future (b.changes + 1) t (sym refuses) o.falls o.rises in
      subst (TokenFits (Undo t)) (sym told) ((h.0, omega (arith, h.1)), undone_changes b b.past ∙ max_low t b.changes (omega (arith, h.1)))
  answered (Redo t) reply refuses told =
      let h = nearest_fits (newest_of b.past) b.future (b.changes + 1) t (sym refuses) o.rises in
      subst (TokenFits (Redo t)) (sym told) ((h.0, omega (arith, h.1)), redone_changes b b.future ∙ max_low t b.changes (omega (arith, h.1)))
  answered Settled reply refuses told = subst (TokenFits Settled) (sym told.1.1) (tt, refl)
  answered call reply refuses told = subst (TokenFits call) (sym told) (tt, refl)

  pub token_fits : (call : Call) (reply : Reply) → IsReply family b call reply → TokenFits call reply
  token_fits call reply (Some r, (refuses, told)) = subst (TokenFits call) (sym told) (tt, refl)
  token_fits call reply (None, (refuses, told)) = answered call reply refuses told

-- ---- no serial is left out

pub none_left_at_first : NoneIsLeftOut [] []
none_left_at_first s out = refl

left_before : (given after : List ℕ) (token : Option ℕ) (s : ℕ) → length after ≡ noted_after token (length given) → (s ≡ 0) ⊎ (length after < s) → (s ≡ 0) ⊎ (length given < s)
left_before given after token s size (inl none) = inl none
left_before given after None s size (inr high) = inr (omega (arith, size, high))
left_before given after (Some n) s size (inr high) = inr (omega (arith, size, high))

other_token : (given after : List ℕ) (token : Option ℕ) (s : ℕ) → length after ≡ noted_after token (length given) → IfSome token (λ n. (1 ≤ n) × (n ≤ length given + 1)) → (s ≡ 0) ⊎ (length after < s) → is_token s token ≡ false
other_token given after None s size fits out = refl
other_token given after (Some n) s size fits (inl none) = ne_eqb n s (λ e. omega (arith, fits.0, none, e))
other_token given after (Some n) s size fits (inr high) = ne_eqb n s (λ e. omega (arith, size, high, e))

pub none_left_more : (events : List Event) (e : Event) (given after : List ℕ) (token : Option ℕ) → NoneIsLeftOut events given → length after ≡ noted_after token (length given) → IfSome token (λ n. (1 ≤ n) × (n ≤ length given + 1)) →
    ((s : ℕ) → gives s e.reply ≡ is_token s token) → NoneIsLeftOut (events ++ e ∷ []) after
none_left_more events e given after token old size fits tells s out =
    any-append (λ x. gives s x.reply) events (e ∷ []) (old s (left_before given after token s size out)) (or_from (gives s e.reply) false (tells s ∙ other_token given after token s size fits out) refl)

-- ---- where the last call that gave a token of the serial isn't

none_gives : (test : Reply → Bool) (before log : List Event) → IsBeforeLast test before log → IsFalse (list_any (λ e. test e.reply) log) → ⊥
none_gives test before log b none = go before (subst (λ (l : List Event). list_any (λ e. test e.reply) l ≡ false) b.split none)
  where
    go : (xs : List Event) → list_any (λ e. test e.reply) (xs ++ b.last ∷ b.since) ≡ false → ⊥
    go [] h = true≢false (sym b.passes ∙ (or_parts (test b.last.reply) (list_any (λ e. test e.reply) b.since) h).0)
    go (x ∷ xs) h = go xs (or_parts (test x.reply) (list_any (λ e. test e.reply) (xs ++ b.last ∷ b.since)) h).1

pub never_noted : (log : List Event) (given : List ℕ) (serial : ℕ) (own : List Event) → NoneIsLeftOut log given → (serial ≡ 0) ⊎ (length given < serial) → ¬ (IsLastGiven log serial own)
never_noted log given serial own none out = λ h. none_gives (gives serial) (take h.place log) log h.last (none serial out)

pub never_empty : (log : List Event) (serial : ℕ) (own : List Event) → length own ≡ 0 → ¬ (IsLastGiven log serial own)
never_empty log serial own empty = λ h. omega (arith, h.at, empty)

pub never_elsewhere : (log : List Event) (given : List ℕ) (serial : ℕ) (own : List Event) → AreGiven log given → serial ≢ 0 → serial - 1 < length given → slice_index given (serial - 1) ≢ length own - 1 → ¬ (IsLastGiven log serial own)
never_elsewhere log given serial own are some low other = λ h.
    let next : serial - 1 + 1 ≡ serial = omega (arith, some) in
    let b = are (serial - 1) low in
    let same : take h.place log ≡ take (slice_index given (serial - 1)) log = last_is_one (gives serial) (take h.place log) (take (slice_index given (serial - 1)) log) log h.last (subst (λ n. IsBeforeLast (gives n) (take (slice_index given (serial - 1)) log) log) next b.0) in
    let long : h.place ≤ length log = omega (arith, h.at, ap length h.beginning.1, length-append own h.beginning.0) in
    let at : h.place ≡ slice_index given (serial - 1) = sym (length-take-le h.place log long) ∙ ap length same ∙ length-take-le (slice_index given (serial - 1)) log (omega (arith, b.1)) in
    other (omega (arith, at, h.at))

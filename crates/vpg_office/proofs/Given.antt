-- Where the tokens of each serial were given last, and what an undo or a redo by such a token restores.
use Rattle.std.proofs.Common.{◌≡◌, ℕ, ◌+◌, ◌<◌, ◌==◌, Bool, true, false, ◌||◌, List, [], ◌∷◌, ◌++◌, length, take, Option, slice_index, refl, sym, ap, ◌∙◌, subst, arith, append_assoc, length-append, ⊎_elim}
use Rattle.std.specs.List.{list_any}
use Rattle.std.specs.Prelude.{IsTrue, IsFalse}
use Rattle.std.proofs.lemmas.Bool.{or_parts, or_from}
use Rattle.std.proofs.Math.Seq.{take-append_seam}
use Rattle.std.proofs.lemmas.List.{append_cancel_left, take-append-le}
use Rattle.std.proofs.lemmas.List.Folds.{list_any-append}
use mathlib.Core.List.{IsPrefix}
use Rattle.vpg_trail.specs.Page.{Entry as Step}
use Rattle.vpg_desk.specs.Book.{Family}
use Rattle.vpg_desk.specs.History.{Event, IsLegal, IsBeforeLast, gives_undo, gives_redo, undo_of, redo_of, page_after}
use Rattle.vpg_desk.proofs.UndoRedo.{undo_goes_back, redo_goes_back}
use Rattle.vpg_office.specs.Fronts.{before_last, GoesBackTo}
use Rattle.vpg_office.specs.Kept.{gives, AreGiven, IsNoted}
use Rattle.vpg_office.specs.Story.{reply_of, token_of, is_token}
use Rattle.vpg_office.specs.Token.{EndsWith}
use Rattle.vpg_office.specs.declared.asked.Answer.{Answer}
use Rattle.vpg_office.specs.declared.asked.Answer.TheVariants.{Changed, Redone}

or_false : (b : Bool) → (b || false) ≡ b
or_false true = refl
or_false false = refl

-- which replies give a token
pub gives_is : (s : ℕ) (family : Family) (page : List Step) (a : Answer) → gives s (reply_of family page a) ≡ is_token s (token_of a)
gives_is s family page (Changed n) = or_false (n == s)
gives_is s family page (Redone n) = or_false (n == s)
gives_is s family page _ = refl

pub any-append : (test : Event → Bool) (xs ys : List Event) → list_any test xs ≡ false → list_any test ys ≡ false → list_any test (xs ++ ys) ≡ false
any-append test xs ys a b = simp (list_any-append, a, b)

pub given_none : AreGiven [] []
given_none = λ i low. absurd (omega arith)

-- one call more
pub given_more : (events : List Event) (e : Event) (given after : List ℕ) (token : Option ℕ) → AreGiven events given → IsNoted token (length events) given after →
    ((s : ℕ) → gives s e.reply ≡ is_token s token) → AreGiven (events ++ e ∷ []) after
given_more events e given after token old noted tells = λ i low. ⊎_elim
    (λ (now : IsTrue (is_token (i + 1) token) × (slice_index after i ≡ length events)).
    let whole : take (slice_index after i) (events ++ e ∷ []) ≡ events = ap (λ n. take n (events ++ e ∷ [])) now.1 ∙ take-append_seam events (e ∷ []) in
    (record { last = e; since = []; split = ap (λ (l : List Event). l ++ e ∷ []) (sym whole); passes = tells (i + 1) ∙ now.0; none_since = refl }, omega (arith, now.1, length-append events (e ∷ []))))
    (λ (then : IsFalse (is_token (i + 1) token) × (i < length given) × (slice_index after i ≡ slice_index given i)).
    let b = old i then.1 in
    let same : take (slice_index after i) (events ++ e ∷ []) ≡ take (slice_index given i) events = ap (λ n. take n (events ++ e ∷ [])) then.2 ∙ take-append-le (slice_index given i) events (e ∷ []) (omega (arith, b.1)) in
    let quiet : IsFalse (gives (i + 1) e.reply) = tells (i + 1) ∙ then.0 in (
      record {
        last = b.0.last;
        since = b.0.since ++ e ∷ [];
        split = ap (λ (l : List Event). l ++ e ∷ []) b.0.split ∙ append_assoc (take (slice_index given i) events) (b.0.last ∷ b.0.since) (e ∷ []) ∙ ap (λ (l : List Event). l ++ b.0.last ∷ (b.0.since ++ e ∷ [])) (sym same);
        passes = b.0.passes;
        none_since = any-append (λ x. gives (i + 1) x.reply) b.0.since (e ∷ []) b.0.none_since (or_from _ _ quiet refl);
      },
      omega (arith, then.2, b.1, length-append events (e ∷ [])),
    ))
    (noted i low)

-- where no reply gives a token, none gives an undo, and none a redo
none_of : (s : ℕ) (events : List Event) → list_any (λ e. gives s e.reply) events ≡ false → (list_any (λ e. gives_undo s e.reply) events ≡ false) × (list_any (λ e. gives_redo s e.reply) events ≡ false)
none_of s [] n = (refl, refl)
none_of s (e ∷ events) n =
    let parts = or_parts (gives s e.reply) (list_any (λ x. gives s x.reply) events) n in
    let here = or_parts (gives_undo s e.reply) (gives_redo s e.reply) parts.0 in
    let later = none_of s events parts.1 in
    (or_from (gives_undo s e.reply) _ here.0 later.0, or_from (gives_redo s e.reply) _ here.1 later.1)

-- a history that ends with the last call that gave a token of the serial
module _ (events history : List Event) (s n : ℕ) (b : IsBeforeLast (gives s) (take n events) events) (at : n + 1 ≡ length history) (p : IsPrefix history events)
    (before : List Event) (own : Event) (is : history ≡ before ++ own ∷ []) where
  place : n ≡ length before
  place = omega (arith, at, ap length is, length-append before (own ∷ []))

  whole : events ≡ before ++ own ∷ p.0
  whole = sym p.1 ∙ ap (λ (l : List Event). l ++ p.0) is ∙ append_assoc before (own ∷ []) p.0

  front : take n events ≡ before
  front = ap (λ m. take m events) place ∙ ap (take (length before)) whole ∙ take-append_seam before (own ∷ p.0)

  none_later : list_any (λ e. gives s e.reply) p.0 ≡ false
  none_later = subst (λ (l : List Event). list_any (λ e. gives s e.reply) l ≡ false) (sym rest) b.none_since
    where
      tails : own ∷ p.0 ≡ b.last ∷ b.since
      tails = append_cancel_left before (own ∷ p.0) (b.last ∷ b.since) (sym whole ∙ b.split ∙ ap (λ (l : List Event). l ++ b.last ∷ b.since) front)

      rest : p.0 ≡ b.since
      rest = cc tails

  own_front : before_last history ≡ before
  own_front = ap before_last is ∙ ap (λ m. take m (before ++ own ∷ [])) (omega (arith, length-append before (own ∷ []))) ∙ take-append_seam before (own ∷ [])

pub undo_goes_to_own : (family : Family) (events history : List Event) (session s n : ℕ) → IsBeforeLast (gives s) (take n events) events → n + 1 ≡ length history → IsPrefix history events →
    EndsWith (λ reply. IsTrue (gives_undo s reply)) history → IsLegal family (events ++ undo_of session s ∷ []) → GoesBackTo family (events ++ undo_of session s ∷ []) history
undo_goes_to_own family events history session s n b at p ends legal =
    let split : events ≡ ends.before ++ ends.own ∷ p.0 = whole events history s n b at p ends.before ends.own ends.is in
    ap (λ (l : List Event). page_after family (l ++ undo_of session s ∷ [])) split
    ∙ undo_goes_back family ends.before p.0 ends.own session s (subst (λ (l : List Event). IsLegal family (l ++ undo_of session s ∷ [])) split legal) ends.gave
    (none_of s p.0 (none_later events history s n b at p ends.before ends.own ends.is)).0
    ∙ ap (page_after family) (sym (own_front events history s n b at p ends.before ends.own ends.is))

pub redo_goes_to_own : (family : Family) (events history : List Event) (session s n : ℕ) → IsBeforeLast (gives s) (take n events) events → n + 1 ≡ length history → IsPrefix history events →
    EndsWith (λ reply. IsTrue (gives_redo s reply)) history → IsLegal family (events ++ redo_of session s ∷ []) → GoesBackTo family (events ++ redo_of session s ∷ []) history
redo_goes_to_own family events history session s n b at p ends legal =
    let split : events ≡ ends.before ++ ends.own ∷ p.0 = whole events history s n b at p ends.before ends.own ends.is in
    ap (λ (l : List Event). page_after family (l ++ redo_of session s ∷ [])) split
    ∙ redo_goes_back family ends.before p.0 ends.own session s (subst (λ (l : List Event). IsLegal family (l ++ redo_of session s ∷ [])) split legal) ends.gave
    (none_of s p.0 (none_later events history s n b at p ends.before ends.own ends.is)).1
    ∙ ap (page_after family) (sym (own_front events history s n b at p ends.before ends.own ends.is))

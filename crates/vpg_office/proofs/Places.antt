-- The tokens of the row that show the log.
use Rattle.std.proofs.Common.{◌≡◌, ◌≢◌, ◌⊎◌, Option, Some, ℕ, zero, suc, ◌+◌, ◌-◌, ◌<◌, ◌≤◌, ◌==◌, cond, List, [], ◌∷◌, ◌++◌, length, take, drop, get_or, refl, sym, ap, ◌∙◌, subst, ⊎_elim, inl, inr, arith, length-append, add-one}
use Rattle.std.proofs.lemmas.Bool.{cases_lt}
use Rattle.std.proofs.lemmas.Bool.Decides.{nat_tests}
use Rattle.std.proofs.Math.Seq.{take-append_seam}
use Rattle.std.proofs.lemmas.List.{take-append-le, take_more, length-map}
use mathlib.Core.Option.{some, some-injective, some-ne-none}
use mathlib.Core.List.{IsPrefix}
use lib.ListN.{get_elem?, take-append-drop}
use Rattle.boxcar.specs.Table.{Shelves, Where, Shows}
use Rattle.vpg_diagram.specs.DiagramText.{NamedDiagram}
use Rattle.vpg_game.specs.Game.{NamedGame}
use Rattle.vpg_desk.specs.Book.{Family, opened}
use Rattle.vpg_desk.specs.History.{Event}
use Rattle.vpg_desk.proofs.Places.{at_below}
use Rattle.vpg_office.specs.Fronts.{family_between}
use Rattle.vpg_office.specs.Kept.{IsElsewhere, IsEntryOf, IsInRow, IsLacking, IsShownAt, ShowsEach, IsFront, IsChronicle, line, lines_of, story, story_to}
use Rattle.vpg_office.specs.Story.{Line, line_of, lines_by, events_of, IsStory}
use Rattle.vpg_office.specs.declared.asked.Answer.{Answer}
use Rattle.vpg_office.specs.declared.asked.Answer.TheVariants.{Spent}
use Rattle.vpg_office.specs.declared.asked.SessionCall.TheVariants.{Settled}
use Rattle.vpg_office.specs.declared.chronicle.Chronicle.{Chronicle}
use Rattle.vpg_office.proofs.Stories.{events-length, events-take, same_last, story_take}
use Rattle.vpg_office.specs.declared.asked.Entry.{Entry}
use Rattle.vpg_office.specs.declared.asked.LoggedCall.{LoggedCall}

pub lines_at : (s : ℕ) (ts : List LoggedCall) (i : ℕ) (d : LoggedCall) → i < length ts → (get_or ts i d).session ≡ s → 0 < lines_by s (lines_of ts)
lines_at s [] i d low is = absurd (omega arith)
lines_at s (t ∷ ts) zero d low is = grind (arith, nat_tests)
lines_at s (t ∷ ts) (suc i) d low is = let h = lines_at s ts i d (omega arith) is in omega arith

pub lines_more : (s : ℕ) (ts : List LoggedCall) (i : ℕ) (d : LoggedCall) → i < length ts → (get_or ts i d).session ≢ s → lines_by s (lines_of (take i ts)) ≡ 0 → lines_by s (lines_of (take (i + 1) ts)) ≡ 0
lines_more s ts i d low is none = ap (λ n. lines_by s (lines_of (take n ts))) (add-one i) ∙ by ts i low is none
  where
    by : (ts : List LoggedCall) (i : ℕ) → i < length ts → (get_or ts i d).session ≢ s → lines_by s (lines_of (take i ts)) ≡ 0 → lines_by s (lines_of (take (suc i) ts)) ≡ 0
    by [] i low is none = refl
    by (t ∷ ts) zero low is none = grind (arith, nat_tests)
    by (t ∷ ts) (suc i) low is none = let h = by ts i (omega arith) is (omega arith) in omega arith

pub shows_none : (row : Shelves) → ShowsEach row [] []
shows_none row = record { same = refl; each = λ i p l e. absurd (some-ne-none p (sym e)) }

pub at_end : {A : Type 0} (xs : List A) (a : A) (i : ℕ) (b : A) → get_elem? (xs ++ a ∷ []) i ≡ some b → (get_elem? xs i ≡ some b) ⊎ ((i ≡ length xs) × (a ≡ b))
at_end [] a zero b e = inr (refl, some-injective a b e)
at_end [] a (suc i) b e = absurd (some-ne-none b (sym e))
at_end (x ∷ xs) a zero b e = inl e
at_end (x ∷ xs) a (suc i) b e = ⊎_elim (λ h. inl h) (λ h. inr (ap suc h.0, h.1)) (at_end xs a i b e)

-- one more place, whose entry has the log before it
pub shows_more : (row : Shelves) (places : List (Where Entry)) (lines : List Line) (p : Where Entry) (l : Line) → ShowsEach row places lines → Shows row p → IsEntryOf lines l.session l.asked p.value →
    ShowsEach row (places ++ p ∷ []) (lines ++ l ∷ [])
shows_more row places lines p l h shows is = record {
  same = omega (arith, h.same, length-append places (p ∷ []), length-append lines (l ∷ []));
  each = λ i q m at_q at_m. ⊎_elim
      (λ (old : get_elem? places i ≡ some q).
      let low = at_below places i q old in
      ⊎_elim
      (λ (was : get_elem? lines i ≡ some m).
      let o = h.each i q m old was in
      (o.0, subst (λ (ls : List Line). IsEntryOf ls m.session m.asked q.value) (sym (take-append-le i lines (l ∷ []) (omega (arith, h.same)))) o.1))
      (λ (now : (i ≡ length lines) × (l ≡ m)). absurd (omega (arith, now.0, h.same)))
      (at_end lines l i m at_m))
      (λ (new : (i ≡ length places) × (p ≡ q)).
      let here : i ≡ length lines = new.0 ∙ h.same in
      ⊎_elim
      (λ (was : get_elem? lines i ≡ some m). absurd (omega (arith, at_below lines i m was, here)))
      (λ (now : (i ≡ length lines) × (l ≡ m)). (
        subst (λ (r : Where Entry). Shows row r) new.1 shows,
        subst (λ (r : Where Entry). IsEntryOf (take i (lines ++ l ∷ [])) m.session m.asked r.value) new.1
            (subst (λ (x : Line). IsEntryOf (take i (lines ++ l ∷ [])) x.session x.asked p.value) now.1
            (subst (λ (ls : List Line). IsEntryOf ls l.session l.asked p.value) (sym (ap (λ n. take n (lines ++ l ∷ [])) here ∙ take-append_seam lines (l ∷ []))) is)),
      ))
      (at_end lines l i m at_m))
      (at_end places p i q at_q);
}

get_at : {A : Type 0} (xs : List A) (i : ℕ) (d : A) → i < length xs → get_elem? xs i ≡ some (get_or xs i d)
get_at [] i d h = absurd (omega arith)
get_at (x ∷ xs) zero d h = refl
get_at (x ∷ xs) (suc i) d h = get_at xs i d (omega arith)

-- the token at a place of the log: the calls up to it are those before its entry, and one of its entry's session and asking
pub at_log : (row : Shelves) (places : List (Where Entry)) (lines : List Line) (i : ℕ) (p : Where Entry) (d : Line) → ShowsEach row places lines → i < length places → p ≡ get_or places i p →
    (l : Line) × (Shows row p × IsEntryOf (take i lines) l.session l.asked p.value × (take (i + 1) lines ≡ take i lines ++ l ∷ []))
at_log row places lines i p d h low is =
    let e = h.each i p (get_or lines i d) (get_at places i p low ∙ ap some (sym is)) (get_at lines i d (omega (arith, h.same))) in
    (get_or lines i d, (e.0, e.1, take_more lines i d (omega (arith, h.same))))

pub prefix_take : (n : ℕ) (events : List Event) → IsPrefix (take n events) events
prefix_take n events = (drop n events, take-append-drop n events)

-- ---- fronts by their places

pub front_length : {row : Shelves} {game : NamedGame} {diagram : NamedDiagram} {limit : ℕ} (count : ℕ) (last : Option (Where Entry × Answer)) → IsFront row game diagram limit count last → length (events_of (family_between game diagram) (story_to last)) ≡ count
front_length {row} {game} {diagram} {limit} count last front = events-length (family_between game diagram) opened (story_to last) ∙ sym front.count_is

-- the log has another place at the front's end
pub other_there : (places : List (Where Entry)) (front : List Event) (count : ℕ) (place mine : Where Entry) → length front ≡ count → count - 1 < length places → mine ≡ get_or places (count - 1) mine → ¬ (mine.index ≡ place.index) →
    (q : Where Entry) → get_elem? places (length front - 1) ≡ some q → ¬ (q.index ≡ place.index)
other_there places front count place mine long low is other q at same =
    let here : some mine ≡ some q = sym (get_at places (count - 1) mine low ∙ ap some (sym is)) ∙ ap (λ n. get_elem? places (n - 1)) (sym long) ∙ at in
    other (ap (λ (p : Where Entry). p.index) (some-injective mine q here) ∙ same)

-- the log has no place there
pub none_there : (places : List (Where Entry)) (front : List Event) (count : ℕ) (place : Where Entry) → length front ≡ count → length places < count →
    (q : Where Entry) → get_elem? places (length front - 1) ≡ some q → ¬ (q.index ≡ place.index)
none_there places front count place long high q at same = omega (arith, at_below places (length front - 1) q at, long, high)

pub some_story : (e : Entry) (answer : Answer) → 0 < length (story e answer)
some_story e answer = omega (arith, length-append (lines_of e.before.value.items) (line e.session e.asked.value answer ∷ []))

-- a front with a last call has calls
pub has_calls : (row : Shelves) (game : NamedGame) (diagram : NamedDiagram) (limit count : ℕ) (last : Option (Where Entry × Answer)) (p : Where Entry × Answer) → IsFront row game diagram limit count last → last ≡ Some p → 1 ≤ count
has_calls row game diagram limit count last p front is =
    let size : count ≡ length (story p.0.value p.1) = front.count_is ∙ ap (λ (o : Option (Where Entry × Answer)). length (story_to o)) is in
    let some = some_story p.0.value p.1 in
    omega arith

pub front_long : {row : Shelves} {game : NamedGame} {diagram : NamedDiagram} {limit : ℕ} (count : ℕ) (last : Option (Where Entry × Answer)) (front : List Event) → IsFront row game diagram limit count last →
    events_of (family_between game diagram) (story_to last) ≡ front → length front ≡ count
front_long count last front kept view = ap length (sym view) ∙ front_length count last kept

-- the log lacks a front that ends at this place
pub lacking : {row : Shelves} {game : NamedGame} {diagram : NamedDiagram} {limit : ℕ} (places : List (Where Entry)) (count : ℕ) (last : Option (Where Entry × Answer)) (place told : Where Entry) (answer : Answer) (front : List Event) →
    IsFront row game diagram limit count last → last ≡ Some (place, answer) → told ≡ place → events_of (family_between game diagram) (story_to last) ≡ front →
    ((q : Where Entry) → get_elem? places (length front - 1) ≡ some q → ¬ (q.index ≡ place.index)) → IsLacking row (family_between game diagram) places front told
lacking {row} {game} {diagram} {limit} places count last place told answer front kept is same view other = record {
  shows = subst (λ (p : Where Entry). Shows row p) (sym same) (subst (IsInRow row) is kept.in_row);
  answer = answer;
  ends = sym view ∙ ap (λ (o : Option (Where Entry × Answer)). events_of (family_between game diagram) (story_to o)) is ∙ ap (λ (p : Where Entry). events_of (family_between game diagram) (story p.value answer)) (sym same);
  other = λ q at alike. other q at (alike ∙ ap (λ (p : Where Entry). p.index) same);
}

same_default : (places : List (Where Entry)) (i : ℕ) (d : Where Entry) → i < length places → get_or places i d ≡ get_or places i (get_or places i d)
same_default places i d low = some-injective (get_or places i d) (get_or places i (get_or places i d)) (sym (get_at places i d low) ∙ get_at places i (get_or places i d) low)

-- the entry's story, with a line's answer
its_story : (xs : List Line) (l : Line) (e : Entry) → IsEntryOf xs l.session l.asked e → xs ++ l ∷ [] ≡ story e l.answer
its_story xs l e is = sym (λ i. is.before i ++ line (is.session i) (is.asked i) l.answer ∷ [])

module _ (row : Shelves) (game : NamedGame) (diagram : NamedDiagram) (c : Chronicle) (newest : List Event) (kept : IsChronicle row game diagram c newest) where
  abbrev F : Family
  F = family_between game diagram

  pub newest_length : length newest ≡ length c.told.items
  newest_length = ap length kept.newest_is ∙ events-length F opened (lines_of c.told.items) ∙ length-map c.told.items line_of

  pub is_shown : (count : ℕ) (mine : Where Entry) → count - 1 < length c.places.items → mine ≡ get_or c.places.items (count - 1) mine → Shows row mine
  is_shown count mine low is = (at_log row c.places.items (lines_of c.told.items) (count - 1) mine (line 0 Settled Spent) kept.shows low is).1.0

  -- a front whose last place is the log's there is a beginning of the log
  pub is_beginning : {limit : ℕ} (count : ℕ) (place mine : Where Entry) (answer : Answer) → IsFront row game diagram limit count (Some (place, answer)) → count ≤ length c.places.items → mine ≡ get_or c.places.items (count - 1) mine →
      mine.value ≡ place.value → IsPrefix (events_of F (story place.value answer)) newest
  is_beginning count place mine answer front low is same =
      subst (λ (l : List Event). IsPrefix l newest) (sym events) (prefix_take (count - 1 + 1) newest)
    where
      some_call : 0 < count
      some_call = let e : count ≡ length (story place.value answer) = front.count_is in let s = some_story place.value answer in omega arith

      at : (l : Line) × (Shows row mine × IsEntryOf (take (count - 1) (lines_of c.told.items)) l.session l.asked mine.value × (take (count - 1 + 1) (lines_of c.told.items) ≡ take (count - 1) (lines_of c.told.items) ++ l ∷ []))
      at = at_log row c.places.items (lines_of c.told.items) (count - 1) mine (line 0 Settled Spent) kept.shows (omega (arith, some_call)) is

      l : Line
      l = at.0

      xs : List Line
      xs = take (count - 1) (lines_of c.told.items)

      entry : IsEntryOf xs l.session l.asked place.value
      entry = subst (λ (e : Entry). IsEntryOf xs l.session l.asked e) same at.1.1

      theirs : story place.value answer ≡ xs ++ line place.value.session place.value.asked.value answer ∷ []
      theirs = ap (λ (ls : List Line). ls ++ line place.value.session place.value.asked.value answer ∷ []) entry.before

      events : events_of F (story place.value answer) ≡ take (count - 1 + 1) newest
      events =
          ap (events_of F) theirs
          ∙ same_last game diagram xs (line place.value.session place.value.asked.value answer) l
          (subst (IsStory game diagram) theirs front.is_story) (subst (IsStory game diagram) at.1.2 (story_take game diagram (count - 1 + 1) (lines_of c.told.items) kept.is_story)) entry.session entry.asked
          ∙ ap (events_of F) (sym at.1.2)
          ∙ sym (events-take F opened (count - 1 + 1) (lines_of c.told.items))
          ∙ ap (take (count - 1 + 1)) (sym kept.newest_is)

  -- the log has another call of the row where a front ends that it lacks, or none
  pub elsewhere : (front : List Event) (place : Where Entry) → IsLacking row F c.places.items front place → IsElsewhere row F newest front
  elsewhere front place lacks = record {
    place = place;
    ends = record { shows = lacks.shows; answer = lacks.answer; is = lacks.ends };
    other = decide (cases_lt (length newest) (length front));
  }
    where
      long : 0 < length front
      long = omega (arith, ap length lacks.ends ∙ events-length F opened (story place.value lacks.answer), some_story place.value lacks.answer)

      decide : (length newest < length front) ⊎ (length front ≤ length newest) → (length newest < length front) ⊎ ((q : Where Entry) × (IsShownAt row F (take (length front) newest) q × ¬ (q.index ≡ place.index)))
      decide (inl shorter) = inl shorter
      decide (inr fits) = inr (q, (record { shows = there.1.0; answer = l.answer; is = events }, lacks.other q (get_at c.places.items (length front - 1) place low)))
        where
          low : length front - 1 < length c.places.items
          low = omega (arith, long, fits, kept.shows.same, length-map c.told.items line_of, newest_length)

          q : Where Entry
          q = get_or c.places.items (length front - 1) place

          there : (l : Line) × (Shows row q × IsEntryOf (take (length front - 1) (lines_of c.told.items)) l.session l.asked q.value × (take (length front - 1 + 1) (lines_of c.told.items) ≡ take (length front - 1) (lines_of c.told.items) ++ l ∷ []))
          there = at_log row c.places.items (lines_of c.told.items) (length front - 1) q (line 0 Settled Spent) kept.shows low (same_default c.places.items (length front - 1) place low)

          l : Line
          l = there.0

          xs : List Line
          xs = take (length front - 1) (lines_of c.told.items)

          entry : IsEntryOf xs l.session l.asked q.value
          entry = there.1.1

          theirs : xs ++ l ∷ [] ≡ story q.value l.answer
          theirs = its_story xs l q.value entry

          events : take (length front) newest ≡ events_of F (story q.value l.answer)
          events =
              ap (take (length front)) kept.newest_is
              ∙ events-take F opened (length front) (lines_of c.told.items)
              ∙ ap (λ n. events_of F (take n (lines_of c.told.items))) (omega (arith, long))
              ∙ ap (events_of F) (there.1.2 ∙ theirs)

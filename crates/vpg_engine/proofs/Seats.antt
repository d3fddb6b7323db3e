-- Sessions by their labels: the first of another number, and the calls that are theirs.
use Rattle.std.proofs.Common.{◌≡◌, ℕ, zero, suc, ◌+◌, ◌<◌, ◌≤◌, Bool, true, false, List, [], ◌∷◌, ◌++◌, length, Option, Some, refl, sym, ap, ◌∙◌, subst, arith, eq-eqb, length-append}
use Rattle.std.specs.Prelude.{◌==◌, if◌then◌else◌, slice_index_or, slice_set}
use Rattle.std.proofs.lemmas.Bool.{eqb-true}
use Rattle.vpg_office.specs.Token.{Caller}
use Rattle.vpg_engine.specs.Client.{IsBeyond, IsNumbered, calls_of, nobody, unseated_from}

-- ---- a session that is joined

abbrev pub joined : ℕ → Caller
joined n = record { number = n; calls = 0 }

-- it is pushed
pub pushed : (old mid new : List Caller) (session : Caller) (n : ℕ) → mid ≡ old → new ≡ mid ++ session ∷ [] → n ≡ session.number → session.calls ≡ 0 → new ≡ old ++ joined n ∷ []
pushed old mid new session n same is number fresh = is ∙ (λ k. same k ++ record { number = (sym number) k; calls = fresh k } ∷ [])

calls_more : (sessions : List Caller) (n : ℕ) → calls_of (sessions ++ joined n ∷ []) ≡ calls_of sessions
calls_more [] n = refl
calls_more (c ∷ sessions) n = ap (λ (m : ℕ). c.calls + m) (calls_more sessions n)

-- it has the number of its label
placed_last : (label : ℕ) (sessions : List Caller) (n : ℕ) → n ≡ label + length sessions → unseated_from label (sessions ++ joined n ∷ []) ≡ unseated_from label sessions
placed_last label [] n is =
    let same : n ≡ label = omega (arith, is) in
    ap (λ (t : Bool). if t then unseated_from (label + 1) [] else Some label) (eq-eqb n label same)
placed_last label (c ∷ sessions) n is = ap (λ (rest : Option ℕ). if c.number == label then rest else Some label) (placed_last (label + 1) sessions n (omega (arith, is)))

-- this label's session has another number, or a later one's has
from_here : (t : Bool) (label most : ℕ) (rest : Option ℕ) → label ≤ most → IsBeyond most rest → IsBeyond most (if t then rest else Some label)
from_here true label most rest few is = is
from_here false label most rest few is = (label, (refl, few))

-- it has another one
misplaced_last : (label : ℕ) (sessions : List Caller) (n most : ℕ) → ¬ (n ≡ label + length sessions) → label + length sessions ≤ most → IsBeyond most (unseated_from label (sessions ++ joined n ∷ []))
misplaced_last label [] n most other few = (label, (go (n == label) refl, omega (arith, few)))
  where
    go : (t : Bool) → (n == label) ≡ t → (if t then unseated_from (label + 1) [] else Some label) ≡ Some label
    go true is = absurd (other (eqb-true n label is ∙ omega arith))
    go false is = refl
misplaced_last label (c ∷ sessions) n most other few =
    from_here (c.number == label) label most (unseated_from (label + 1) (sessions ++ joined n ∷ [])) (omega (arith, few)) (misplaced_last (label + 1) sessions n most (λ is. other (is ∙ omega arith)) (omega (arith, few)))

module _ (before after : List Caller) (n : ℕ) (is : after ≡ before ++ joined n ∷ []) where
  pub joined_longer : length after ≡ length before + 1
  joined_longer = ap length is ∙ length-append before (joined n ∷ [])

  pub joined_own : calls_of after ≡ calls_of before
  joined_own = ap (λ (l : List Caller). calls_of l) is ∙ calls_more before n

  pub joined_placed : (next : ℕ) → length before ≡ next → n ≡ next + 1 → unseated_from 1 after ≡ unseated_from 1 before
  joined_placed next long at = ap (λ (l : List Caller). unseated_from 1 l) is ∙ placed_last 1 before n (omega (arith, long, at))

  pub joined_beyond : (next label : ℕ) → length before ≡ next → ¬ (n ≡ next + 1) → next < label → IsBeyond label (unseated_from 1 after)
  joined_beyond next label long other few =
      subst (λ (l : List Caller). IsBeyond label (unseated_from 1 l)) (sym is)
      (misplaced_last 1 before n label (λ at. other (at ∙ omega (arith, long))) (omega (arith, long, few)))

-- ---- a session that stands at a label's place and has another number

misplaced : (label : ℕ) (sessions : List Caller) (place most : ℕ) → place < length sessions → ¬ ((slice_index_or sessions place nobody).number ≡ label + place) → label + place ≤ most → IsBeyond most (unseated_from label sessions)
misplaced label [] place most within other few = absurd (omega (arith, within))
misplaced label (c ∷ sessions) zero most within other few = (label, (go (c.number == label) refl, omega (arith, few)))
  where
    go : (t : Bool) → (c.number == label) ≡ t → (if t then unseated_from (label + 1) sessions else Some label) ≡ Some label
    go true is = absurd (other (eqb-true c.number label is ∙ omega arith))
    go false is = refl
misplaced label (c ∷ sessions) (suc place) most within other few =
    from_here (c.number == label) label most (unseated_from (label + 1) sessions) (omega (arith, few)) (misplaced (label + 1) sessions place most (omega (arith, within)) (λ is. other (is ∙ omega arith)) (omega (arith, few)))

pub unnumbered : (sessions : List Caller) (place label : ℕ) → place + 1 ≡ label → label ≤ length sessions → ¬ IsNumbered sessions place label → IsBeyond label (unseated_from 1 sessions)
unnumbered sessions place label at enough other =
    let within : place < length sessions = omega (arith, at, enough) in
    let here : 1 + place ≡ label = omega (arith, at) in
    misplaced 1 sessions place label within (λ is. other (within, is ∙ here)) (omega (arith, at))

-- ---- a session that made a call

more_at : (a b c m n : ℕ) → a ≡ b + m → b ≡ c → a + n ≡ c + n + m
more_at a b c m n is same = omega (arith, is, same)

more_after : (a m n o : ℕ) → n ≡ o + m → a + n ≡ a + o + m
more_after a m n o is = omega (arith, is)

module _ (before after : Caller) where
  pub counted_at : (sessions : List Caller) (place more : ℕ) → place < length sessions → before ≡ slice_index_or sessions place before → after.calls ≡ before.calls + more →
      calls_of (slice_set sessions place after) ≡ calls_of sessions + more
  counted_at [] place more within here counts = absurd (omega (arith, within))
  counted_at (c ∷ sessions) zero more within here counts = more_at after.calls before.calls c.calls more (calls_of sessions) counts (ap (λ (s : Caller). s.calls) here)
  counted_at (c ∷ sessions) (suc place) more within here counts =
      more_after c.calls more (calls_of (slice_set sessions place after)) (calls_of sessions) (counted_at sessions place more (omega (arith, within)) here counts)

  pub seats_stay : (label : ℕ) (sessions : List Caller) (place : ℕ) → place < length sessions → before ≡ slice_index_or sessions place before → after.number ≡ before.number →
      unseated_from label (slice_set sessions place after) ≡ unseated_from label sessions
  seats_stay label [] place within here same = absurd (omega (arith, within))
  seats_stay label (c ∷ sessions) zero within here same = ap (λ (n : ℕ). if n == label then unseated_from (label + 1) sessions else Some label) (same ∙ ap (λ (s : Caller). s.number) here)
  seats_stay label (c ∷ sessions) (suc place) within here same = ap (λ (rest : Option ℕ). if c.number == label then rest else Some label) (seats_stay (label + 1) sessions place (omega (arith, within)) here same)

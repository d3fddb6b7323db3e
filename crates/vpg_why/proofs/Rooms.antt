-- What a search has room for.
use Rattle.std.proofs.Common.{◌≡◌, ℕ, zero, suc, ◌+◌, ◌-◌, ◌<◌, ◌≤◌, ◌⊎◌, inl, inr, Bool, true, false, cond, List, [], ◌∷◌, ◌++◌, count_by, length, slice_index_or, take, IsTrue, refl, sym, ◌∙◌, ap, subst, add-one, append-nil, append_assoc, arith}
use Rattle.std.proofs.lemmas.Bool.{cases_lt}
use Rattle.std.proofs.lemmas.List.{take_more}
use Rattle.std.proofs.lemmas.List.Elements.{Contains-append_left}
use Rattle.std.proofs.lemmas.List.Sums.{count_by-le-length, sum_by-cons}
use Rattle.vpg_guards.specs.declared.tri.Tri.{Tri}
use Rattle.vpg_guards.specs.declared.tri.Tri.TheVariants.{No, Unknown, Yes}
use Rattle.vpg_guards.specs.Known.{IsFiner, IsFinerValue}
use Rattle.vpg_diagram.specs.DiagramText.{NamedDiagram, IsNamedDiagram}
use Rattle.vpg_diagram.specs.FeatureDiagram.{Line, IsDiagram, feature_count}
use Rattle.vpg_diagram.specs.Clauses.{clauses_of, counts_of}
use Rattle.vpg_diagram.specs.declared.clause.Literal.{Literal}
use Rattle.vpg_diagram.proofs.Lists.{All-back}
use Rattle.vpg_game.specs.Game.{NamedGame}
use Rattle.vpg_partial.specs.Known.{IsKnown}
use Rattle.vpg_partial.specs.KnownTable.{is_known_as}
use Rattle.vpg_partial.specs.TableLaws.{AreAmong, AreChoicesOf, IsKnownTable}
use Rattle.vpg_partial.proofs.Tables.{tables_refine}
use Rattle.vpg_why.specs.declared.question.Aim.{Aim}
use Rattle.vpg_why.specs.declared.question.Limits.{Limits}
use Rattle.vpg_why.specs.declared.question.Question.TheVariants as asks
use Rattle.vpg_why.specs.Found.{IsOpen, HasRoom}
use Rattle.vpg_why.specs.Suffices.{choice, is_open, most_trials, AreOpenUpTo, HasTrials, AimSettles, AimSettlesUnder, IsSettled}
use Rattle.vpg_why.proofs.Monotone.{earlier}

clash : false ≡ true → ⊥
clash e = cc

pub one_less : (n : ℕ) → (n ≡ 0 → ⊥) → n ≡ suc (n - 1)
one_less zero h = absurd (h refl)
one_less (suc n) h = omega arith

trials_step : (n : ℕ) → most_trials (n + 1) ≡ suc (most_trials n + most_trials n)
trials_step n = ap most_trials (add-one n)

pub trials_grow : (n m : ℕ) → n ≤ m → most_trials n ≤ most_trials m
trials_grow zero m le = omega arith
trials_grow (suc n) zero le = absurd (omega (arith, le))
trials_grow (suc n) (suc m) le = let h = trials_grow n m (omega (arith, le)) in omega (arith, h)

-- ---- open features

-- what is known more finely has fewer open features, in order
fewer_of : (t u : Tri) → IsFinerValue t u → cond (is_open u) 1 0 ≤ cond (is_open t) 1 0
fewer_of No u h = rw h (omega arith)
fewer_of Unknown No h = omega arith
fewer_of Unknown Unknown h = omega arith
fewer_of Unknown Yes h = omega arith
fewer_of Yes u h = rw h (omega arith)

count_step : (t : Tri) (ts : List Tri) → count_by is_open (t ∷ ts) ≡ cond (is_open t) 1 0 + count_by is_open ts
count_step t ts = sum_by-cons (λ y. cond (is_open y) 1 0) t ts

pub fewer_open : (known more : List Tri) → length known ≡ length more → IsFiner known more → count_by is_open more ≤ count_by is_open known
fewer_open [] [] e h = omega arith
fewer_open [] (u ∷ us) e h = absurd (omega (arith, e))
fewer_open (t ∷ ts) [] e h = absurd (omega (arith, e))
fewer_open (t ∷ ts) (u ∷ us) e h =
    omega (arith, count_step t ts, count_step u us, fewer_of t u (h 0), fewer_open ts us (omega (arith, e)) (λ f. h (suc f)))

open_to_known : (t u : Tri) → t ≡ Unknown → (u ≡ Unknown → ⊥) → suc (cond (is_open u) 1 0) ≤ cond (is_open t) 1 0
open_to_known No u e h = cc e
open_to_known Unknown No e h = omega arith
open_to_known Unknown Unknown e h = absurd (h refl)
open_to_known Unknown Yes e h = omega arith
open_to_known Yes u e h = cc e

-- and fewer still if an open one is known there
pub one_fewer : (known more : List Tri) (g : ℕ) → length known ≡ length more → IsFiner known more → g < length known →
    slice_index_or known g Unknown ≡ Unknown → (slice_index_or more g Unknown ≡ Unknown → ⊥) →
    suc (count_by is_open more) ≤ count_by is_open known
one_fewer [] more g e h less was is = absurd (omega (arith, less))
one_fewer (t ∷ ts) [] g e h less was is = absurd (omega (arith, e))
one_fewer (t ∷ ts) (u ∷ us) zero e h less was is =
    omega (arith, count_step t ts, count_step u us, open_to_known t u was is, fewer_open ts us (omega (arith, e)) (λ f. h (suc f)))
one_fewer (t ∷ ts) (u ∷ us) (suc g) e h less was is =
    omega (arith, count_step t ts, count_step u us, fewer_of t u (h 0), one_fewer ts us g (omega (arith, e)) (λ f. h (suc f)) (omega (arith, less)) was is)

some_open : (known : List Tri) (g : ℕ) → g < length known → slice_index_or known g Unknown ≡ Unknown → 1 ≤ count_by is_open known
some_open [] g less is = absurd (omega (arith, less))
some_open (t ∷ ts) zero less is = omega (arith, count_step t ts, of t is)
  where
    of : (t : Tri) → t ≡ Unknown → 1 ≤ cond (is_open t) 1 0
    of No e = cc e
    of Unknown e = omega arith
    of Yes e = cc e
some_open (t ∷ ts) (suc g) less is = omega (arith, count_step t ts, some_open ts g (omega (arith, less)) is)

not_unknown : (t : Tri) (value : Bool) → IsTrue (is_known_as t value) → t ≡ Unknown → ⊥
not_unknown t value h e = clash (subst (λ (u : Tri). IsTrue (is_known_as u value)) e h)

-- not more than all are open
pub open_up_to_all : (lines : List Line) (choices : List Literal) → AreOpenUpTo (feature_count lines) lines choices
open_up_to_all lines choices known t = subst (λ n. count_by is_open known ≤ n) t.length_is (count_by-le-length is_open known)

-- more choices leave no more open
pub open_stays : (lines : List Line) (few many : List Literal) (most : ℕ) → IsDiagram lines → AreChoicesOf lines few → AreAmong few many →
    AreOpenUpTo most lines few → AreOpenUpTo most lines many
open_stays lines few many most is named among up more u = of (earlier lines few many is named among more u)
  where
    of : (known : List Tri) × IsKnownTable lines few known → count_by is_open more ≤ most
    of k = let a = up k.0 k.1 in
        let b = fewer_open k.0 more (k.1.length_is ∙ sym u.length_is) (tables_refine lines few many k.0 more among k.1 u) in omega (arith, a, b)

module _ (diagram : NamedDiagram) (choices : List Literal) (f : ℕ) (value : Bool) (is : IsOpen diagram choices f) where
  among : AreAmong choices (choices ++ choice f value ∷ [])
  among c h = Contains-append_left choices (choice f value ∷ []) c h

  own : IsKnown (clauses_of diagram.lines) (counts_of diagram.lines) (choices ++ choice f value ∷ []) (choice f value)
  own set closed held = (All-back (λ d. IsTrue (set d)) choices (choice f value ∷ []) held).0

  inside : f < length is.known
  inside = subst (λ n. f < n) (sym is.is_table.length_is) is.within

  -- some feature is open
  pub open_here : (most : ℕ) → AreOpenUpTo most diagram.lines choices → 1 ≤ most
  open_here most up = let a = up is.known is.is_table in let b = some_open is.known f inside is.unknown in omega (arith, a, b)

  -- with one more choice, which decides the first open feature
  pub child_open : (most : ℕ) → AreOpenUpTo most diagram.lines choices → AreOpenUpTo (most - 1) diagram.lines (choices ++ choice f value ∷ [])
  child_open most up more u =
      let a = up is.known is.is_table in
      let b = one_fewer is.known more f (is.is_table.length_is ∙ sym u.length_is) (tables_refine diagram.lines choices (choices ++ choice f value ∷ []) is.known more among is.is_table u) inside is.unknown
      (not_unknown (slice_index_or more f Unknown) value (u.all_known (choice f value) own)) in
      omega (arith, a, b)

  pub child_room : (depth less trials left : ℕ) → depth ≡ suc less → (room : HasRoom diagram choices depth trials) → most_trials room.most ≤ left → HasRoom diagram (choices ++ choice f value ∷ []) less left
  child_room depth less trials left e room enough = record {
    most = room.most - 1;
    are_open = child_open room.most room.are_open;
    deep = let d = room.deep in let o = open_here room.most room.are_open in omega (arith, d, e, o);
    enough = subst (λ n. most_trials n ≤ left) (let o = open_here room.most room.are_open in omega (arith, o)) enough;
  }

  -- what a search with one more choice leaves
  pub left_after_half : (most before after : ℕ) → AreOpenUpTo most diagram.lines choices →
      ((n : ℕ) → AreOpenUpTo n diagram.lines (choices ++ choice f value ∷ []) → before ≤ after + most_trials (n + 1)) → before ≤ after + most_trials most
  left_after_half most before after up h =
      subst (λ n. before ≤ after + most_trials n) (let o = open_here most up in omega (arith, o)) (h (most - 1) (child_open most up))

  pub child_settles : (rounds : ℕ) (game : NamedGame) (aim : Aim) → AimSettles rounds game diagram aim choices → AimSettles rounds game diagram aim (choices ++ choice f value ∷ [])
  child_settles rounds game aim h more = subst (λ (cs : List Literal). AimSettlesUnder rounds game diagram aim cs) (sym (append_assoc choices (choice f value ∷ []) more)) (h (choice f value ∷ more))

-- the choices alone
pub settles_here : (rounds : ℕ) (game : NamedGame) (diagram : NamedDiagram) (aim : Aim) (choices : List Literal) → AimSettles rounds game diagram aim choices → AimSettlesUnder rounds game diagram aim choices
settles_here rounds game diagram aim choices h = subst (λ (cs : List Literal). AimSettlesUnder rounds game diagram aim cs) (append-nil choices) (h [])

-- a search of all has room where the trials suffice
pub whole_room : (diagram : NamedDiagram) (choices : List Literal) (depth trials : ℕ) → depth ≡ feature_count diagram.lines + 1 → HasTrials diagram.lines choices trials → HasRoom diagram choices depth trials
whole_room diagram choices depth trials e has = of (cases_lt (feature_count diagram.lines) has.most)
  where
    of : (feature_count diagram.lines < has.most) ⊎ (has.most ≤ feature_count diagram.lines) → HasRoom diagram choices depth trials
    of (inl less) = record {
      most = feature_count diagram.lines;
      are_open = open_up_to_all diagram.lines choices;
      deep = omega (arith, e);
      enough = let m = trials_grow (feature_count diagram.lines + 1) (has.most + 1) (omega (arith, less)) in let n = has.enough in omega (arith, m, n);
    }
    of (inr le) = record { most = has.most; are_open = has.are_open; deep = omega (arith, le, e); enough = has.enough }

-- with one more choice
pub settled_more : (game : NamedGame) (diagram : NamedDiagram) (limits : Limits) (aim : Aim) (choices : List Literal) (c : Literal) → IsNamedDiagram diagram → AreChoicesOf diagram.lines choices →
    IsSettled game diagram limits (asks.Lost aim) choices → IsSettled game diagram limits (asks.Lost aim) (choices ++ c ∷ [])
settled_more game diagram limits aim choices c is named s = (
  (λ more. subst (λ (cs : List Literal). AimSettlesUnder limits.rounds game diagram aim cs) (sym (append_assoc choices (c ∷ []) more)) (s.0 (c ∷ more))),
  record {
    most = s.1.most;
    are_open = open_stays diagram.lines choices (choices ++ c ∷ []) s.1.most is.diagram named (λ x h. Contains-append_left choices (c ∷ []) x h) s.1.are_open;
    enough = s.1.enough;
  },
)

module _ (diagram : NamedDiagram) (choices : List Literal) where
  pub no_depth : (depth trials : ℕ) → depth ≡ 0 → HasRoom diagram choices depth trials → ⊥
  no_depth depth trials e room = let d = room.deep in omega (arith, d, e)

  pub room_trials : (depth trials : ℕ) → (room : HasRoom diagram choices depth trials) → suc (most_trials room.most + most_trials room.most) ≤ trials
  room_trials depth trials room = let e = trials_step room.most in let h = room.enough in omega (arith, e, h)

  pub no_trials : (depth trials : ℕ) → trials ≡ 0 → HasRoom diagram choices depth trials → ⊥
  no_trials depth trials e room = let h = room_trials depth trials room in omega (arith, h, e)

-- what a trial and the two searches behind it spent
pub spent : (depth less trials after left : ℕ) → depth ≡ suc less → trials ≤ suc after → after ≤ left + (most_trials less + most_trials less) → trials ≤ left + most_trials depth
spent depth less trials after left e one both = subst (λ n. trials ≤ left + most_trials n) (sym_suc e) (omega (arith, one, both))
  where
    sym_suc : depth ≡ suc less → suc less ≡ depth
    sym_suc h = omega (arith, h)

-- the same by open features
pub open_spent : (most trials after left : ℕ) → trials ≤ suc after → after ≤ left + (most_trials most + most_trials most) → trials ≤ left + most_trials (most + 1)
open_spent most trials after left one both = spent (most + 1) most trials after left (omega arith) one both

-- a trial alone
pub one_spent : (most trials left : ℕ) → trials ≤ suc left → trials ≤ left + most_trials (most + 1)
one_spent most trials left one = let h = trials_grow 1 (most + 1) (omega arith) in omega (arith, one, h)

-- what is left for a first half suffices for it, if at most half is kept for the second
pub enough_kept : (most trials kept : ℕ) → suc (most_trials most + most_trials most) ≤ trials → kept + kept ≤ trials - 1 → most_trials most ≤ (trials - 1) - kept
enough_kept most trials kept room half = omega (arith, room, half)

-- ---- the cases of the first features, counted

count_front : (known : List Tri) (k : ℕ) → count_by is_open (take k known) ≤ count_by is_open known
count_front known zero = omega arith
count_front [] (suc k) = omega arith
count_front (t ∷ ts) (suc k) = omega (arith, count_step t (take k ts), count_step t ts, count_front ts k)

opened : (t : Tri) → t ≡ Unknown → ◌≡◌ {A = ℕ} (cond (is_open t) 1 0) 1
opened No e = cc e
opened Unknown e = refl
opened Yes e = cc e

closed : (t : Tri) → (t ≡ Unknown → ⊥) → ◌≡◌ {A = ℕ} (cond (is_open t) 1 0) 0
closed No h = refl
closed Unknown h = absurd (h refl)
closed Yes h = refl

count_last : (ts : List Tri) (t : Tri) → count_by is_open (ts ++ t ∷ []) ≡ count_by is_open ts + cond (is_open t) 1 0
count_last [] t = omega (arith, count_step t [])
count_last (u ∷ us) t = omega (arith, count_step u (us ++ t ∷ []), count_step u us, count_last us t)

next_front : (known : List Tri) (f : ℕ) → f < length known → take (f + 1) known ≡ take f known ++ slice_index_or known f Unknown ∷ []
next_front known f less = take_more known f Unknown less

open_more : (known : List Tri) (f : ℕ) → f < length known → slice_index_or known f Unknown ≡ Unknown → count_by is_open (take (f + 1) known) ≡ suc (count_by is_open (take f known))
open_more known f less is =
    let e = ap (λ (ts : List Tri). count_by is_open ts) (next_front known f less) in
    let l = count_last (take f known) (slice_index_or known f Unknown) in
    let o = opened (slice_index_or known f Unknown) is in omega (arith, e, l, o)

open_same : (known : List Tri) (f : ℕ) → f < length known → (slice_index_or known f Unknown ≡ Unknown → ⊥) → count_by is_open (take (f + 1) known) ≡ count_by is_open (take f known)
open_same known f less is =
    let e = ap (λ (ts : List Tri). count_by is_open ts) (next_front known f less) in
    let l = count_last (take f known) (slice_index_or known f Unknown) in
    let o = closed (slice_index_or known f Unknown) is in omega (arith, e, l, o)

module _ (known : List Tri) (f cases : ℕ) (inside : f < length known) (are : cases ≡ most_trials (count_by is_open (take f known) + 1)) where
  pub cases_more : slice_index_or known f Unknown ≡ Unknown → cases + cases + 1 ≡ most_trials (count_by is_open (take (f + 1) known) + 1)
  cases_more is = let e = trials_step (count_by is_open (take (f + 1) known)) in
      let n = ap most_trials (open_more known f inside is ∙ sym (add-one (count_by is_open (take f known)))) in omega (arith, e, n, are)

  pub cases_same : (slice_index_or known f Unknown ≡ Unknown → ⊥) → cases ≡ most_trials (count_by is_open (take (f + 1) known) + 1)
  cases_same is = are ∙ ap (λ n. most_trials (n + 1)) (sym (open_same known f inside is))

  -- one more open feature has too many
  pub too_many : (trials : ℕ) → slice_index_or known f Unknown ≡ Unknown → trials - cases ≤ cases → most_trials (count_by is_open known + 1) ≤ trials → ⊥
  too_many trials is over enough =
      let m = cases_more is in
      let g = trials_grow (count_by is_open (take (f + 1) known) + 1) (count_by is_open known + 1) (let c = count_front known (f + 1) in omega (arith, c)) in
      omega (arith, m, g, over, enough)

-- the trials that suffice for a page's open features are those that are counted
pub page_trials : (lines : List Line) (choices : List Literal) (known : List Tri) (trials : ℕ) → IsKnownTable lines choices known → HasTrials lines choices trials → most_trials (count_by is_open known + 1) ≤ trials
page_trials lines choices known trials t has = let u = has.are_open known t in
    let g = trials_grow (count_by is_open known + 1) (has.most + 1) (omega (arith, u)) in let e = has.enough in omega (arith, g, e)

-- Reasons of a search that finds nothing.
use Rattle.std.proofs.Common.{◌≡◌, ℕ, suc, ◌+◌, ◌<◌, ◌≤◌, ◌||◌, ◌&&◌, not, IsTrue, ◌⊎◌, inl, inr, Bool, true, false, List, [], get_or, take, ◌∷◌, ◌++◌, length, replicate, refl, sym, ap, ◌∙◌, subst, arith, append-nil}
use Rattle.std.specs.List.{AllByRecursion}
use Rattle.std.proofs.lemmas.List.{get_or-map, length-append, length-map, length-replicate, length-take-le, map-append, take_all, take_more}
use Rattle.vpg_features.proofs.Noted.{any_default}
use Rattle.vpg_diagram.specs.DiagramText.{NamedDiagram}
use Rattle.vpg_diagram.specs.FeatureDiagram.{Line, feature_count}
use Rattle.vpg_diagram.specs.Clauses.{IsTrueIn}
use Rattle.vpg_diagram.specs.declared.clause.Literal.{Literal}
use Rattle.vpg_diagram.proofs.Lists.{All-append, All-front, All-back}
use Rattle.vpg_game.specs.Game.{NamedGame}
use Rattle.vpg_partial.specs.KnownLaws.{IsRemaining}
use Rattle.vpg_partial.specs.TableLaws.{AreChoicesOf}
use Rattle.vpg_partial.specs.Known.{literal_of}
use Rattle.vpg_partial.specs.declared.decision.Decision.{Decision}
use Rattle.vpg_why.specs.Explained.{choices}
use Rattle.vpg_why.specs.declared.question.Aim.{Aim}
use Rattle.vpg_why.specs.declared.searching.Example.{Example}
use Rattle.vpg_why.specs.declared.searching.Reasoned.{Reasoned}
use Rattle.vpg_why.specs.declared.searching.Reasoned.TheVariants as reasons
use Rattle.vpg_why.specs.Found.{IsFoundProduct}
use Rattle.vpg_why.specs.Products.{AgreeBelow, Meets, NoneMeets}
use Rattle.vpg_why.specs.Reasons.{marked, either_of, IsReason, IsTaken}
use Rattle.vpg_why.specs.Suffices.{choice}
use Rattle.vpg_why.proofs.First.{found_with, found_without}
use Rattle.vpg_why.proofs.OpenFeatures.{either_value}

one_fewer : (m n : ℕ) → suc m ≡ suc n → m ≡ n
one_fewer m n e = omega arith

last_fewer : (m n : ℕ) → m + 1 ≡ n + 1 → m ≡ n
last_fewer m n e = omega arith

-- ---- marks

-- what a last mark adds
abbrev pub if_marked : {X : Type 0} → Bool → X → List X
if_marked true x = x ∷ []
if_marked false x = []

pub marked_last : {X : Type 0} (ms : List Bool) (xs : List X) (m : Bool) (x : X) → length ms ≡ length xs →
    marked (ms ++ m ∷ []) (xs ++ x ∷ []) ≡ marked ms xs ++ if_marked m x
marked_last [] [] true x e = refl
marked_last [] [] false x e = refl
marked_last [] (y ∷ ys) m x e = absurd (omega (arith, e))
marked_last (n ∷ ns) [] m x e = absurd (omega (arith, e))
marked_last (true ∷ ns) (y ∷ ys) m x e = ap (λ zs. y ∷ zs) (marked_last ns ys m x (one_fewer (length ns) (length ys) e))
marked_last (false ∷ ns) (y ∷ ys) m x e = marked_last ns ys m x (one_fewer (length ns) (length ys) e)

pub all_marked : {X : Type 0} (xs : List X) → marked (replicate (length xs) true) xs ≡ xs
all_marked [] = refl
all_marked (x ∷ xs) = ap (λ zs. x ∷ zs) (all_marked xs)

-- what holds of all holds of those marked
pub all_of_marked : {X : Type 0} (P : X → Type 0) (ms : List Bool) (xs : List X) → AllByRecursion P xs → AllByRecursion P (marked ms xs)
all_of_marked P [] xs all = tt
all_of_marked P (m ∷ ms) [] all = tt
all_of_marked P (true ∷ ms) (x ∷ xs) all = (all.0, all_of_marked P ms xs all.1)
all_of_marked P (false ∷ ms) (x ∷ xs) all = all_of_marked P ms xs all.1

pub either_left : {X : Type 0} (P : X → Type 0) (one other : List Bool) (xs : List X) →
    AllByRecursion P (marked (either_of one other) xs) → AllByRecursion P (marked one xs)
either_left P [] other xs all = tt
either_left P (n ∷ ns) [] xs all = all
either_left P (n ∷ ns) (m ∷ ms) [] all = tt
either_left P (true ∷ ns) (m ∷ ms) (x ∷ xs) all = (all.0, either_left P ns ms xs all.1)
either_left P (false ∷ ns) (true ∷ ms) (x ∷ xs) all = either_left P ns ms xs all.1
either_left P (false ∷ ns) (false ∷ ms) (x ∷ xs) all = either_left P ns ms xs all

pub either_right : {X : Type 0} (P : X → Type 0) (one other : List Bool) (xs : List X) → length one ≡ length other →
    AllByRecursion P (marked (either_of one other) xs) → AllByRecursion P (marked other xs)
either_right P [] [] xs e all = tt
either_right P [] (m ∷ ms) xs e all = absurd (omega (arith, e))
either_right P (n ∷ ns) [] xs e all = tt
either_right P (n ∷ ns) (m ∷ ms) [] e all = tt
either_right P (true ∷ ns) (true ∷ ms) (x ∷ xs) e all = (all.0, either_right P ns ms xs (one_fewer (length ns) (length ms) e) all.1)
either_right P (true ∷ ns) (false ∷ ms) (x ∷ xs) e all = either_right P ns ms xs (one_fewer (length ns) (length ms) e) all.1
either_right P (false ∷ ns) (true ∷ ms) (x ∷ xs) e all = (all.0, either_right P ns ms xs (one_fewer (length ns) (length ms) e) all.1)
either_right P (false ∷ ns) (false ∷ ms) (x ∷ xs) e all = either_right P ns ms xs (one_fewer (length ns) (length ms) e) all

-- one more of a list in turn
pub kept_more : {X : Type 0} (ms : List Bool) (xs : List X) (i : ℕ) (m : Bool) (x : X) → length ms ≡ length xs → i < length xs →
    get_or ms i m ≡ m → get_or xs i x ≡ x → marked (take (i + 1) ms) (take (i + 1) xs) ≡ marked (take i ms) (take i xs) ++ if_marked m x
kept_more ms xs i m x e less is_m is_x =
    ap (λ ns. marked ns (take (i + 1) xs)) (take_more ms i m (subst (λ n. i < n) (sym e) less) ∙ ap (λ n. take i ms ++ n ∷ []) is_m)
    ∙ ap (λ ys. marked (take i ms ++ m ∷ []) ys) (take_more xs i x less ∙ ap (λ y. take i xs ++ y ∷ []) is_x)
    ∙ marked_last (take i ms) (take i xs) m x (length-take-le i ms (omega (arith, e, less)) ∙ sym (length-take-le i xs (omega (arith, less))))

either_last : (ns ms : List Bool) (n m : Bool) → length ns ≡ length ms → either_of (ns ++ n ∷ []) (ms ++ m ∷ []) ≡ either_of ns ms ++ (n || m) ∷ []
either_last [] [] n m e = refl
either_last [] (k ∷ ms) n m e = absurd (omega (arith, e))
either_last (k ∷ ns) [] n m e = absurd (omega (arith, e))
either_last (k ∷ ns) (j ∷ ms) n m e = ap (λ zs. (k || j) ∷ zs) (either_last ns ms n m (one_fewer (length ns) (length ms) e))

pub either_more : (ns ms : List Bool) (i : ℕ) (n m : Bool) → length ns ≡ length ms → i < length ns → get_or ns i n ≡ n → get_or ms i m ≡ m →
    either_of (take (i + 1) ns) (take (i + 1) ms) ≡ either_of (take i ns) (take i ms) ++ (n || m) ∷ []
either_more ns ms i n m e less is_n is_m =
    ap (λ xs. either_of xs (take (i + 1) ms)) (take_more ns i n less ∙ ap (λ x. take i ns ++ x ∷ []) is_n)
    ∙ ap (λ ys. either_of (take i ns ++ n ∷ []) ys) (take_more ms i m (subst (λ k. i < k) e less) ∙ ap (λ y. take i ms ++ y ∷ []) is_m)
    ∙ either_last (take i ns) (take i ms) n m (length-take-le i ns (omega (arith, less)) ∙ sym (length-take-le i ms (omega (arith, e, less))))

pub length-either : (one other : List Bool) → length (either_of one other) ≡ length one
length-either [] other = refl
length-either (n ∷ ns) [] = refl
length-either (n ∷ ns) (m ∷ ms) = ap suc (length-either ns ms)

-- ---- decisions that are kept

literal_at : (ds : List Decision) (i : ℕ) (l : Literal) (d : Decision) → i < length ds → get_or (choices ds) i l ≡ literal_of (get_or ds i d)
literal_at ds i l d less = get_or-map literal_of ds i d l less

pub keep_one : (ds : List Decision) (ms : List Bool) (i : ℕ) (d : Decision) (old new : List Decision) → length ms ≡ length ds → i < length ds → get_or ms i true ≡ true → get_or ds i d ≡ d →
    new ≡ old ++ d ∷ [] → choices old ≡ marked (take i ms) (take i (choices ds)) → choices new ≡ marked (take (i + 1) ms) (take (i + 1) (choices ds))
keep_one ds ms i d old new e less is_m is_d step so_far =
    ap choices step ∙ map-append literal_of old (d ∷ []) ∙ ap (λ ls. ls ++ literal_of d ∷ []) so_far
    ∙ sym (kept_more ms (choices ds) i true (literal_of d) (e ∙ sym (length-map ds literal_of)) (subst (λ n. i < n) (sym (length-map ds literal_of)) less) is_m
    (literal_at ds i (literal_of d) d less ∙ ap literal_of is_d))

any : Literal
any = record { feature = 0; value = false }

pub drop_one : (ds : List Decision) (ms : List Bool) (i : ℕ) (old new : List Decision) → length ms ≡ length ds → i < length ds → get_or ms i false ≡ false →
    new ≡ old → choices old ≡ marked (take i ms) (take i (choices ds)) → choices new ≡ marked (take (i + 1) ms) (take (i + 1) (choices ds))
drop_one ds ms i old new e less is_m step so_far =
    let inside : i < length (choices ds) = subst (λ n. i < n) (sym (length-map ds literal_of)) less in
    ap choices step ∙ so_far ∙ sym (append-nil (marked (take i ms) (take i (choices ds))))
    ∙ sym (kept_more ms (choices ds) i false (get_or (choices ds) i any) (e ∙ sym (length-map ds literal_of)) inside is_m (any_default (choices ds) i (get_or (choices ds) i any) any inside))

pub all_kept : (ds : List Decision) (ms : List Bool) (i : ℕ) (kept : List Decision) → length ms ≡ length ds → length ds ≤ i → choices kept ≡ marked (take i ms) (take i (choices ds)) → choices kept ≡ marked ms (choices ds)
all_kept ds ms i kept e past so_far = so_far
    ∙ ap (λ ns. marked ns (take i (choices ds))) (take_all i ms (omega (arith, e, past)))
    ∙ ap (λ ls. marked ms ls) (take_all i (choices ds) (subst (λ n. n ≤ i) (sym (length-map ds literal_of)) past))

-- ---- reasons

module _ (game : NamedGame) (diagram : NamedDiagram) (aim : Aim) (chosen : List Literal) where
  -- what is marked agrees where all does
  pub reason_is_lost : (more : List Literal) (marks : List Bool) → IsReason game diagram aim chosen more marks → NoneMeets game diagram aim (chosen ++ more)
  reason_is_lost more marks is set remains meets = is.lost set (record {
    product = remains.product;
    agrees = All-append (λ d. IsTrueIn set d) (marked marks chosen) more
        (all_of_marked (λ d. IsTrueIn set d) marks chosen (All-front (λ d. IsTrueIn set d) chosen more remains.agrees))
        (All-back (λ d. IsTrueIn set d) chosen more remains.agrees);
  }) meets

  pub nothing_is_lost : (marks : List Bool) → IsReason game diagram aim chosen [] marks → NoneMeets game diagram aim chosen
  nothing_is_lost marks is = subst (λ (cs : List Literal). NoneMeets game diagram aim cs) (append-nil chosen) (reason_is_lost [] marks is)

  -- all of them are a reason
  pub all_are_reason : (marks : List Bool) → marks ≡ replicate (length chosen) true → NoneMeets game diagram aim chosen → IsReason game diagram aim chosen [] marks
  all_are_reason marks same lost = subst (λ (ms : List Bool). IsReason game diagram aim chosen [] ms) (sym same) (record {
    count = length-replicate (length chosen) true;
    lost = subst (λ (cs : List Literal). NoneMeets game diagram aim cs) (sym (append-nil (marked (replicate (length chosen) true) chosen) ∙ all_marked chosen)) lost;
  })

  -- those that are kept are a reason
  pub kept_are_reason : (marks : List Bool) (kept : List Literal) → length marks ≡ length chosen → kept ≡ marked marks chosen → NoneMeets game diagram aim kept → IsReason game diagram aim chosen [] marks
  kept_are_reason marks kept count same lost = record {
    count = count;
    lost = subst (λ (cs : List Literal). NoneMeets game diagram aim cs) (same ∙ sym (append-nil (marked marks chosen))) lost;
  }

  module _ (f : ℕ) (value : Bool) (front : List Bool) where
    counted : (last : Bool) → length (front ++ last ∷ []) ≡ length (chosen ++ choice f value ∷ []) → length front ≡ length chosen
    counted last e = last_fewer (length front) (length chosen) (sym (length-append front (last ∷ [])) ∙ e ∙ length-append chosen (choice f value ∷ []))

    -- a reason that does not name the feature is one of all
    pub reason_without : (marks : List Bool) → marks ≡ front ++ false ∷ [] → IsReason game diagram aim (chosen ++ choice f value ∷ []) [] marks → IsReason game diagram aim chosen [] front
    reason_without marks split is =
        let count = counted false (sym (ap (λ (ms : List Bool). length ms) split) ∙ is.count) in
        record {
          count = count;
          lost = subst (λ (cs : List Literal). NoneMeets game diagram aim (cs ++ [])) (ap (λ (ms : List Bool). marked ms (chosen ++ choice f value ∷ [])) split ∙ marked_last front chosen false (choice f value) count ∙ append-nil (marked front chosen)) is.lost;
        }

    -- one that names it is one of those before it, beside the feature
    pub reason_with : (marks : List Bool) → marks ≡ front ++ true ∷ [] → IsReason game diagram aim (chosen ++ choice f value ∷ []) [] marks → IsReason game diagram aim chosen (choice f value ∷ []) front
    reason_with marks split is =
        let count = counted true (sym (ap (λ (ms : List Bool). length ms) split) ∙ is.count) in
        record {
          count = count;
          lost = subst (λ (cs : List Literal). NoneMeets game diagram aim cs) (append-nil (marked marks (chosen ++ choice f value ∷ [])) ∙ ap (λ (ms : List Bool). marked ms (chosen ++ choice f value ∷ [])) split ∙ marked_last front chosen true (choice f value) count) is.lost;
        }

  -- what either half names is a reason of both
  pub reason_of_both : (f : ℕ) (value : Bool) (one other : List Bool) → IsReason game diagram aim chosen (choice f value ∷ []) one → IsReason game diagram aim chosen (choice f (not value) ∷ []) other →
      IsReason game diagram aim chosen [] (either_of one other)
  reason_of_both f value one other with_it without = record {
    count = length-either one other ∙ with_it.count;
    lost = λ set remains meets. of set (agree set remains) remains meets (either_value set f value);
  }
    where
      Marked : List Bool → List Bool → Type 0
      Marked set marks = AllByRecursion (λ d. IsTrueIn set d) (marked marks chosen)

      agree : (set : List Bool) → IsRemaining diagram.lines (marked (either_of one other) chosen ++ []) set → Marked set (either_of one other)
      agree set remains = All-front (λ d. IsTrueIn set d) (marked (either_of one other) chosen) [] remains.agrees

      of : (set : List Bool) → Marked set (either_of one other) → IsRemaining diagram.lines (marked (either_of one other) chosen ++ []) set → Meets game aim set →
          IsTrueIn set (choice f value) ⊎ IsTrueIn set (choice f (not value)) → ⊥
      of set agrees remains meets (inl e) = with_it.lost set (record {
        product = remains.product;
        agrees = All-append (λ d. IsTrueIn set d) (marked one chosen) (choice f value ∷ []) (either_left (λ d. IsTrueIn set d) one other chosen agrees) (e, tt);
      }) meets
      of set agrees remains meets (inr e) = without.lost set (record {
        product = remains.product;
        agrees = All-append (λ d. IsTrueIn set d) (marked other chosen) (choice f (not value) ∷ []) (either_right (λ d. IsTrueIn set d) one other chosen (with_it.count ∙ sym without.count) agrees) (e, tt);
      }) meets

-- choices that are marked are choices
pub marked_choices : (lines : List Line) (marks : List Bool) (chosen kept : List Literal) → kept ≡ marked marks chosen → AreChoicesOf lines chosen → AreChoicesOf lines kept
marked_choices lines marks chosen kept same named = subst (λ (cs : List Literal). AreChoicesOf lines cs) (sym same) (all_of_marked (λ (c : Literal). c.feature < feature_count lines) marks chosen named)

-- ---- what a search took

pub taken_less : (before after : ℕ) (found : Reasoned) → after < before → IsTaken before after found
taken_less before after (reasons.Product example) less = less
taken_less before after (reasons.Nothing marks) less = less
taken_less before after reasons.Unsettled less = omega (arith, less)

pub taken_left : (before after : ℕ) (found : Reasoned) → IsTaken before after found → after ≤ before
taken_left before after (reasons.Product example) less = omega (arith, less)
taken_left before after (reasons.Nothing marks) less = omega (arith, less)
taken_left before after reasons.Unsettled less = less

-- ---- products of halves

and_true : (b : Bool) → b ≡ (b && true)
and_true true = refl
and_true false = refl

and_false : (b : Bool) → IsTrue (b && false) → ⊥
and_false true t = clash t
  where
    clash : false ≡ true → ⊥
    clash x = cc
and_false false t = clash t
  where
    clash : false ≡ true → ⊥
    clash x = cc

module _ (game : NamedGame) (diagram : NamedDiagram) (aim : Aim) (chosen : List Literal) (f : ℕ) where
  of_half : (value : Bool) (set : List Bool) (first : Bool) → IsFoundProduct game diagram aim (chosen ++ choice f value ∷ []) set first → (later : Bool) → (IsTrue later → ⊥) → IsFoundProduct game diagram aim chosen set later
  of_half value set first p later not_first = record {
    remaining = record { product = p.remaining.product; agrees = All-front (λ d. IsTrueIn set d) chosen (choice f value ∷ []) p.remaining.agrees };
    meets = p.meets;
    is_first = λ t. absurd (not_first t);
  }

  -- the first half's product is the first if the feature is tried in first
  pub half_first : (value : Bool) (example : Example) → AgreeBelow diagram chosen f → IsFoundProduct game diagram aim (chosen ++ choice f value ∷ []) example.features.items example.first →
      IsFoundProduct game diagram aim chosen example.features.items (example.first && value)
  half_first true example agree p = subst (λ (b : Bool). IsFoundProduct game diagram aim chosen example.features.items b) (and_true example.first) (found_with game diagram aim chosen f example.features.items example.first agree p)
  half_first false example agree p = of_half false example.features.items example.first p (example.first && false) (and_false example.first)

  -- the second half's product is the first if there is none in the first half, with the feature in
  pub second_half : (value : Bool) (example : Example) → NoneMeets game diagram aim (chosen ++ choice f value ∷ []) → IsFoundProduct game diagram aim (chosen ++ choice f (not value) ∷ []) example.features.items example.first →
      IsFoundProduct game diagram aim chosen example.features.items (example.first && value)
  second_half true example lost p = subst (λ (b : Bool). IsFoundProduct game diagram aim chosen example.features.items b) (and_true example.first) (found_without game diagram aim chosen f example.features.items example.first lost p)
  second_half false example lost p = of_half true example.features.items example.first p (example.first && false) (and_false example.first)

  pub second_later : (value : Bool) (example : Example) → IsFoundProduct game diagram aim (chosen ++ choice f (not value) ∷ []) example.features.items example.first → IsFoundProduct game diagram aim chosen example.features.items false
  second_later value example p = of_half (not value) example.features.items example.first p false (λ t. clash t)
    where
      clash : false ≡ true → ⊥
      clash x = cc

-- both marks
pub both_true : (a b : Bool) → a ≡ true → b ≡ true → (a && b) ≡ true
both_true true true e f = refl
both_true true false e f = f
both_true false b e f = absurd (clash e)
  where
    clash : false ≡ true → ⊥
    clash x = cc

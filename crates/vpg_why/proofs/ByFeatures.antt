-- A search by features alone: what is shown of the products that are left.
use Rattle.std.proofs.Common.{◌≡◌, ℕ, zero, suc, ◌+◌, ◌-◌, ◌<◌, ◌≤◌, Bool, true, false, List, [], ◌∷◌, ◌++◌, count_by, length, map, take, get_or, slice_index_or, refl, sym, ap, ◌∙◌, subst, arith}
use Rattle.std.specs.List.{AllByRecursion}
use Rattle.std.proofs.Math.ListN.{set, length-set}
use Rattle.std.proofs.lemmas.List.{ext_get_or, get_or-map, get_or-set_same, length-append, length-map, take-map}
use Rattle.vpg_guards.specs.declared.tri.Tri.{Tri}
use Rattle.vpg_guards.specs.declared.tri.Tri.TheVariants.{No, Unknown, Yes}
use Rattle.vpg_guards.specs.Known.{Agrees, AreAllKnown, IsFiner}
use Rattle.vpg_diagram.specs.DiagramText.{NamedDiagram}
use Rattle.vpg_diagram.specs.FeatureDiagram.{Line, IsDiagram, IsProduct, feature_count}
use Rattle.vpg_diagram.specs.Clauses.{IsTrueIn, clauses_of, counts_of}
use Rattle.vpg_diagram.specs.declared.clause.Literal.{Literal}
use Rattle.vpg_diagram.proofs.Lists.{All-append, All-front, All-back}
use Rattle.vpg_game.specs.Game.{NamedGame}
use Rattle.vpg_partial.specs.Known.{AgreesWithChoices, literal_of}
use Rattle.vpg_partial.specs.KnownLaws.{IsRemaining, HasConflictOf}
use Rattle.vpg_partial.specs.KnownTable.{is_known_as}
use Rattle.vpg_partial.specs.TableLaws.{AreChoicesOf, IsKnownTable, IsOnlyRemaining}
use Rattle.vpg_partial.specs.declared.decision.Decision.{Decision}
use Rattle.vpg_partial.proofs.KnownLemmas.{no_set_with_conflict}
use Rattle.vpg_partial.proofs.Tables.{remaining_products_complete}
use Rattle.vpg_products.specs.Growing.{LeavesNone, AreRefuted, AreShown, tri_of}
use Rattle.vpg_products.proofs.Growth.{meets_all, set_finer, set_with}
use Rattle.vpg_why.specs.Explained.{choices}
use Rattle.vpg_why.specs.declared.question.Aim.TheVariants as aims
use Rattle.vpg_why.specs.Glances.{IsFirstOpen}
use Rattle.vpg_why.specs.Products.{NoneMeets}
use Rattle.vpg_why.specs.declared.searching.Reasoned.{Reasoned}
use Rattle.vpg_why.specs.declared.searching.Reasoned.TheVariants as reasons
use Rattle.vpg_why.specs.Reasons.{marked, HasMarks, IsReason, IsReasoned}
use Rattle.vpg_why.specs.Suffices.{choice, is_open, most_trials}
use Rattle.vpg_why.proofs.Reasons.{kept_are_reason}
use Rattle.vpg_why.proofs.Rooms.{fewer_open, one_fewer, trials_grow}

clash : true ≡ false → ⊥
clash e = cc

-- ---- what is shown

pub shown_of_table : (lines : List Line) (chosen : List Literal) (known : List Tri) → IsDiagram lines → IsKnownTable lines chosen known → AreShown lines chosen known
shown_of_table lines chosen known is t = record { length_is = t.length_is; agree = λ features r. remaining_products_complete lines chosen known features is t r }

pub none_left : (game : NamedGame) (diagram : NamedDiagram) (chosen : List Literal) (known : List Tri) → AreShown diagram.lines chosen known → LeavesNone diagram.lines known → NoneMeets game diagram aims.Any chosen
none_left game diagram chosen known s none features r m = none features r.product (s.agree features r)

-- with one more choice
pub child_shown : (lines : List Line) (chosen : List Literal) (known more : List Tri) (f : ℕ) (v : Bool) → AreShown lines chosen known → f < length known → more ≡ set known f (tri_of v) →
    AreShown lines (chosen ++ choice f v ∷ []) more
child_shown lines chosen known more f v s less e = subst (λ (ts : List Tri). AreShown lines (chosen ++ choice f v ∷ []) ts) (sym e) (record {
  length_is = length-set known f (tri_of v) ∙ s.length_is;
  agree = λ features r. set_with lines known (choice f v) less features r.product ((All-back (λ d. IsTrueIn features d) chosen (choice f v ∷ []) r.agrees).0)
      (s.agree features (record { product = r.product; agrees = All-front (λ d. IsTrueIn features d) chosen (choice f v ∷ []) r.agrees }));
})

tri_known : (v : Bool) → tri_of v ≡ Unknown → ⊥
tri_known true e = cc e
tri_known false e = cc e

pub child_fewer : (lines : List Line) (known more : List Tri) (f : ℕ) (v : Bool) → f < length known → slice_index_or known f Unknown ≡ Unknown → more ≡ set known f (tri_of v) → suc (count_by is_open more) ≤ count_by is_open known
child_fewer lines known more f v less was e = subst (λ (ts : List Tri). suc (count_by is_open ts) ≤ count_by is_open known) (sym e)
    (one_fewer known (set known f (tri_of v)) f (sym (length-set known f (tri_of v))) (set_finer lines known (choice f v) less was) less was
    (λ h. tri_known v (sym (get_or-set_same known f (tri_of v) Unknown less) ∙ h)))

pub grown_fewer : (known more : List Tri) → length more ≡ length known → IsFiner known more → count_by is_open more ≤ count_by is_open known
grown_fewer known more e finer = fewer_open known more (sym e) finer

-- ---- the first open feature

same_known : (t : Tri) (a b : Bool) → (t ≡ Unknown → ⊥) → Agrees t a → Agrees t b → a ≡ b
same_known No a b n h k = h ∙ sym k
same_known Unknown a b n h k = absurd (n refl)
same_known Yes a b n h k = h ∙ sym k

pub first_of : (diagram : NamedDiagram) (chosen : List Literal) (known : List Tri) (f : ℕ) → AreShown diagram.lines chosen known → f < length known → slice_index_or known f Unknown ≡ Unknown →
    ((g : ℕ) → g < f → slice_index_or known g Unknown ≡ Unknown → ⊥) → IsFirstOpen diagram chosen known f
first_of diagram chosen known f s less was below = record {
  within = less;
  unknown = was;
  agree = λ one other r q g l. same_known (slice_index_or known g Unknown) (slice_index_or one g false) (slice_index_or other g false) (below g l) (s.agree one r g) (s.agree other q g);
}

-- ---- where each feature is known

value_is : (t : Tri) (b : Bool) → (t ≡ Unknown → ⊥) → Agrees t b → b ≡ is_known_as t true
value_is No b n a = a
value_is Unknown b n a = absurd (n refl)
value_is Yes b n a = a

module _ (lines : List Line) (chosen : List Literal) (known : List Tri) (product : List Bool) (s : AreShown lines chosen known) (full : AreAllKnown (length known) known)
    (e : product ≡ map (λ t. is_known_as t true) known) where
  pub is_it : (other : List Bool) → IsRemaining lines chosen other → other ≡ product
  is_it other r =
      let lengths : length other ≡ length known = r.product.length_is ∙ sym s.length_is in
      ext_get_or false other (map (λ x. is_known_as x true) known) (lengths ∙ sym (length-map known (λ x. is_known_as x true)))
      (λ f l. value_is (get_or known f Unknown) (get_or other f false) (full f (omega (arith, l, lengths))) (s.agree other r f)
      ∙ sym (get_or-map (λ x. is_known_as x true) known f Unknown false (omega (arith, l, lengths)))) ∙ sym e

  pub only_it : IsProduct lines product → AgreesWithChoices product chosen → IsOnlyRemaining lines chosen product
  only_it p a = record { remaining = record { product = p; agrees = a }; only = λ other r. is_it other r }

all_map : (P : Literal → Type 0) (ds : List Decision) → AllByRecursion (λ (d : Decision). P (literal_of d)) ds → AllByRecursion P (choices ds)
all_map P [] a = tt
all_map P (d ∷ ds) a = (a.0, all_map P ds a.1)

all_back : (P : Literal → Type 0) (ds : List Decision) → AllByRecursion P (choices ds) → AllByRecursion (λ (d : Decision). P (literal_of d)) ds
all_back P [] a = tt
all_back P (d ∷ ds) a = (a.0, all_back P ds a.1)

pub has_choices : (product : List Bool) (ds : List Decision) → AllByRecursion (λ (d : Decision). slice_index_or product d.feature false ≡ d.value) ds → AgreesWithChoices product (choices ds)
has_choices product ds a = all_map (λ l. IsTrueIn product l) ds a

pub choices_had : (product : List Bool) (ds : List Decision) → AgreesWithChoices product (choices ds) → AllByRecursion (λ (d : Decision). slice_index_or product d.feature false ≡ d.value) ds
choices_had product ds a = all_back (λ l. IsTrueIn product l) ds a

-- ---- a reason that is shown

front_marked : {X : Type 0} (P : X → Type 0) (n : ℕ) (marks : List Bool) (xs : List X) → length marks ≡ length xs → ((k : ℕ) → k < n → k < length xs → slice_index_or marks k false ≡ true) →
    AllByRecursion P (marked marks xs) → AllByRecursion P (take n xs)
front_marked P zero marks xs e h a = tt
front_marked P (suc n) marks [] e h a = tt
front_marked P (suc n) [] (x ∷ xs) e h a = absurd (omega (arith, e))
front_marked P (suc n) (true ∷ marks) (x ∷ xs) e h a = (a.0, front_marked P n marks xs (omega (arith, e)) (λ k l m. h (suc k) (omega (arith, l)) (omega (arith, m))) a.1)
front_marked P (suc n) (false ∷ marks) (x ∷ xs) e h a = absurd (clash (sym (h 0 (omega arith) (omega arith))))

pub refuted_reason : (game : NamedGame) (diagram : NamedDiagram) (ds kept : List Decision) (begun : ℕ) (marks : List Bool) (base : List Tri) → length marks ≡ length ds →
    ((k : ℕ) → k < begun → k < length ds → slice_index_or marks k false ≡ true) → AreShown diagram.lines (take begun (choices ds)) base → choices kept ≡ marked marks (choices ds) →
    AreRefuted diagram.lines base (choices kept) → IsReason game diagram aims.Any (choices ds) [] marks
refuted_reason game diagram ds kept begun marks base count first s same refuted =
    let lengths : length marks ≡ length (choices ds) = count ∙ sym (length-map ds literal_of) in
    kept_are_reason game diagram aims.Any (choices ds) marks (choices kept) lengths same
    (λ features r m. refuted features r.product
    (s.agree features (record {
      product = r.product;
      agrees = front_marked (λ d. IsTrueIn features d) begun marks (choices ds) lengths (λ k l n. first k l (subst (λ j. k < j) (length-map ds literal_of) n))
          (subst (λ (cs : List Literal). AgreesWithChoices features cs) same r.agrees);
    }))
    r.agrees)

-- the first decisions alone
pub first_choices : (ds first : List Decision) (n : ℕ) → first ≡ take n ds → choices first ≡ take n (choices ds)
first_choices ds first n e = ap (λ (xs : List Decision). choices xs) e ∙ sym (take-map literal_of n ds)

all_first : {X : Type 0} (P : X → Type 0) (n : ℕ) (xs : List X) → AllByRecursion P xs → AllByRecursion P (take n xs)
all_first P zero xs a = tt
all_first P (suc n) [] a = tt
all_first P (suc n) (x ∷ xs) a = (a.0, all_first P n xs a.1)

pub first_named : (lines : List Line) (ds first : List Decision) (n : ℕ) → first ≡ take n ds → AreChoicesOf lines (choices ds) → AreChoicesOf lines (choices first)
first_named lines ds first n e named = subst (λ (cs : List Literal). AreChoicesOf lines cs) (sym (first_choices ds first n e)) (all_first (λ (c : Literal). c.feature < feature_count lines) n (choices ds) named)

pub conflict_loses : (game : NamedGame) (diagram : NamedDiagram) (chosen : List Literal) → IsDiagram diagram.lines → HasConflictOf diagram.lines chosen → NoneMeets game diagram aims.Any chosen
conflict_loses game diagram chosen is conflict features r m = no_set_with_conflict (clauses_of diagram.lines) (counts_of diagram.lines) chosen features (meets_all diagram.lines features is r.product) r.agrees conflict

-- the first decisions are still there with one more
pub base_stays : (lines : List Line) (ds more : List Decision) (c : Literal) (begun : ℕ) (base : List Tri) → begun ≤ length ds → choices more ≡ choices ds ++ c ∷ [] →
    AreShown lines (take begun (choices ds)) base → AreShown lines (take begun (choices more)) base
base_stays lines ds more c begun base le e s = subst (λ (cs : List Literal). AreShown lines cs base)
    (sym (ap (λ (cs : List Literal). take begun cs) e ∙ take_front begun (choices ds) (c ∷ []) (subst (λ n. begun ≤ n) (sym (length-map ds literal_of)) le))) s
  where
    take_front : (n : ℕ) (xs ys : List Literal) → n ≤ length xs → take n (xs ++ ys) ≡ take n xs
    take_front zero xs ys l = refl
    take_front (suc n) [] ys l = absurd (omega (arith, l))
    take_front (suc n) (x ∷ xs) ys l = ap (λ (zs : List Literal). x ∷ zs) (take_front n xs ys (omega (arith, l)))

pub begun_stays : (ds more : List Decision) (c : Literal) (begun : ℕ) → begun ≤ length ds → choices more ≡ choices ds ++ c ∷ [] → begun ≤ length more
begun_stays ds more c begun le e =
    let l : length (choices more) ≡ length ds + 1 = ap (λ (cs : List Literal). length cs) e ∙ length-append (choices ds) (c ∷ []) ∙ ap (λ n. n + 1) (length-map ds literal_of) in
    omega (arith, le, l, length-map more literal_of)

-- ---- trials

pub step_of : (n : ℕ) → most_trials (n + 1) ≡ suc (most_trials n + most_trials n)
step_of n = ap most_trials (Rattle.std.proofs.Common.add-one n)

-- what a half may take
pub half_takes : (before after half most : ℕ) → suc half ≤ most → before ≤ after + most_trials (half + 1) → before ≤ after + most_trials most
half_takes before after half most less h = let g = trials_grow (half + 1) most (omega (arith, less)) in omega (arith, h, g)

-- both halves and a trial
pub both_take : (old most first after : ℕ) (now : ℕ) → now ≤ most → old ≤ suc first → first ≤ after + (most_trials now + most_trials now) → old ≤ after + most_trials (most + 1)
both_take old most first after now le one h = let g = trials_grow now most le in let e = step_of most in omega (arith, one, h, g, e)

pub one_takes : (old most after : ℕ) → old ≤ suc after → old ≤ after + most_trials (most + 1)
one_takes old most after one = let e = step_of most in omega (arith, one, e)

-- what a half has room for
pub half_room : (old most first kept half : ℕ) → suc half ≤ most → old ≤ suc first → kept + kept ≤ first → most_trials (most + 1) ≤ old → most_trials (half + 1) ≤ first - kept
half_room old most first kept half less one few enough = let e = step_of most in let g = trials_grow (half + 1) most (omega (arith, less)) in omega (arith, one, few, enough, e, g)

pub other_room : (old most first kept left half other : ℕ) → suc half ≤ most → suc other ≤ most → old ≤ suc first → kept ≤ first → (first - kept) ≤ left + most_trials (half + 1) → most_trials (most + 1) ≤ old →
    most_trials (other + 1) ≤ left + kept
other_room old most first kept left half other less more one few took enough =
    let e = step_of most in let g = trials_grow (half + 1) most (omega (arith, less)) in let h = trials_grow (other + 1) most (omega (arith, more)) in omega (arith, one, few, took, enough, e, g, h)

pub most_grow : (n m trials : ℕ) → n ≤ m → most_trials (m + 1) ≤ trials → most_trials (n + 1) ≤ trials
most_grow n m trials le h = let g = trials_grow (n + 1) (m + 1) (omega (arith, le)) in omega (arith, g, h)

pub fewer_most : (old new n m : ℕ) → n ≤ m → old ≤ new + most_trials (n + 1) → old ≤ new + most_trials (m + 1)
fewer_most old new n m le h = let g = trials_grow (n + 1) (m + 1) (omega (arith, le)) in omega (arith, g, h)

-- ---- one more choice

any_game : NamedGame
any_game = record { vertices = []; features = 0 }

-- a reason has a mark for each of the choices
pub marks_of : (diagram : NamedDiagram) (ds more : List Decision) (c : Literal) (found : Reasoned) → choices more ≡ choices ds ++ c ∷ [] →
    ((game : NamedGame) → IsReasoned game diagram aims.Any (choices more) found) → HasMarks found (length ds + 1)
marks_of diagram ds more c (reasons.Product example) e is = tt
marks_of diagram ds more c (reasons.Nothing marks) e is =
    (is any_game).count ∙ ap (λ (cs : List Literal). length cs) e ∙ length-append (choices ds) (c ∷ []) ∙ ap (λ n. n + 1) (length-map ds literal_of)
marks_of diagram ds more c reasons.Unsettled e is = tt

pub named_more : (lines : List Line) (ds more : List Decision) (f : ℕ) (v : Bool) → AreChoicesOf lines (choices ds) → f < feature_count lines → choices more ≡ choices ds ++ choice f v ∷ [] → AreChoicesOf lines (choices more)
named_more lines ds more f v named less e = subst (λ (cs : List Literal). AreChoicesOf lines cs) (sym e) (All-append (λ (c : Literal). c.feature < feature_count lines) (choices ds) (choice f v ∷ []) named (less, tt))

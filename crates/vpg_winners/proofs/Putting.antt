-- What parts keep while they are joined.
use Rattle.std.proofs.Common.{◌≡◌, ℕ, suc, ◌+◌, ◌<◌, List, [], ◌∷◌, ◌++◌, length, map, get_or, take, drop, sum_by, refl, sym, ap, ◌∙◌, subst, append_assoc, append-nil, arith}
use Rattle.std.specs.List.{AllByRecursion, remove}
use Rattle.std.proofs.lemmas.List.{length-map, get_or-map}
use Rattle.std.proofs.lemmas.List.Elements.{All-from_recursion, All-take, All-drop, recursion_from_All}
use Rattle.std.proofs.lemmas.List.Quantifiers.{all_pairs_push, all_pairs_remove}
use Rattle.std.proofs.lemmas.List.Sums.{sum_by-append, sum_by-cons, sum_by-remove}
use Rattle.vpg_diagram.specs.declared.clause.Literal.{Literal}
use Rattle.vpg_diagram.proofs.Lists.{All-append, All-front, All-back}
use Rattle.vpg_partial.specs.Known.{negation}
use Rattle.vpg_winners.specs.Joined.{PartView, DiffersAt, JoinsAt, CanJoin, IsPut, alone, joined, ArePut, done, next, without_literal, cut_by}
use Rattle.vpg_winners.specs.Winners.{AreJoined}
use Rattle.vpg_winners.proofs.Differing.{not_its_negation}

All-remove : (P : PartView → Type 0) (parts : List PartView) (place : ℕ) → AllByRecursion P parts →
    AllByRecursion P (remove parts place)
All-remove P parts place all = All-append P (take place parts) (drop (suc place) parts)
    (recursion_from_All P (take place parts) (All-take P place parts (All-from_recursion P parts all)))
    (recursion_from_All P (drop (suc place) parts) (All-drop P (suc place) parts (All-from_recursion P parts all)))

-- what is so of two parts is so of the part that they are joined to
abbrev pub IsKept : (PartView → Type 0) → Type 0
IsKept P = (one other : PartView) (place : ℕ) → JoinsAt one other place → P one → P other → P (without_literal other place)

module _ (P : PartView → Type 0) (kept : IsKept P) where
  put_keeps : {parts new : List PartView} {part : PartView} (rest : List PartView) → IsPut parts part new →
      AllByRecursion P (parts ++ part ∷ rest) → AllByRecursion P (new ++ rest)
  put_keeps rest (alone {parts} {part} none) all =
      subst (λ (ps : List PartView). AllByRecursion P ps) (sym (append_assoc parts (part ∷ []) rest)) all
  put_keeps rest (joined {parts} {new} {part} place literal first then) all = put_keeps rest then
      (All-append P (remove parts place) (without_literal part literal ∷ rest)
      (All-remove P parts place (All-front P parts (part ∷ rest) all))
      (kept (get_or parts place part) part literal (first.joins part) mate last.0, last.1))
    where
      last : AllByRecursion P (part ∷ rest)
      last = All-back P parts (part ∷ rest) all

      mate : P (get_or parts place part)
      mate = All-from_recursion P parts (All-front P parts (part ∷ rest) all) place part first.within

  pub all_keep : {parts added new : List PartView} → ArePut parts added new → AllByRecursion P (parts ++ added) →
      AllByRecursion P new
  all_keep (done {parts}) all = subst (λ (ps : List PartView). AllByRecursion P ps) (append-nil parts) all
  all_keep (next {parts} {middle} {new} {part} {rest} put more) all = all_keep more (put_keeps rest put all)

-- a sum in which a joined part counts as the two
module _ (f : PartView → ℕ)
    (adds : (one other : PartView) (place : ℕ) → JoinsAt one other place → f (without_literal other place) ≡ f one + f other) where
  split_sum : (parts rest : List PartView) (part : PartView) →
      sum_by f (parts ++ part ∷ rest) ≡ sum_by f parts + (f part + sum_by f rest)
  split_sum parts rest part = sum_by-append f parts (part ∷ rest) ∙ ap (λ n. sum_by f parts + n) (sum_by-cons f part rest)

  same_sum : (all before then left more r whole one mate : ℕ) → all ≡ then → then ≡ left + (more + r) →
      before ≡ whole + (one + r) → left + mate ≡ whole → more ≡ mate + one → all ≡ before
  same_sum all before then left more r whole one mate h a b c d = omega arith

  put_adds : {parts new : List PartView} {part : PartView} (rest : List PartView) → IsPut parts part new →
      sum_by f (new ++ rest) ≡ sum_by f (parts ++ part ∷ rest)
  put_adds rest (alone {parts} {part} none) = ap (sum_by f) (append_assoc parts (part ∷ []) rest)
  put_adds rest (joined {parts} {new} {part} place literal first then) =
      let h = put_adds rest then in
      let a = split_sum (remove parts place) rest (without_literal part literal) in
      let b = split_sum parts rest part in
      let c = sum_by-remove f parts place part first.within in
      let d = adds (get_or parts place part) part literal (first.joins part) in
      same_sum (sum_by f (new ++ rest)) (sum_by f (parts ++ part ∷ rest))
      (sum_by f (remove parts place ++ without_literal part literal ∷ rest)) (sum_by f (remove parts place))
      (f (without_literal part literal)) (sum_by f rest) (sum_by f parts) (f part) (f (get_or parts place part)) h a b c d

  pub all_add : {parts added new : List PartView} → ArePut parts added new → sum_by f new ≡ sum_by f (parts ++ added)
  all_add (done {parts}) = ap (sum_by f) (sym (append-nil parts))
  all_add (next {parts} {middle} {new} {part} {rest} put more) = all_add more ∙ put_adds rest put

-- no two can be joined then
put_joined : {parts new : List PartView} {part : PartView} → IsPut parts part new → AreJoined parts → AreJoined new
put_joined (alone {parts} {part} none) are = all_pairs_push (λ one other. CanJoin one other → ⊥) parts part are none
put_joined (joined {parts} {new} {part} place literal first then) are =
    put_joined then (all_pairs_remove (λ one other. CanJoin one other → ⊥) parts place first.within are)

pub all_joined : {parts added new : List PartView} → ArePut parts added new → AreJoined parts → AreJoined new
all_joined done are = are
all_joined (next put more) are = all_joined more (put_joined put are)

-- nor with one literal more
uncut : (l m : Literal) (one other front back : List Literal) → l ∷ one ≡ front ++ m ∷ back →
    l ∷ other ≡ front ++ negation m ∷ back → (place : ℕ) × DiffersAt one other place
uncut l m one other [] back e f = let same : m ≡ negation m = cc in absurd (not_its_negation m same)
uncut l m one other (x ∷ front) back e f = (
  length front,
  record {
    front = front;
    literal = m;
    back = back;
    one_is = (cc);
    other_is = (cc);
    place_is = refl;
  },
)

uncut_parts : (l : Literal) (one other : PartView) → CanJoin (cut_by l one) (cut_by l other) → CanJoin one other
uncut_parts l one other (place, joins) =
    let d = joins.literals in
    let u = uncut l d.literal one.literals other.literals d.front d.back d.one_is d.other_is in
    (u.0, record { winner = joins.winner; literals = u.1 })

pub cut_joined : (l : Literal) (parts : List PartView) → AreJoined parts → AreJoined (map (cut_by l) parts)
cut_joined l parts are i j d less inside can = are i j d less within (uncut_parts l (get_or parts i d) (get_or parts j d)
    (subst (λ (v : PartView). CanJoin v (cut_by l (get_or parts j d))) (get_or-map (cut_by l) parts i d d earlier)
    (subst (λ (v : PartView). CanJoin (get_or (map (cut_by l) parts) i d) v) (get_or-map (cut_by l) parts j d d within) can)))
  where
    within : j < length parts
    within = let e = length-map parts (cut_by l) in omega (arith, inside, e)

    earlier : i < length parts
    earlier = omega (arith, less, within)

-- The numbers of the parts add up to the number of all.
use Rattle.std.proofs.Common.{◌≡◌, ℕ, ◌+◌, ◌≤◌, ◌⊎◌, inl, inr, Bool, true, false, cond, List, [], ◌∷◌, ◌++◌, length, map, Contains, refl, sym, ap, ap₂, ◌∙◌, subst, arith, length-append}
use Rattle.std.specs.Prelude.{◌&&◌, count_by}
use Rattle.std.specs.List.{AllByRecursion, sum}
use Rattle.std.proofs.lemmas.Bool.{and_parts, cases_Bool}
use Rattle.std.proofs.lemmas.List.Sums.{sum_by-cons}
use Rattle.vpg_diagram.specs.Clauses.{IsTrueIn, is_true_in}
use Rattle.vpg_diagram.specs.declared.clause.Literal.{Literal}
use Rattle.vpg_diagram.proofs.Lists.{All-append, All-back, All-contained, All-front, All-implies, Contains-nil}
use Rattle.vpg_number.specs.Counted.{AreDistinct, IsNumber}
use Rattle.vpg_number.specs.declared.counted.Count.TheVariants.{Exactly}
use Rattle.vpg_number.proofs.Same.{number_is_one}
use Rattle.vpg_number.proofs.Sets.{Contains-either, Contains-left, Contains-right, distinct_append}
use Rattle.vpg_partial.specs.KnownLaws.{IsRemaining}
use Rattle.vpg_texts.specs.Scene.{Scene}
use Rattle.vpg_winners.specs.Joined.{PartView}
use Rattle.vpg_winners.specs.Winners.{has_all, is_in}
use Rattle.vpg_winners.proofs.Splits.{test_true, true_test}
use Rattle.vpg_answers.specs.Adding.{NumbersAddUp}
use Rattle.vpg_looks.specs.Numbers.{AreAmounts}

module _ (scene : Scene) (chosen : List Literal) where
  abbrev Left : List Bool → Type 0
  Left set = IsRemaining scene.lines chosen set

  -- ---- a part's products

  literals_in : (set : List Bool) (literals : List Literal) → AllByRecursion (λ l. IsTrueIn set l) literals → has_all set literals ≡ true
  literals_in set [] all = refl
  literals_in set (l ∷ rest) all = ap₂ (λ (a b : Bool). a && b) (true_test set l all.0) (literals_in set rest all.1)

  in_literals : (set : List Bool) (literals : List Literal) → has_all set literals ≡ true → AllByRecursion (λ l. IsTrueIn set l) literals
  in_literals set [] has = tt
  in_literals set (l ∷ rest) has =
      let both = and_parts (is_true_in set l) (has_all set rest) has in
      (test_true set l both.0, in_literals set rest both.1)

  module _ (part : PartView) (set : List Bool) where
    left_of : IsRemaining scene.lines (chosen ++ part.literals) set → Left set
    left_of r = record { product = r.product; agrees = All-front (λ l. IsTrueIn set l) chosen part.literals r.agrees }

    in_part : IsRemaining scene.lines (chosen ++ part.literals) set → is_in set part ≡ true
    in_part r = literals_in set part.literals (All-back (λ l. IsTrueIn set l) chosen part.literals r.agrees)

    of_part : Left set → is_in set part ≡ true → IsRemaining scene.lines (chosen ++ part.literals) set
    of_part r within = record {
      product = r.product;
      agrees = All-append (λ l. IsTrueIn set l) chosen part.literals r.agrees (in_literals set part.literals within);
    }

  -- ---- the products of several parts

  abbrev times_in : List Bool → List PartView → ℕ
  times_in set parts = count_by (is_in set) parts

  times_cons : (set : List Bool) (part : PartView) (parts : List PartView) → times_in set (part ∷ parts) ≡ cond (is_in set part) 1 0 + times_in set parts
  times_cons set part parts = sum_by-cons (λ p. cond (is_in set p) 1 0) part parts

  times_yes : (set : List Bool) (part : PartView) (parts : List PartView) → is_in set part ≡ true → times_in set (part ∷ parts) ≡ 1 + times_in set parts
  times_yes set part parts is = times_cons set part parts ∙ ap (λ (b : Bool). cond b 1 0 + times_in set parts) is

  times_no : (set : List Bool) (part : PartView) (parts : List PartView) → is_in set part ≡ false → times_in set (part ∷ parts) ≡ 0 + times_in set parts
  times_no set part parts is = times_cons set part parts ∙ ap (λ (b : Bool). cond b 1 0 + times_in set parts) is

  -- a list that has each product of some parts once, and nothing else
  record AreOf (parts : List PartView) (number : ℕ) : Type 0 where
    sets : List (List Bool)
    each : AllByRecursion Left sets
    inside : (set : List Bool) → Contains sets set → 1 ≤ times_in set parts
    all : (set : List Bool) → Left set → 1 ≤ times_in set parts → Contains sets set
    distinct : AreDistinct sets
    number_is : length sets ≡ number

  none_of : AreOf [] 0
  none_of = record {
    sets = [];
    each = tt;
    inside = λ set c. absurd (Contains-nil set c);
    all = λ set r more. absurd (omega (arith, more));
    distinct = tt;
    number_is = refl;
  }

  one_more : (part : PartView) (parts : List PartView) (number rest : ℕ) → ((set : List Bool) → Left set → times_in set (part ∷ parts) ≤ 1) →
      IsNumber scene.lines (chosen ++ part.literals) number → AreOf parts rest → AreOf (part ∷ parts) (number + rest)
  one_more part parts number rest once own others = record {
    sets = own.0 ++ others.sets;
    each = All-append Left own.0 others.sets (All-implies (IsRemaining scene.lines (chosen ++ part.literals)) Left own.0 (left_of part) own.1.each) others.each;
    inside = λ set c. inside set (Contains-either own.0 others.sets set c);
    all = λ set r more. all set r more (cases_Bool (is_in set part));
    distinct = distinct_append own.0 others.sets own.1.distinct others.distinct apart;
    number_is = length-append own.0 others.sets ∙ ap₂ ◌+◌ own.2 others.number_is;
  }
    where
      own_left : (set : List Bool) → Contains own.0 set → IsRemaining scene.lines (chosen ++ part.literals) set
      own_left set c = All-contained (IsRemaining scene.lines (chosen ++ part.literals)) own.0 set own.1.each c

      inside : (set : List Bool) → Contains own.0 set ⊎ Contains others.sets set → 1 ≤ times_in set (part ∷ parts)
      inside set (inl c) = let e = times_yes set part parts (in_part part set (own_left set c)) in omega (arith, e)
      inside set (inr d) = let e = times_cons set part parts in let more = others.inside set d in omega (arith, e, more)

      all : (set : List Bool) → Left set → 1 ≤ times_in set (part ∷ parts) → (is_in set part ≡ true) ⊎ (is_in set part ≡ false) → Contains (own.0 ++ others.sets) set
      all set r more (inl within) = Contains-left own.0 others.sets set (own.1.all set (of_part part set r within))
      all set r more (inr outside) =
          let e = times_no set part parts outside in
          Contains-right own.0 others.sets set (others.all set r (omega (arith, e, more)))

      apart : (set : List Bool) → Contains own.0 set → Contains others.sets set → ⊥
      apart set c d =
          let remains = own_left set c in
          let e = times_yes set part parts (in_part part set remains) in
          let once_here = once set (left_of part set remains) in
          let more = others.inside set d in
          omega (arith, e, once_here, more)

  all_of : (looks : ℕ) (parts : List PartView) (numbers : List ℕ) → ((set : List Bool) → Left set → times_in set parts ≤ 1) → AreAmounts scene looks chosen parts (map Exactly numbers) → AreOf parts (sum numbers)
  all_of looks [] [] once are = none_of
  all_of looks [] (n ∷ numbers) once are = absurd are
  all_of looks (p ∷ parts) [] once are = absurd are
  all_of looks (p ∷ parts) (n ∷ numbers) once are =
      let rest = all_of looks parts numbers (λ set r. let e = times_cons set p parts in let one = once set r in omega (arith, e, one)) are.1 in
      subst (AreOf (p ∷ parts)) (sym (sum_by-cons (λ (k : ℕ). k) n numbers)) (one_more p parts n (sum numbers) once are.0.number rest)

pub numbers_add_up : NumbersAddUp
numbers_add_up scene looks others chosen parts numbers number partition are whole =
    let once : (set : List Bool) → IsRemaining scene.lines chosen set → count_by (is_in set) parts ≤ 1 = λ set r. let one = partition set r in omega (arith, one) in
    let found = all_of scene chosen looks parts numbers once are in
    let some : (set : List Bool) → IsRemaining scene.lines chosen set → 1 ≤ count_by (is_in set) parts = λ set r. let one = partition set r in omega (arith, one) in
    number_is_one scene.lines chosen (sum numbers) number
    (found.sets, record { each = found.each; all = λ set r. found.all set r (some set r); distinct = found.distinct }, found.number_is)
    whole.number

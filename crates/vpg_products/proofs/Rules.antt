-- What one rule says of the sets that meet it.
use Rattle.std.proofs.Common.{◌≡◌, ℕ, ◌+◌, ◌-◌, ◌<◌, ◌⊎◌, inl, inr, Bool, true, false, not, ◌&&◌, IfSome, Option, Some, None, List, [], ◌∷◌, ◌++◌, length, find, slice_index_or, slice_get, refl, sym}
use Rattle.vpg_guards.specs.declared.tri.Tri.{Tri}
use Rattle.vpg_guards.specs.declared.tri.Tri.TheVariants.{No, Unknown, Yes}
use Rattle.vpg_guards.specs.Known.{Agrees, IsCompletion}
use Rattle.vpg_diagram.specs.FeatureDiagram.{chosen}
use Rattle.vpg_diagram.specs.Clauses.{IsTrueIn, MeetsClause, MeetsCount, MeetsAll, feature_in, feature_out}
use Rattle.vpg_diagram.specs.Tally.{Tally}
use Rattle.vpg_diagram.specs.declared.clause.Literal.{Literal}
use Rattle.vpg_diagram.proofs.Lists.{All-at}
use Rattle.vpg_partial.specs.Known.{negation}
use Rattle.vpg_partial.specs.KnownTable.{is_known_as, literals_in}
use Rattle.vpg_partial.specs.Propagation.{IsMissingAtCount}
use Rattle.vpg_partial.proofs.KnownLemmas.{holds, true_from_holds, holds_from_true, closed_of_met}
use Rattle.vpg_partial.proofs.ClauseSteps.{find-some}
use Rattle.vpg_partial.proofs.CountSteps.{is_open}
use Rattle.vpg_products.specs.Stepping.{IsAdded, IsStep, HasOpen, if_out}
use Rattle.vpg_products.specs.declared.stepping.Step.{Step}
use Rattle.vpg_products.specs.declared.stepping.Step.TheVariants as steps

clash : true ≡ false → ⊥
clash e = cc

-- ---- what is known, and a set that agrees with it

value_is : (t : Tri) (v b : Bool) → Agrees t b → is_known_as t v ≡ true → b ≡ v
value_is No true b h e = absurd (clash (sym e))
value_is No false b h e = h
value_is Unknown v b h e = absurd (clash (sym e))
value_is Yes true b h e = h
value_is Yes false b h e = absurd (clash (sym e))

pub known_is_true : (known : List Tri) (set : List Bool) (l : Literal) → IsCompletion known set → literals_in known l ≡ true → IsTrueIn set l
known_is_true known set l comp e = value_is (slice_index_or known l.feature Unknown) l.value (slice_index_or set l.feature false) (comp l.feature) e

not_both : (b v : Bool) → b ≡ v → b ≡ not v → ⊥
not_both true true e f = clash f
not_both true false e f = clash e
not_both false true e f = clash (sym e)
not_both false false e f = clash (sym f)

pub neither_way : (t : Tri) (v : Bool) → is_known_as t v ≡ false → is_known_as t (not v) ≡ false → t ≡ Unknown
neither_way No true e f = absurd (clash f)
neither_way No false e f = absurd (clash e)
neither_way Unknown v e f = refl
neither_way Yes true e f = absurd (clash e)
neither_way Yes false e f = absurd (clash f)

-- ---- a clause

meets_more : (set : List Bool) (xs : List Literal) (x : Literal) → MeetsClause set (xs ++ x ∷ []) → MeetsClause set xs ⊎ IsTrueIn set x
meets_more set [] x (inl h) = inr h
meets_more set [] x (inr h) = absurd h
meets_more set (y ∷ ys) x (inl h) = inl (inl h)
meets_more set (y ∷ ys) x (inr h) = of (meets_more set ys x h)
  where
    of : MeetsClause set ys ⊎ IsTrueIn set x → MeetsClause set (y ∷ ys) ⊎ IsTrueIn set x
    of (inl m) = inl (inr m)
    of (inr t) = inr t

-- All of these literals are false, but for an open one if there is one.
pub record IsScanned (known : List Tri) (literals : List Literal) (found : Option Literal) : Type 0 where
  pub met : (set : List Bool) → IsCompletion known set → MeetsClause set literals → HasOpen found set
  pub is_open : IfSome found (λ l. (l.feature < length known) × (slice_index_or known l.feature Unknown ≡ Unknown))

pub scanned_false : (known : List Tri) (literals : List Literal) (found : Option Literal) (l : Literal) → literals_in known (negation l) ≡ true →
    IsScanned known literals found → IsScanned known (literals ++ l ∷ []) found
scanned_false known literals found l out was = record {
  met = λ set comp m. of set comp (meets_more set literals l m);
  is_open = was.is_open;
}
  where
    of : (set : List Bool) → IsCompletion known set → MeetsClause set literals ⊎ IsTrueIn set l → HasOpen found set
    of set comp (inl m) = was.met set comp m
    of set comp (inr t) = absurd (not_both (chosen set l.feature) l.value t (known_is_true known set (negation l) comp out))

pub scanned_open : (known : List Tri) (literals : List Literal) (l : Literal) → l.feature < length known → literals_in known l ≡ false → literals_in known (negation l) ≡ false →
    IsScanned known literals None → IsScanned known (literals ++ l ∷ []) (Some l)
scanned_open known literals l below out off was = record {
  met = λ set comp m. of set comp (meets_more set literals l m);
  is_open = (below, neither_way (slice_index_or known l.feature Unknown) l.value out off);
}
  where
    of : (set : List Bool) → IsCompletion known set → MeetsClause set literals ⊎ IsTrueIn set l → IsTrueIn set l
    of set comp (inl m) = absurd (was.met set comp m)
    of set comp (inr t) = t

pub scanned_adds : (known : List Tri) (literals : List Literal) (l : Literal) → IsScanned known literals (Some l) → IsAdded (λ set. MeetsClause set literals) known l
scanned_adds known literals l was = record { below = was.is_open.0; unknown = was.is_open.1; follows = λ set m comp. was.met set comp m }

pub scanned_fails : (known : List Tri) (literals : List Literal) → IsScanned known literals None → IsStep (λ set. MeetsClause set literals) known steps.Fails
scanned_fails known literals was = λ set m comp. was.met set comp m

-- ---- a count

missing_holds : (n : Tally) (known : List Tri) (l : Literal) (set : List Bool) → IsMissingAtCount n known l → MeetsCount set n → IsCompletion known set → IsTrueIn set l
missing_holds n known l set m met comp = true_from_holds set l
    (m.follows (holds set) (closed_of_met [] (n ∷ []) set (record { each_clause = tt; each_count = (met, tt) })).at_counts.0
    (λ x h. holds_from_true set x (known_is_true known set x comp h)))

pub count_fails : (n : Tally) (known : List Tri) → IsMissingAtCount n known (feature_out n.parent) → literals_in known (feature_in n.parent) ≡ true →
    IsStep (λ set. MeetsCount set n) known steps.Fails
count_fails n known m is_in = λ set met comp. not_both (chosen set n.parent) true (known_is_true known set (feature_in n.parent) comp is_in) (missing_holds n known (feature_out n.parent) set m met comp)

pub count_adds : (n : Tally) (known : List Tri) (l : Literal) → IsMissingAtCount n known l → literals_in known (negation l) ≡ false → IsAdded (λ set. MeetsCount set n) known l
count_adds n known l m off = record {
  below = m.below;
  unknown = neither_way (slice_index_or known l.feature Unknown) l.value m.absent off;
  follows = λ set met comp. missing_holds n known l set m met comp;
}

both_not : (a b : Bool) → (not a && not b) ≡ true → (a ≡ false) × (b ≡ false)
both_not true b e = absurd (clash (sym e))
both_not false true e = absurd (clash (sym e))
both_not false false e = (refl, refl)

-- an open member is known neither way
pub open_member : (n : Tally) (known : List Tri) (c : ℕ) (v : Bool) → find (is_open known) n.members ≡ Some c → literals_in known (negation (record { feature = c; value = v })) ≡ false
open_member n known c true e = (both_not (literals_in known (feature_in c)) (literals_in known (feature_out c)) (find-some (is_open known) n.members c e).1).1
open_member n known c false e = (both_not (literals_in known (feature_in c)) (literals_in known (feature_out c)) (find-some (is_open known) n.members c e).1).0

-- ---- a rule among others

step_of : (Weak Strong : List Bool → Type 0) (known : List Tri) (step : Step) → ((set : List Bool) → Strong set → Weak set) → IsStep Weak known step → IsStep Strong known step
step_of Weak Strong known steps.Nothing within is = tt
step_of Weak Strong known (steps.Adds l) within is = record { below = is.below; unknown = is.unknown; follows = λ set m comp. is.follows set (within set m) comp }
step_of Weak Strong known steps.Fails within is = λ set m comp. is set (within set m) comp

pub step_of_clause : (clauses : List (List Literal)) (counts : List Tally) (known : List Tri) (number : ℕ) (clause : List Literal) (step : Step) → slice_get clauses number ≡ Some clause →
    IsStep (λ set. MeetsClause set clause) known step → IsStep (MeetsAll clauses counts) known step
step_of_clause clauses counts known number clause step e is = step_of (λ set. MeetsClause set clause) (MeetsAll clauses counts) known step
    (λ set m. All-at (MeetsClause set) clauses number clause m.each_clause e) is

pub step_of_count : (clauses : List (List Literal)) (counts : List Tally) (known : List Tri) (number : ℕ) (n : Tally) (step : Step) → slice_get counts number ≡ Some n →
    IsStep (λ set. MeetsCount set n) known step → IsStep (MeetsAll clauses counts) known step
step_of_count clauses counts known number n step e is = step_of (λ set. MeetsCount set n) (MeetsAll clauses counts) known step
    (λ set m. All-at (MeetsCount set) counts number n m.each_count e) is

pub count_out : (n : Tally) (known : List Tri) (is_in : Bool) → IsMissingAtCount n known (feature_out n.parent) → literals_in known (feature_in n.parent) ≡ is_in →
    IsStep (λ set. MeetsCount set n) known (if_out n.parent is_in)
count_out n known true m e = count_fails n known m e
count_out n known false m e = count_adds n known (feature_out n.parent) m e

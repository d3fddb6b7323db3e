-- The numbers of open rows.
use Rattle.std.proofs.Common.{◌≡◌, ℕ, zero, suc, ◌+◌, ◌-◌, ◌<◌, ◌≤◌, Bool, true, false, cond, List, [], ◌∷◌, ◌++◌, length, filter, Some, subst, arith, length-append}
use Rattle.std.specs.Prelude.{slice_get}
use Rattle.std.specs.List.{AllByRecursion}
use Rattle.vpg_tree.specs.Tree.{Tree}
use Rattle.vpg_tree.specs.declared.group.Kind.{Kind}
use Rattle.vpg_tree.specs.declared.group.Group.{Group}
use Rattle.vpg_uvl.specs.Nesting.{Open, Growth, narrower, last_of, with_group, with_feature}
use Rattle.vpg_uvl.specs.Views.{IsNumberedBy, IsNumbered, AreNumbered}

all_either : {X : Type 0} (P : X → Type 0) (x : X) (xs : List X) (t : Bool) → P x → AllByRecursion P xs → AllByRecursion P (cond t (x ∷ xs) xs)
all_either P x xs true h k = (h, k)
all_either P x xs false h k = k

all_filter : {X : Type 0} (P : X → Type 0) (p : X → Bool) (xs : List X) → AllByRecursion P xs → AllByRecursion P (filter p xs)
all_filter P p [] h = tt
all_filter P p (x ∷ xs) h = all_either P x (filter p xs) (p x) h.0 (all_filter P p xs h.1)

all_append : {X : Type 0} (P : X → Type 0) (xs ys : List X) → AllByRecursion P xs → AllByRecursion P ys → AllByRecursion P (xs ++ ys)
all_append P [] ys h k = k
all_append P (x ∷ xs) ys h k = (h.0, all_append P xs ys h.1 k)

all_weaker : {X : Type 0} (P Q : X → Type 0) → ((x : X) → P x → Q x) → (xs : List X) → AllByRecursion P xs → AllByRecursion Q xs
all_weaker P Q weaker [] h = tt
all_weaker P Q weaker (x ∷ xs) h = (weaker x h.0, all_weaker P Q weaker xs h.1)

all_at : {X : Type 0} (P : X → Type 0) (xs : List X) (k : ℕ) (x : X) → AllByRecursion P xs → slice_get xs k ≡ Some x → P x
all_at P [] k x h is = absurd (cc)
all_at P (y ∷ ys) zero x h is = let e : y ≡ x = cc in subst P e h.0
all_at P (y ∷ ys) (suc k) x h is = all_at P ys k x h.1 is

pub numbered_narrower : (tree : Tree) (indent : ℕ) (rows : List Open) → AllByRecursion (IsNumbered tree) rows → AllByRecursion (IsNumbered tree) (narrower indent rows)
numbered_narrower tree indent rows h = all_filter (IsNumbered tree) _ rows h

pub numbered_last : (tree : Tree) (rows : List Open) (row : Open) → AllByRecursion (IsNumbered tree) rows → last_of rows ≡ Some row → IsNumbered tree row
numbered_last tree rows row h is = all_at (IsNumbered tree) rows (length rows - 1) row h is

pub number_of_group : (tree : Tree) (row : Open) → IsNumbered tree row → row.is_group ≡ true → row.number < length tree.groups
number_of_group tree row h is = subst (IsNumberedBy tree row.number) is h

pub number_of_feature : (tree : Tree) (row : Open) → IsNumbered tree row → row.is_group ≡ false → row.number < length tree.names
number_of_feature tree row h is = subst (IsNumberedBy tree row.number) is h

by_more : (tree more : Tree) → length tree.groups ≤ length more.groups → length tree.names ≤ length more.names → (n : ℕ) (b : Bool) → IsNumberedBy tree n b → IsNumberedBy more n b
by_more tree more g n k true h = omega arith
by_more tree more g n k false h = omega arith

pub numbered_with_group : (g : Growth) (indent : ℕ) (parents : List Open) (parent : ℕ) (kind : Kind) → AllByRecursion (IsNumbered g.tree) parents → g.tree.constraints ≡ [] → AreNumbered (with_group g indent parents parent kind)
numbered_with_group g indent parents parent kind h none =
    let new : Group = record { parent = parent; kind = kind } in
    let more : Tree = record g.tree { groups = g.tree.groups ++ new ∷ [] } in
    let one_more : length more.groups ≡ length g.tree.groups + 1 = omega (arith, length-append g.tree.groups (new ∷ [])) in
    record {
      each = all_append (IsNumbered more) parents _
          (all_weaker (IsNumbered g.tree) (IsNumbered more) (λ row k. by_more g.tree more (omega (arith, one_more)) (omega arith) row.number row.is_group k) parents h)
          (omega (arith, one_more), tt);
      none = none;
    }

pub numbered_with_feature : (g : Growth) (indent : ℕ) (parents : List Open) (group : ℕ) (name : List ℕ) → AllByRecursion (IsNumbered g.tree) parents → g.tree.constraints ≡ [] → AreNumbered (with_feature g indent parents group name)
numbered_with_feature g indent parents group name h none =
    let more : Tree = record g.tree { names = g.tree.names ++ name ∷ []; places = g.tree.places ++ group ∷ [] } in
    let one_more : length more.names ≡ length g.tree.names + 1 = omega (arith, length-append g.tree.names (name ∷ [])) in
    record {
      each = all_append (IsNumbered more) parents _
          (all_weaker (IsNumbered g.tree) (IsNumbered more) (λ row k. by_more g.tree more (omega arith) (omega (arith, one_more)) row.number row.is_group k) parents h)
          (omega (arith, one_more), tt);
      none = none;
    }

-- Names that are looked up.
use Rattle.std.proofs.Common.{◌≡◌, ℕ, zero, suc, ◌<◌, ◌≤◌, ◌⊎◌, inl, inr, Bool, true, false, not, cond, List, [], ◌∷◌, ◌++◌, length, map, reverse, get_or, Option, Some, None, bytes_eq, refl, sym, ◌∙◌, ap, arith}
use Rattle.std.proofs.lemmas.Bool.{cases_Bool}
use Rattle.std.proofs.lemmas.List.{reverse-append}
use Rattle.vpg_requirement.specs.NormalForms.{NormalForm}
use Rattle.vpg_formula.specs.declared.mark.Mark.{Mark}
use Rattle.vpg_written.specs.Shapes.{constant_form}
use Rattle.vpg_written.specs.Trees.{Tree, nothing, node, place_of, form_named, tree_form, tree_at, name_at, before}
use Rattle.vpg_written.specs.Naming.{binder_name, around_of, names_of, latest_before}
use Rattle.vpg_written.specs.Tasks.{Basis, form_at, AreTerms}
use Rattle.vpg_written.specs.Openings.{IsNamed}
use Rattle.vpg_written.specs.declared.task.Binder.{Binder}
use Rattle.vpg_written.specs.declared.task.Term.{Term}
use Rattle.vpg_written.proofs.Whole.{at_map}

-- ---- fixpoints

map_append : {A B : Type 0} (f : A → B) (xs ys : List A) → map f (xs ++ ys) ≡ map f xs ++ map f ys
map_append f [] ys = refl
map_append f (x ∷ xs) ys = ap (λ (t : List _). f x ∷ t) (map_append f xs ys)

pub around_more : (bs : List Binder) (b : Binder) → around_of (bs ++ b ∷ []) ≡ binder_name b ∷ around_of bs
around_more bs b = ap reverse (map_append binder_name bs (b ∷ [])) ∙ reverse-append (map binder_name bs) (binder_name b ∷ [])

-- ---- entries

module _ (g : Basis) (terms : List Term) (are : AreTerms g terms) where
  some_of : {A : Type 0} (xs : List A) (n : ℕ) → n < length xs → A
  some_of [] n l = absurd (omega arith)
  some_of (x ∷ xs) n l = x

  name_is : (n : ℕ) → n < length terms → name_at g.entries n ≡ get_or (names_of terms) n []
  name_is n l = are.names n (some_of terms n l) l ∙ sym (at_map (λ (t : Term). t.name.now) terms n [] (some_of terms n l) l)

  abbrev pub latest_form : Bool → Option ℕ → NormalForm
  latest_form sign None = constant_form sign
  latest_form sign (Some m) = form_at g m sign [] (tree_at g.entries m)

  pub named_is : (n : ℕ) (x : List ℕ) (sign : Bool) → n ≤ length terms → before g.names g.entries n x sign ≡ latest_form sign (latest_before (names_of terms) n x)
  named_is zero x sign l = refl
  named_is (suc n) x sign l = rw (name_is n (omega arith)) (decide (cases_Bool (bytes_eq x (get_or (names_of terms) n []))) (named_is n x sign (omega arith)))
    where
      decide : (bytes_eq x (get_or (names_of terms) n []) ≡ true) ⊎ (bytes_eq x (get_or (names_of terms) n []) ≡ false) → before g.names g.entries n x sign ≡ latest_form sign (latest_before (names_of terms) n x) →
          cond (bytes_eq x (get_or (names_of terms) n [])) (tree_form g.names (before g.names g.entries n) sign [] (tree_at g.entries n)) (before g.names g.entries n x sign)
          ≡ latest_form sign (cond (bytes_eq x (get_or (names_of terms) n [])) (Some n) (latest_before (names_of terms) n x))
      decide (inl is) h = rw is refl
      decide (inr not) h = rw not h

  -- the form of a name
  pub form_of_name : (n : ℕ) (sign : Bool) (bs : List Binder) (t : Tree) (x : List ℕ) → IsNamed t x → form_at g n sign (around_of bs) t ≡ form_named (place_of (around_of bs) 0 x) (before g.names g.entries n x sign)
  form_of_name n sign bs nothing x e = absurd e
  form_of_name n sign bs (node m s t) x e = ap (λ (k : Mark). form_at g n sign (around_of bs) (node k s t)) e

-- One row more.
use Rattle.std.proofs.Common.{◌≡◌, ℕ, ◌<◌, ◌==◌, Bool, true, false, not, cond, List, ◌∷◌, length, Option, Some, None, Ok, refl, sym, ap, ap₂, ◌∙◌, arith}
use Rattle.std.proofs.lemmas.Bool.Decides.{nat_tests}
use Rattle.std.specs.Prelude.{codes, is_some, slice_get}
use Rattle.vpg_features.specs.Names.{AreNames, IsNew, index_of}
use Rattle.vpg_features.proofs.Held.{index_of_held, index_of_lacks}
use Rattle.vpg_rules.specs.Constraint.{Constraint}
use Rattle.vpg_tree.specs.Tree.{Tree}
use Rattle.vpg_uvl.specs.Rows.{Row, is_head, indentation, after_blanks}
use Rattle.vpg_uvl.specs.Items.{Item, named, stopped, Syntax, Twice, TooMany, item_of}
use Rattle.vpg_uvl.specs.Nesting.{Open, Growth, narrower, last_of, with_feature, placed_below, placed_item, early_stop, grown_by, grown_at, grown, front_stop}
use Rattle.vpg_uvl.specs.Model.{after_front, features_of, features_after}

pub not_false : (b : Bool) → not b ≡ false → b ≡ true
not_false true e = refl
not_false false e = absurd (cc)

-- a row that may come next is placed
pub grown_is : (g : Growth) (bytes : List ℕ) (indent : ℕ) (body : List ℕ) (parents : List Open) (item : Item) → indent ≡ indentation bytes → body ≡ after_blanks bytes →
    early_stop indent g.open_rows ≡ None → item_of body ≡ Ok item → parents ≡ narrower indent g.open_rows → grown g bytes ≡ placed_below g indent body parents (last_of parents) item
grown_is g bytes indent body parents item i b free is ps =
    sym (ap₂ (λ (n : ℕ) (t : List ℕ). grown_at g n t) i b)
    ∙ ap (grown_by g indent body) free
    ∙ ap (placed_item g indent body) is
    ∙ sym (ap (λ (rows : List Open). placed_below g indent body rows (last_of rows) item) ps)

module _ (g : Growth) (indent : ℕ) (body : List ℕ) (parents : List Open) (parent : Open) (name : List ℕ) where
  placed_in : last_of parents ≡ Some parent → parent.is_group ≡ true → placed_below g indent body parents (last_of parents) (named name)
      ≡ cond (is_some (index_of g.tree.names name)) (stopped Twice body) (cond (length g.tree.names == 512) (stopped TooMany body) (Ok (with_feature g indent parents parent.number name)))
  placed_in last is =
      ap (λ (p : Option Open). placed_below g indent body parents p (named name)) last
      ∙ ap (λ (b : Bool). cond b (cond (is_some (index_of g.tree.names name)) (stopped Twice body) (cond (length g.tree.names == 512) (stopped TooMany body) (Ok (with_feature g indent parents parent.number name)))) (stopped Syntax body)) is

  new_name : IsNew g.tree.names name → is_some (index_of g.tree.names name) ≡ false
  new_name new = ap is_some (index_of_lacks g.tree.names name new.absent)

  below_full : length g.tree.names < 512 → (length g.tree.names == 512) ≡ false
  below_full lt = grind (arith, nat_tests)

  full : length g.tree.names ≡ 512 → (length g.tree.names == 512) ≡ true
  full e = ap (λ (n : ℕ). n == 512) e

  pub placed_named : last_of parents ≡ Some parent → parent.is_group ≡ true → IsNew g.tree.names name → length g.tree.names < 512 → placed_below g indent body parents (last_of parents) (named name) ≡ Ok (with_feature g indent parents parent.number name)
  placed_named last is new lt =
      placed_in last is
      ∙ ap (λ (b : Bool). cond b (stopped Twice body) (cond (length g.tree.names == 512) (stopped TooMany body) (Ok (with_feature g indent parents parent.number name)))) (new_name new)
      ∙ ap (λ (b : Bool). cond b (stopped TooMany body) (Ok (with_feature g indent parents parent.number name))) (below_full lt)

  pub placed_many : last_of parents ≡ Some parent → parent.is_group ≡ true → IsNew g.tree.names name → length g.tree.names ≡ 512 → placed_below g indent body parents (last_of parents) (named name) ≡ stopped TooMany body
  placed_many last is new e =
      placed_in last is
      ∙ ap (λ (b : Bool). cond b (stopped Twice body) (cond (length g.tree.names == 512) (stopped TooMany body) (Ok (with_feature g indent parents parent.number name)))) (new_name new)
      ∙ ap (λ (b : Bool). cond b (stopped TooMany body) (Ok (with_feature g indent parents parent.number name))) (full e)

  pub placed_twice : (i : ℕ) → last_of parents ≡ Some parent → parent.is_group ≡ true → AreNames g.tree.names → slice_get g.tree.names i ≡ Some name → placed_below g indent body parents (last_of parents) (named name) ≡ stopped Twice body
  placed_twice i last is are held =
      placed_in last is
      ∙ ap (λ (o : Option ℕ). cond (is_some o) (stopped Twice body) (cond (length g.tree.names == 512) (stopped TooMany body) (Ok (with_feature g indent parents parent.number name)))) (index_of_held g.tree.names name i are.distinct held)

-- the rows before `features`
module _ (row : Row) (behind : List Row) where
  pub front_head : is_head (codes "features") row.bytes ≡ true → features_after (row ∷ behind) ≡ features_of behind
  front_head is = ap (λ (b : Bool). cond b (features_of behind) (after_front row (front_stop row.bytes) (features_after behind))) is

-- constraints may be added
pub same_more : (first old new : Tree) (cs : List (Constraint ℕ)) → old ≡ record first { constraints = old.constraints } → new ≡ record old { constraints = cs } → new ≡ record first { constraints = new.constraints }
same_more first old new cs h k =
    k ∙ ap (λ (t : Tree). record t { constraints = cs }) h ∙ ap (λ (xs : List (Constraint ℕ)). record first { constraints = xs }) (sym (ap (λ (t : Tree). t.constraints) k))

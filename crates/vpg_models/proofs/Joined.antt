-- The diagram that is read from what is written for a model has the model's configurations.
use Rattle.std.proofs.Common.{◌≡◌, ℕ, List, sym, ap, subst, ◌∙◌}
use Rattle.vpg_tree.specs.Tree.{Tree, IsTree}
use Rattle.vpg_tree.specs.DiagramText.{diagram_text}
use Rattle.vpg_tree.specs.InOrder.{IsInOrder}
use Rattle.vpg_diagram.specs.DiagramText.{IsTextOf}
use Rattle.vpg_tree_diagram.proofs.Joining.{trees_mean_their_diagrams}
use Rattle.vpg_tree_diagram.proofs.Known.{trees_within_limits_are_read}
use Rattle.vpg_uvl.specs.Model.{Spells}
use Rattle.vpg_uvl.proofs.InOrder.{spelled_in_order}
use Rattle.vpg_featureide.specs.Trees.{IsTreeOf}
use Rattle.vpg_featureide.proofs.InOrder.{trees_in_order}
use Rattle.vpg_models.specs.Forms.{SpellsTree, HasItsConfigurations, IsReadWithinLimits}
use Rattle.vpg_models.specs.declared.form.Form.{Form}
use Rattle.vpg_models.specs.declared.form.Form.TheVariants as forms

-- each tree that a text spells is in order
in_order : (form : Form) (text : List ℕ) (tree : Tree) → SpellsTree form text tree → IsTree tree → IsInOrder tree
in_order forms.Diagram text tree spells is = absurd spells
in_order forms.Uvl text tree spells is = spelled_in_order text tree spells is
in_order forms.FeatureIde text tree spells is = trees_in_order text tree spells is

-- a tree was read, no other is spelled, and its diagram was written
module _ (form : Form) (text meant : List ℕ) (read : Tree) (is : IsTree read) (written : meant ≡ diagram_text read) (only : (tree : Tree) → SpellsTree form text tree → read ≡ tree) where
  pub configurations : HasItsConfigurations form text meant
  configurations tree d spells spelled =
      let same = only tree spells in
      trees_mean_their_diagrams tree d (in_order form text tree spells (subst IsTree same is))
      (subst (λ (t : List ℕ). IsTextOf t d) (written ∙ ap diagram_text same) spelled)

  pub limits : IsReadWithinLimits form text meant
  limits tree spells within =
      let same = only tree spells in
      let h = trees_within_limits_are_read tree (in_order form text tree spells (subst IsTree same is)) within in
      (h.0, subst (λ (t : List ℕ). IsTextOf t h.0) (sym (written ∙ ap diagram_text same)) h.1)

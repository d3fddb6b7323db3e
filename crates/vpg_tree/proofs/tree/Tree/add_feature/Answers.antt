use Rattle.std.proofs.Common.{◌<◌, ◌∷◌, [], ◌++◌, List, ℕ, length, map, sym, subst}
use Rattle.vpg_features.proofs.Held.{names_more}
use Rattle.vpg_rules.specs.View.{constraint_of}
use Rattle.vpg_tree.specs.Tree.{IsTree}
use Rattle.vpg_tree.proofs.Trees.{tree_with_feature}
use Rattle.vpg_tree.proofs.tree.Tree.add_feature.Goals as goal

pub invariant_of-self-in-Ok-add : goal.invariant_of-self-in-Ok-add
invariant_of-self-in-Ok-add c =
    let tree = c.self.inside in
    let name = c.args.name.now in
    let lt : c.args.group < length tree.groups.items = subst (λ t. c.args.group < length t.groups) (sym c.self.view_is) c.requires in
    let are = names_more tree.names name c.self.invariant.names c.in-Ok-add.ensures.added.0 c.in-Ok-add.ensures.added.1 in
    subst (λ (ps : List ℕ). IsTree (record { names = c.add.new.self; groups = tree.groups.items; places = ps; constraints = map constraint_of tree.constraints.items })) (sym c.in-Ok.ensures.items)
    (subst (λ (ns : List (List ℕ)). IsTree (record { names = ns; groups = tree.groups.items; places = tree.places.items ++ c.args.group ∷ []; constraints = map constraint_of tree.constraints.items })) (sym c.in-Ok-add.ensures.ok.1)
    (tree_with_feature tree.names tree.groups.items tree.places.items (map constraint_of tree.constraints.items) name c.args.group c.self.invariant are lt))

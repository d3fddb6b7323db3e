use Rattle.std.proofs.Common.{◌<◌, List, length, map, sym, subst}
use Rattle.vpg_rules.specs.View.{constraint_of}
use Rattle.vpg_tree.specs.Tree.{Group, IsTree}
use Rattle.vpg_tree.proofs.Trees.{tree_with_group}
use Rattle.vpg_tree.proofs.tree.Tree.add_group.Goals as goal

pub invariant_of-self-2 : goal.invariant_of-self-2
invariant_of-self-2 c =
    let tree = c.self.inside in
    let new : Group = record { parent = c.args.parent; kind = c.args.kind } in
    let lt : c.args.parent < length tree.names = subst (λ t. c.args.parent < length t.names) (sym c.self.view_is) c.requires in
    subst (λ (gs : List Group). IsTree (record { names = tree.names; groups = gs; places = tree.places.items; constraints = map constraint_of tree.constraints.items })) (sym c.in_ok-push.ensures.items)
    (tree_with_group tree.names tree.groups.items tree.places.items (map constraint_of tree.constraints.items) new c.self.invariant lt)

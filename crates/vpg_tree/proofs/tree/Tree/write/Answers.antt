use Rattle.std.proofs.Common.{map}
use Rattle.vpg_rules.specs.View.{constraint_of}
use Rattle.vpg_tree.proofs.Grouped.{diagram_written}
use Rattle.vpg_tree.proofs.tree.Tree.write.Goals as goal

pub returns-clause-ok : goal.returns-clause-ok
returns-clause-ok c =
    diagram_written c.args.self.now c.names-names.result.now c.groups.result.now c.places.result.now (map constraint_of c.constraints.result.now)
    c.args.out.now.items c.new-text.result.items c.put_root.new.out.items c.put_groups.new.out.items c.put_constraints.new.out.items c.deref.result.now c.extend_from_slice.new.self.items
    c.names-names.ensures.names c.groups.ensures c.places.ensures c.constraints.ensures c.new-text.ensures.items
    c.in_ok-put_root.ensures c.in_ok-put_groups.ensures c.in_ok-put_constraints.ensures c.deref.ensures.value c.in_ok-extend_from_slice.ensures.items

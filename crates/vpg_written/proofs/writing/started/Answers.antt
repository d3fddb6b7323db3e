use Rattle.std.proofs.Common.{false, List, [], refl, sym, subst, ap, arith}
use Rattle.vpg_written.specs.Naming.{around_of}
use Rattle.vpg_written.specs.Trees.{tree_at}
use Rattle.vpg_written.specs.Tasks.{IsTree, IsToCome, form_at, entry_form}
use Rattle.vpg_written.specs.declared.piece.Piece.{Piece}
use Rattle.vpg_written.specs.declared.task.Binder.{Binder}
use Rattle.vpg_written.specs.declared.task.Item.{Item}
use Rattle.vpg_written.proofs.writing.started.Goals as goal

pub returns : goal.returns
returns c = λ g terms. c.in_ok-put_task.ensures g [] (entry_form g c.args.entry) (c.plain.ensures g (entry_form g c.args.entry) (record {
  known = omega (arith, c.requires, terms.count);
  tree = tree_at g.entries c.args.entry;
  term = subst (λ (ps : List Piece). IsTree g (tree_at g.entries c.args.entry) ps) (sym c.as_slice-term.ensures.value) (terms.trees c.args.entry c.index-terms-entry.result c.requires);
  form = ap (λ (bs : List Binder). form_at g c.args.entry false (around_of bs) (tree_at g.entries c.args.entry)) (sym c.new-scope.ensures.items);
})) (subst (λ (is : List Item). IsToCome g [] is) (sym c.new-items.ensures.items) refl)

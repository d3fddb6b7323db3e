use Rattle.std.proofs.Common.{◌≡◌, ◌++◌, List, ℕ, sym, ap, subst, ◌∙◌}
use Rattle.std.specs.Prelude.{codes, OnOk}
use Rattle.vpg_tree.specs.Tree.{Kind}
use Rattle.vpg_tree.specs.Lines.{group_lines}
use Rattle.vpg_tree.specs.DiagramText.{pairs_text, lines_text}
use Rattle.vpg_tree.proofs.Grouped.{mandatory_lines, optional_lines}
use Rattle.vpg_tree.proofs.writing.put_group.Goals as goal

pub returns-in-Mandatory : goal.returns-in-Mandatory
returns-in-Mandatory c =
    let names = c.args.names.now in
    let lines : lines_text names (group_lines c.args.group.kind c.args.group.parent c.args.members.now) ≡ pairs_text names (codes "mandatory ") c.args.group.parent c.args.members.now =
    ap (λ (k : Kind). lines_text names (group_lines k c.args.group.parent c.args.members.now)) c.in-Mandatory.is ∙ mandatory_lines names c.args.group.parent c.args.members.now in
    subst (λ (t : List ℕ). OnOk c.put_pairs.result (c.put_pairs.new.out.items ≡ c.args.out.now.items ++ t)) (sym lines) c.put_pairs.ensures

pub returns-in-Optional : goal.returns-in-Optional
returns-in-Optional c =
    let names = c.args.names.now in
    let lines : lines_text names (group_lines c.args.group.kind c.args.group.parent c.args.members.now) ≡ pairs_text names (codes "optional ") c.args.group.parent c.args.members.now =
    ap (λ (k : Kind). lines_text names (group_lines k c.args.group.parent c.args.members.now)) c.in-Optional.is ∙ optional_lines names c.args.group.parent c.args.members.now in
    subst (λ (t : List ℕ). OnOk c.put_pairs-in-Optional.result (c.put_pairs-in-Optional.new.out.items ≡ c.args.out.now.items ++ t)) (sym lines) c.put_pairs-in-Optional.ensures

use Rattle.std.proofs.lemmas.Grind.{common_steps}
use Rattle.std.proofs.Common.{ℕ, List, ◌++◌, sym, ap, subst, ◌∙◌, arith}
use Rattle.std.proofs.lemmas.List.{take_all}
use Rattle.vpg_guards.specs.Formula.{Formula, IsBelow}
use Rattle.vpg_game.specs.Edges.{GuardedEdge}
use Rattle.vpg_hope.specs.Kept.{features_under, kept_under}
use Rattle.vpg_hope.proofs.selection.Selection.push_kept.Goals as goal

pub returns : goal.returns
returns c =
    let kept : List (GuardedEdge Formula) → List ℕ = λ edges. c.args.successors.now.items ++ kept_under c.args.self c.args.owner edges in
    c.loop-edge.invariant ∙ ap kept (take_all c.loop-edge.edge-index c.args.edges.now c.loop-edge-test.false)

pub keeps-requires : goal.keeps-requires
keeps-requires c =
    subst (λ (guard : Formula). IsBelow (features_under c.args.self) guard) (sym (ap (λ (edge : GuardedEdge Formula). edge.guard) (c.edge.view_is ∙ c.edge-item.is)))
    (c.requires c.loop-edge.edge-index c.edge-item.result c.loop-edge-test.true)

pub loop-edge-preserved : goal.loop-edge-preserved
loop-edge-preserved c = grind (arith, common_steps)

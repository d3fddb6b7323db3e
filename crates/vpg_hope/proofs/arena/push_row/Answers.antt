use Rattle.std.proofs.lemmas.Grind.{common_steps}
use Rattle.std.proofs.Common.{List, All, length, length-append, sym, ap, subst, arith}
use Rattle.vpg_guards.specs.Formula.{Formula, IsBelow}
use Rattle.vpg_game.specs.Guarded.{GuardedEdge}
use Rattle.vpg_hope.specs.Kept.{features_under, kept_under}
use Rattle.vpg_hope.proofs.Selected.{guards_named, priority_fits, kept_few}
use Rattle.vpg_hope.proofs.arena.push_row.Goals as goal

pub push_kept-requires : goal.push_kept-requires
push_kept-requires c =
    subst (λ (es : List (GuardedEdge Formula)). All (λ edge. IsBelow (features_under c.args.selection) edge.guard) es) (sym c.edges.ensures.graph)
    (guards_named c.args.game.now (features_under c.args.selection) c.args.v c.requires.game c.requires.features c.requires.vertex)

pub priority-requires-2 : goal.priority-requires-2
priority-requires-2 c = omega (arith, c.priority.ensures.value, priority_fits c.args.game.now c.args.v c.requires.game c.requires.vertex)

pub overflow_cast-result : goal.overflow_cast-result
overflow_cast-result c =
    let kept = kept_under c.args.selection c.owner-owner.result c.edges.result.now in
    omega (
      arith,
      c.len.ensures,
      c.push_kept.new.successors.ok.0,
      ap length c.in_ok-push_kept.ensures,
      length-append c.args.own.now.items kept,
      kept_few c.args.selection c.owner-owner.result c.edges.result.now,
      ap length c.edges.ensures.graph,
      c.requires.room,
    )

pub returns-clause-row : goal.returns-clause-row
returns-clause-row c = grind (arith, common_steps)

pub returns-clause-own : goal.returns-clause-own
returns-clause-own c = grind (arith, common_steps)

pub priority-requires : goal.priority-requires
priority-requires c = grind (arith, common_steps)

pub edges-requires : goal.edges-requires
edges-requires c = grind (arith, common_steps)

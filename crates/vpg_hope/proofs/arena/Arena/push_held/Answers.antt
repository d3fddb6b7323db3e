use Rattle.std.proofs.lemmas.Grind.{common_steps}
use Rattle.std.proofs.Common.{List, All, sym, subst, arith}
use Rattle.vpg_guards.specs.Formula.{Formula, IsBelow}
use Rattle.vpg_game.specs.Guarded.{GuardedEdge}
use Rattle.vpg_game.proofs.Graphs.{same_count}
use Rattle.vpg_hope.specs.Kept.{features_under}
use Rattle.vpg_hope.proofs.Selected.{guards_named}
use Rattle.vpg_hope.proofs.arena.Arena.push_held.Goals as goal

pub push_kept-requires : goal.push_kept-requires
push_kept-requires c =
    subst (λ (es : List (GuardedEdge Formula)). All (λ edge. IsBelow (features_under c.args.selection) edge.guard) es) (sym c.edges.ensures.graph)
    (guards_named c.args.game.now (features_under c.args.selection) c.args.v c.requires.game c.requires.features c.requires.vertex)

pub kept-requires : goal.kept-requires
kept-requires c = omega (arith, c.requires.vertex, c.requires.count, same_count c.args.game.now)

pub returns-then-is_marked : goal.returns-then-is_marked
returns-then-is_marked c = grind (arith, common_steps)

pub returns : goal.returns
returns c = grind (arith, common_steps)

use Rattle.std.proofs.Common.{◌≡◌, ℕ, ◌+◌, ◌≤◌, ◌<◌, List, length, take, arith, sym, ap, ◌∙◌, subst}
use Rattle.vpg_game.specs.Game.{edges_in}
use Rattle.vpg_game.specs.Guarded.{GuardedEdge}
use Rattle.vpg_guards.specs.Formula.{Formula}
use Rattle.vpg_family.proofs.Counting.{edges_more, edges_of_front}
use Rattle.vpg_family.proofs.counts.edges.Goals as goal
use Rattle.vpg_family.proofs.counts.edges.Goals.{After-edges}

-- those of the first vertices and of this one are those of one vertex more
more : (c : After-edges) → c.loop-v.edges + length c.edges.result.now ≡ edges_in (take (c.loop-v.v + 1) c.args.game.now.vertices)
more c =
    ap (λ (n : ℕ). n + length c.edges.result.now) c.loop-v.invariant
    ∙ ap (λ (es : List (GuardedEdge Formula)). edges_in (take c.loop-v.v c.args.game.now.vertices) + length es) c.edges.ensures.value
    ∙ sym (edges_more c.args.game.now.vertices c.loop-v.v (subst (λ (n : ℕ). c.loop-v.v < n) c.vertices-v-end.ensures.count c.loop-v-test.true))

few : (c : After-edges) → c.loop-v.edges + length c.edges.result.now ≤ 1048576
few c = omega (arith, more c, edges_of_front c.args.game.now.vertices (c.loop-v.v + 1), c.vertices-v-end.ensures.game.few_edges)

pub overflow_cast-edges : goal.overflow_cast-edges
overflow_cast-edges c = omega (arith, few (goal.at.overflow_cast-edges c).After-edges)

pub overflow_add-edges : goal.overflow_add-edges
overflow_add-edges c = omega (arith, few (goal.at.overflow_add-edges c).After-edges)

pub loop-v-preserved : goal.loop-v-preserved
loop-v-preserved c = more (goal.at.loop-v-preserved c).After-edges

use Rattle.std.proofs.Common.{◌<◌, ℕ, All, sym, subst, ◌∙◌}
use Rattle.vpg_guards.specs.Formula.{Formula}
use Rattle.vpg_game.specs.Edges.{GuardedEdge}
use Rattle.vpg_game.proofs.Graphs.{same_count}
use Rattle.vpg_open.proofs.Entries.{edges_within}
use Rattle.vpg_open.proofs.reaching.mark_next.Goals as goal

pub mark_targets-requires : goal.mark_targets-requires
mark_targets-requires c =
    subst (λ (n : ℕ). All (λ (e : GuardedEdge Formula). e.to < n) c.edges.result.now)
    (sym (same_count c.args.game.now) ∙ sym c.requires.marks)
    (edges_within c.args.game.now c.args.v c.edges.result.now c.vertices-count.ensures.game
    (subst (λ (n : ℕ). c.args.v < n) (same_count c.args.game.now) c.requires.vertex) c.edges.ensures.graph)

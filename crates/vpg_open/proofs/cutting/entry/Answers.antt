use Rattle.vpg_open.proofs.Entries.{edges_within}
use Rattle.vpg_open.proofs.cutting.entry.Goals as goal

pub successors-requires : goal.successors-requires
successors-requires c =
    edges_within c.args.game.now c.args.v c.edges.result.now c.vertices-count.ensures.game c.requires
    c.edges.ensures.graph

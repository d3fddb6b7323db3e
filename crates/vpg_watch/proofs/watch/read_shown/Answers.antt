use Rattle.vpg_watch.proofs.Growing.{grows, shown_sheet}
use Rattle.vpg_watch.proofs.watch.read_shown.Goals as goal

pub enter_as-requires : goal.enter_as-requires
enter_as-requires g c x =
    let law = g.met.F.Follows in
    grows (shown_sheet {F = g.row.F.Denot}) g.F.Follows.begins g.F.Follows.belongs law.itself law.through _ _ x x (law.itself (shown_sheet x).front) (λ own. own)

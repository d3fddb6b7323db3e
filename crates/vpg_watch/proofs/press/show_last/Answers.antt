use Rattle.vpg_watch.proofs.Growing.{turns, shown_sheet}
use Rattle.vpg_watch.proofs.press.show_last.Goals as goal

pub publish_as-requires : goal.publish_as-requires
publish_as-requires g c next is =
    let law = g.met.F.Follows in
    turns (shown_sheet {F = g.row.F.Denot}) g.F.Follows.begins g.F.Follows.belongs law.itself law.through _ _ c.args.before.desk.shown.value next _ is c.requires.begins c.requires.belongs

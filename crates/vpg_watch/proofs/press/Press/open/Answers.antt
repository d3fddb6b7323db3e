use Rattle.std.proofs.Common.{sym, fold}
use Rattle.std.specs.Arc.{arc_value}
use Rattle.vpg_watch.proofs.press.Press.open.Goals as goal

pub show_last-writer-requires-clause-begins : goal.show_last-writer-requires-clause-begins
show_last-writer-requires-clause-begins g c =
    let shown = arc_value c.in-Ok.writer.desk.shown.value.sheet in
    coe 0 1 (k. g.F.Follows.begins (fold (λ _ o. arc_value o) shown ((sym c.in-Ok.ensures.1) k)).front shown.front) (g.met.F.Follows.itself shown.front)

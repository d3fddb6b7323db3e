use Rattle.vpg_system_draw.proofs.Joins.{arrow_at}
use Rattle.vpg_system_draw.proofs.arrows.put_at.Goals as goal

pub returns : goal.returns
returns c = rw (arrow_at c.args.ends.now.keys c.args.labels.now c.args.at c.requires.count c.requires.at, ← c.ends_at-source.ensures, ← c.label_at.ensures) c.put_arrow.ensures

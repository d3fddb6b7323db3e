use Rattle.vpg_system_draw.specs.Arrows.{arrows_below}
use Rattle.vpg_system_draw.specs.Joining.{AreArrows}
use Rattle.vpg_system_draw.proofs.arrows.add_all.Given as goal

-- the arrows of the transitions so far
abbrev pub invariant-loop-at : goal.invariant-loop-at
invariant-loop-at l = AreArrows (arrows_below l.names l.known l.system l.marks l.look l.at) l.ends.keys l.labels.items

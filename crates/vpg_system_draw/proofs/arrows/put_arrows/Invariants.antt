use Rattle.std.proofs.Common.{◌≡◌, ◌++◌, take}
use Rattle.std.specs.Prelude.{flat_map}
use Rattle.vpg_system_draw.specs.Joining.{arrows_in}
use Rattle.vpg_system_draw.specs.SystemDrawing.{arrow_text}
use Rattle.vpg_system_draw.proofs.arrows.put_arrows.Given as goal

abbrev pub invariant-loop-at : goal.invariant-loop-at
invariant-loop-at l = l.out.items ≡ l.fn.out.items ++ flat_map (arrow_text l.look) (take l.at (arrows_in l.ends.keys l.labels))

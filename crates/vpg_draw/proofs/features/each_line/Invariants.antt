use Rattle.std.proofs.Common.{◌≡◌, ◌++◌, take, map}
use Rattle.std.specs.Prelude.{flat_map}
use Rattle.vpg_draw.specs.FeatureDrawing.{line_text}
use Rattle.vpg_draw.proofs.features.each_line.Given as goal

abbrev pub invariant-loop-bytes : goal.invariant-loop-bytes
invariant-loop-bytes l = l.out.items ≡ l.fn.out.items ++ flat_map line_text (map (λ w. w.now) (take l.bytes-index l.lines))

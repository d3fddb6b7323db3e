use Rattle.std.proofs.Common.{◌≡◌, ◌++◌, take, map}
use Rattle.vpg_draw.specs.FeatureDrawing.{arrows_text}
use Rattle.vpg_draw.proofs.features.arrows.Given as goal

abbrev pub invariant-loop-word : goal.invariant-loop-word
invariant-loop-word l = l.out.items ≡ l.fn.out.items ++ arrows_text l.from l.look (map (λ w. w.now) (take l.word-index l.words))

use Rattle.vpg_draw.proofs.Growing.{grown_mapped, grown_all_mapped}
use Rattle.vpg_draw.specs.FeatureDrawing.{arrow_text}
use Rattle.vpg_draw.proofs.features.arrows.Goals as goal

pub loop-word-preserved : goal.loop-word-preserved
loop-word-preserved c =
    grown_mapped (arrow_text c.args.from.now c.args.look.now) (λ w. w.now) c.args.words.now c.loop-word.word-index _ c.args.out.now.items c.loop-word.out.items c.arrow.new.out.items c.loop-word-test.true c.loop-word.invariant c.in_ok-arrow.ensures

pub returns : goal.returns
returns c =
    grown_all_mapped (arrow_text c.args.from.now c.args.look.now) (λ w. w.now) c.args.words.now c.loop-word.word-index c.args.out.now.items c.loop-word.out.items c.loop-word-test.false c.loop-word.invariant

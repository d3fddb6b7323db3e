use Rattle.vpg_draw.proofs.Growing.{grown_mapped, grown_all_mapped}
use Rattle.vpg_draw.specs.FeatureDrawing.{line_text}
use Rattle.vpg_draw.proofs.features.each_line.Goals as goal

pub loop-bytes-preserved : goal.loop-bytes-preserved
loop-bytes-preserved c =
    grown_mapped line_text (λ w. w.now) c.args.lines.now c.loop-bytes.bytes-index _ c.args.out.now.items c.loop-bytes.out.items c.line.new.out.items c.loop-bytes-test.true c.loop-bytes.invariant c.in_ok-line.ensures

pub returns : goal.returns
returns c =
    grown_all_mapped line_text (λ w. w.now) c.args.lines.now c.loop-bytes.bytes-index c.args.out.now.items c.loop-bytes.out.items c.loop-bytes-test.false c.loop-bytes.invariant

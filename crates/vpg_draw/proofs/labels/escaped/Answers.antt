use Rattle.vpg_draw.proofs.Growing.{grown_each, grown_all}
use Rattle.vpg_draw.specs.Labels.{label_byte}
use Rattle.vpg_draw.proofs.labels.escaped.Goals as goal

pub loop-b-preserved : goal.loop-b-preserved
loop-b-preserved c =
    grown_each label_byte c.args.bytes.now c.loop-b.b-index 0 c.args.out.now.items c.loop-b.out.items c.label_byte.new.out.items c.loop-b-test.true c.loop-b.invariant c.in_ok-label_byte.ensures

pub returns : goal.returns
returns c =
    grown_all label_byte c.args.bytes.now c.loop-b.b-index c.args.out.now.items c.loop-b.out.items c.loop-b-test.false c.loop-b.invariant

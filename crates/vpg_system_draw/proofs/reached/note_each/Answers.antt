use Rattle.std.proofs.Common.{arith}
use Rattle.vpg_system_draw.proofs.Noting.{noted_none, noted_next, noted_all}
use Rattle.vpg_system_draw.proofs.reached.note_each.Goals as goal

pub loop-target-init : goal.loop-target-init
loop-target-init c = noted_none c.args.marks.now.items c.args.waiting.now.items

pub note-requires : goal.note-requires
note-requires c = omega (arith, c.requires c.loop-target.target-index 0 c.loop-target-test.true, c.loop-target.invariant.count)

pub loop-target-preserved : goal.loop-target-preserved
loop-target-preserved c =
    noted_next c.args.targets.now c.loop-target.target-index c.args.marks.now.items c.loop-target.marks.items c.note.new.marks.items c.args.waiting.now.items c.loop-target.waiting.items c.note.new.waiting.items
    c.loop-target-test.true c.loop-target.invariant c.in_ok-note.ensures

pub returns : goal.returns
returns c =
    noted_all c.args.targets.now c.loop-target.target-index c.args.marks.now.items c.loop-target.marks.items c.args.waiting.now.items c.loop-target.waiting.items c.loop-target-test.false c.loop-target.invariant

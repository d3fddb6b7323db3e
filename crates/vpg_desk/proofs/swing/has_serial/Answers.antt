use Rattle.std.proofs.Common.{sym}
use Rattle.vpg_desk.proofs.Stacks.{serial_found, serial_not_yet}
use Rattle.vpg_desk.proofs.swing.has_serial.Goals as goal

pub returns-then-cut-serial : goal.returns-then-cut-serial
returns-then-cut-serial c = sym (serial_found c.args.serial c.args.cuts.now c.loop-cut.cut-index c.cut-item.result c.loop-cut-test.true c.cut-item.is c.if-cut-serial.true)

pub loop-cut-preserved : goal.loop-cut-preserved
loop-cut-preserved c = serial_not_yet c.args.serial c.args.cuts.now c.loop-cut.cut-index c.cut-item.result c.loop-cut-test.true c.cut-item.is c.loop-cut.invariant c.if-cut-serial.false

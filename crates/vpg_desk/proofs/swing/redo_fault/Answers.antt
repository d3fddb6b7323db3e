use Rattle.std.proofs.Common.{sym, ◌∙◌}
use Rattle.vpg_desk.proofs.Stacks.{redo_other}
use Rattle.vpg_desk.proofs.swing.redo_fault.Goals as goal

pub returns-then-has_serial : goal.returns-then-has_serial
returns-then-has_serial c = redo_other c.args.future.now c.in-Some.nearest.now c.args.serial _ (sym c.in-Some.ensures.value) c.if-nearest-serial.false (sym c.has_serial.ensures ∙ c.if-has_serial.true)

pub returns : goal.returns
returns c = redo_other c.args.future.now c.in-Some.nearest.now c.args.serial _ (sym c.in-Some.ensures.value) c.if-nearest-serial.false (sym c.has_serial.ensures ∙ c.if-has_serial.false)

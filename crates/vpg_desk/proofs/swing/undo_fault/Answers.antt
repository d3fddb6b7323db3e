use Rattle.std.proofs.Common.{sym, ◌∙◌}
use Rattle.vpg_desk.proofs.Stacks.{undo_other}
use Rattle.vpg_desk.proofs.swing.undo_fault.Goals as goal

pub returns-then-has_serial : goal.returns-then-has_serial
returns-then-has_serial c = undo_other c.args.past.now c.in-Some.newest.now c.args.serial _ (sym c.in-Some.ensures.value) c.if-newest-serial.false (sym c.has_serial.ensures ∙ c.if-has_serial.true)

pub returns : goal.returns
returns c = undo_other c.args.past.now c.in-Some.newest.now c.args.serial _ (sym c.in-Some.ensures.value) c.if-newest-serial.false (sym c.has_serial.ensures ∙ c.if-has_serial.false)

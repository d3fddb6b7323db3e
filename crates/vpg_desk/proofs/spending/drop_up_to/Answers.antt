use Rattle.std.proofs.Common.{◌-◌, length, ap, arith}
use Rattle.vpg_desk.proofs.Stacks.{notes_left}
use Rattle.vpg_desk.proofs.spending.drop_up_to.Goals as goal

pub returns-clause-notes : goal.returns-clause-notes
returns-clause-notes c =
    notes_left c.up_to-n.result (c.len.result - c.up_to-n.result) c.args.cuts.now.items c.rotate_left.new.self.items c.truncate.new.self.items
    (omega (arith, c.up_to-n.ensures.in_range, ap length c.deref.ensures.value)) (omega (arith, c.len.ensures, c.args.cuts.now.ok.0)) c.rotate_left.ensures.items c.truncate.ensures.items

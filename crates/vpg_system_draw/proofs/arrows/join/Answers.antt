use Rattle.std.proofs.Common.{arith}
use Rattle.std.proofs.lemmas.Result.{on_ok_weaker}
use Rattle.vpg_system_draw.proofs.Joins.{joined_by_line, joined_by_arrow}
use Rattle.vpg_system_draw.proofs.arrows.join.Goals as goal

pub returns-then-at-len : goal.returns-then-at-len
returns-then-at-len c =
    on_ok_weaker c.add_line.result
    (joined_by_line c.args.source c.args.target c.args.text.items c.args.ends.now.keys c.insert_full.new.self.keys c.args.labels.now.items c.in-Ok.at c.requires c.in-Ok.ensures.keys c.in-Ok.ensures.index
    c.add_line.new.labels.items (omega (arith, c.if-at-len.true, c.len.ensures)))
    (rw c.deref.ensures.value at c.add_line.ensures)

pub returns : goal.returns
returns c =
    joined_by_arrow c.args.source c.args.target c.args.text.items c.args.ends.now.keys c.insert_full.new.self.keys c.args.labels.now.items c.in-Ok.at c.requires c.in-Ok.ensures.keys c.in-Ok.ensures.index
    c.push.new.self.items (omega (arith, c.if-at-len.false, c.len.ensures)) c.in_ok-push.ensures.items

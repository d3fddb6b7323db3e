use Rattle.std.proofs.Common.{sym, ◌∙◌, arith}
use Rattle.vpg_winners.proofs.Marking.{marks_next, marks_end}
use Rattle.vpg_winners.proofs.pairing.marks_of.Goals as goal

pub loop-part-preserved : goal.loop-part-preserved
loop-part-preserved c = marks_next c.args.parts.now c.loop-part.marks.items c.push.new.self.items c.loop-part.part-index
    c.part-item.result c.mark_of.result (omega (arith, c.loop-part-test.true)) c.part-item.is
    c.mark_of.ensures c.in_ok-push.ensures.items ∙ c.loop-part.invariant

pub returns : goal.returns
returns c = sym (marks_end c.args.parts.now c.loop-part.marks.items c.loop-part.part-index
    (omega (arith, c.loop-part-test.false))) ∙ c.loop-part.invariant

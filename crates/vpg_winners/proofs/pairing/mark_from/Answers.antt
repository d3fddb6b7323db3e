use Rattle.std.proofs.Common.{sym, ◌∙◌, arith}
use Rattle.vpg_winners.proofs.Marking.{mark_more, mark_end}
use Rattle.vpg_winners.proofs.pairing.mark_from.Goals as goal

pub loop-i-preserved : goal.loop-i-preserved
loop-i-preserved c = mark_more _ c.args.literals.now c.loop-i.i c.loop-i.mark c.marked-mark.result
    (omega (arith, c.loop-i-test.true)) c.marked-mark.ensures ∙ c.loop-i.invariant

pub returns : goal.returns
returns c = sym (mark_end c.args.literals.now c.loop-i.i c.loop-i.mark
    (omega (arith, c.loop-i-test.false))) ∙ c.loop-i.invariant

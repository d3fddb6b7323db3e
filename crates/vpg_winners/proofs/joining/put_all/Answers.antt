use Rattle.std.proofs.Common.{arith}
use Rattle.vpg_winners.specs.Winners.{views}
use Rattle.vpg_winners.proofs.Mates.{put_next, put_none}
use Rattle.vpg_winners.proofs.Numbers.{number_cut}
use Rattle.vpg_winners.proofs.joining.put_all.Goals as goal

pub loop-part-preserved : goal.loop-part-preserved
loop-part-preserved c = record {
  made = λ new more. c.loop-part.invariant.made new (put_next c.loop-part.all.items c.put.new.parts.items
      c.args.parts.now c.loop-part.part-index c.part-item.result c.in_ok-more.more c.args.literal new
      (omega (arith, c.loop-part-test.true)) c.part-item.is c.in_ok-more.ensures.part c.in_ok-put.ensures.put more);
  numbers = λ measure adds before added. c.in_ok-put.ensures.numbers measure adds
      (c.loop-part.invariant.numbers measure adds before added)
      (number_cut measure c.args.literal c.args.parts.now c.loop-part.part-index c.part-item.result c.in_ok-more.more
      c.loop-part-test.true c.part-item.is c.in_ok-more.ensures.number c.in_ok-more.ensures.part added);
}

pub returns-clause-put : goal.returns-clause-put
returns-clause-put c = c.loop-part.invariant.made (views c.loop-part.all.items) (put_none c.loop-part.all.items
    c.args.parts.now c.loop-part.part-index c.args.literal (omega (arith, c.loop-part-test.false)))

pub returns-clause-numbers : goal.returns-clause-numbers
returns-clause-numbers c = c.loop-part.invariant.numbers

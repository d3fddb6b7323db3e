use Rattle.std.proofs.Common.{refl, arith}
use Rattle.vpg_open.proofs.Entries.{entries_more, entries_all}
use Rattle.vpg_open.proofs.cutting.entries.Goals as goal

pub loop-v-preserved : goal.loop-v-preserved
loop-v-preserved c =
    entries_more c.args.game.now c.args.winners.now c.requires c.loop-v.v _ c.loop-v.entries.items
    c.push.new.self.items c.in_ok-entry.field-0 (omega (arith, c.loop-v-test.true, c.vertices-count.ensures.count)) refl
    c.loop-v.invariant c.in_ok-entry.ensures c.in_ok-push.ensures.items

pub returns : goal.returns
returns c =
    entries_all c.args.game.now c.args.winners.now c.requires c.loop-v.v c.loop-v.entries.items
    (omega (arith, c.loop-v-test.false, c.vertices-count.ensures.count)) c.loop-v.invariant

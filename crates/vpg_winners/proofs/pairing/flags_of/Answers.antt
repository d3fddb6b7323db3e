use Rattle.std.proofs.Common.{true, ◌∙◌, arith}
use Rattle.vpg_winners.proofs.Marking.{flags_end, flags_long, flags_next}
use Rattle.vpg_winners.proofs.pairing.flags_of.Goals as goal

pub loop-i-preserved : goal.loop-i-preserved
loop-i-preserved c = record {
  long = flags_long c.loop-i.flags.items c.slot_of-slot.result true ∙ c.loop-i.invariant.long;
  first = flags_next _ c.loop-i.flags.items c.args.marks.now c.saturating_add-slots.result c.loop-i.i c.slot_of-slot.result
      c.loop-i.invariant.long (omega (arith, c.loop-i-test.true)) c.slot_of-slot.ensures.within
      c.slot_of-slot.ensures.slot c.loop-i.invariant.first;
}

pub returns : goal.returns
returns c = flags_end c.loop-i.flags.items c.args.marks.now c.saturating_add-slots.result c.loop-i.i
    c.loop-i.invariant.long (omega (arith, c.saturating_add-slots.ensures)) (omega (arith, c.loop-i-test.false))
    c.loop-i.invariant.first

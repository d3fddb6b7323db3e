use Rattle.std.proofs.Common.{length, refl, arith}
use Rattle.vpg_winners.specs.Winners.{view_of}
use Rattle.vpg_winners.proofs.Marking.{first_same, none_flagged, none_between, none_next, none_same, marks_long}
use Rattle.vpg_winners.proofs.pairing.place_of.Goals as goal

pub returns-then-is_same_part-clause-some : goal.returns-then-is_same_part-clause-some
returns-then-is_same_part-clause-some c =
    let long = marks_long c.args.parts.now c.args.marks.now c.requires.marks in
    let within = c.in-Some.ensures.some.within in
    first_same c.args.parts.now (view_of c.args.part.now) c.in-Some.place
    (none_between c.args.parts.now c.args.marks.now c.args.part.now c.mark_of-own.result c.loop-place.from c.requires.marks
    c.mark_of-own.ensures c.loop-place.invariant.none c.in-Some.place
    (omega (arith, long, within)) c.in-Some.ensures.some.before)
    c.index-parts-place.result (omega (arith, long, within)) c.index-parts-place.is
    (c.if-is_same_part.ensures.0 refl)

pub loop-place-preserved : goal.loop-place-preserved
loop-place-preserved c =
    let long = marks_long c.args.parts.now c.args.marks.now c.requires.marks in
    let within = c.in-Some.ensures.some.within in
    record {
      within = omega (arith, within);
      none = none_next c.args.parts.now (view_of c.args.part.now) c.in-Some.place
          (none_between c.args.parts.now c.args.marks.now c.args.part.now c.mark_of-own.result c.loop-place.from
          c.requires.marks c.mark_of-own.ensures c.loop-place.invariant.none
          c.in-Some.place (omega (arith, long, within)) c.in-Some.ensures.some.before)
          c.index-parts-place.result (omega (arith, long, within)) c.index-parts-place.is
          (λ same. cc (c.if-is_same_part.ensures.1 same));
    }

pub returns-clause-none : goal.returns-clause-none
returns-clause-none c = λ e.
    let long = marks_long c.args.parts.now c.args.marks.now c.requires.marks in
    none_same c.args.parts.now (view_of c.args.part.now) (length c.args.marks.now)
    (none_between c.args.parts.now c.args.marks.now c.args.part.now c.mark_of-own.result c.loop-place.from
    c.requires.marks c.mark_of-own.ensures c.loop-place.invariant.none
    (length c.args.marks.now) (omega (arith, long)) (c.in_default.ensures.none e)) (omega (arith, long))

pub returns-then-not-flags-slot_of-clause-none : goal.returns-then-not-flags-slot_of-clause-none
returns-then-not-flags-slot_of-clause-none c = λ e. none_flagged _ c.args.flags.now c.args.parts.now c.args.marks.now
    c.args.part.now c.mark_of-own.result c.slot_of.result c.requires.marks c.requires.flags
    c.mark_of-own.ensures c.slot_of.ensures.slot
    c.slot_of.ensures.within c.if-not-flags-slot_of.true

use Rattle.std.proofs.Common.{refl, arith}
use Rattle.vpg_winners.specs.Winners.{view_of}
use Rattle.vpg_winners.proofs.Mates.{none_next, no_mate}
use Rattle.vpg_winners.proofs.joining.mate_of.Goals as goal

pub loop-place-preserved : goal.loop-place-preserved
loop-place-preserved c = none_next c.args.parts.now (view_of c.args.part.now) c.loop-place.place
    c.index-parts-place.result (omega (arith, c.loop-place-test.true)) c.index-parts-place.is c.loop-place.invariant
    (c.in_default.ensures.none refl)

pub returns-clause-none : goal.returns-clause-none
returns-clause-none c = λ e. no_mate c.args.parts.now (view_of c.args.part.now) c.loop-place.place
    (omega (arith, c.loop-place-test.false)) c.loop-place.invariant

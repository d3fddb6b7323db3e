use Rattle.std.proofs.Common.{refl, arith, true≢false}
use Rattle.vpg_measure.proofs.Rounds.{progress_from, progress_at}
use Rattle.vpg_desk.proofs.looking.first_raised.Goals as goal

pub returns-then-get-lift : goal.returns-then-get-lift
returns-then-get-lift c = (
  λ none. absurd (true≢false none),
  λ h. (let at = progress_at c.args.shape.now c.args.arena.now c.args.table.now c.requires h c.loop-v.v (omega (arith, c.vertices-v-end.ensures)) in
      absurd (omega (arith, at, c.lift.ensures.lift, c.get.ensures))),
)

pub returns : goal.returns
returns c = (
  λ t. progress_from c.args.shape.now c.args.arena.now c.args.table.now c.requires
      (λ v less. c.loop-v.invariant v (omega (arith, c.vertices-v-end.ensures))),
  λ h. refl,
)

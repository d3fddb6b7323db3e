use Rattle.std.proofs.Common.{◌-◌, ◌+◌, arith}
use Rattle.vpg_normal.proofs.Sizes.{behind_within}
use Rattle.vpg_normal.proofs.size.sizes.Goals as goal

pub size-size-requires-clause-within : goal.size-size-requires-clause-within
size-size-requires-clause-within c =
    behind_within c.args.symbols.now c.loop-place.sizes.items c.deref.result.now c.loop-place.place (c.loop-place.place - 1 + 1) c.deref.ensures.value (omega (arith, c.loop-place-test.true)) c.loop-place.invariant.behind

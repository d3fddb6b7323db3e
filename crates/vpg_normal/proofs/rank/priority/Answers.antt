use Rattle.std.proofs.Common.{◌+◌, arith}
use Rattle.vpg_normal.proofs.Passes.{shares_low}
use Rattle.vpg_normal.proofs.rank.priority.Goals as goal

pub next_priority-requires : goal.next_priority-requires
next_priority-requires c =
    omega (
      arith,
      c.inner_priority-inner.ensures,
      shares_low c.args.scopes.now c.args.fixpoints.now c.args.priorities.now 4294967294 (λ k. omega (arith, c.requires.low k)) c.args.place (c.args.place + 1) c.number_at-size.result,
    )

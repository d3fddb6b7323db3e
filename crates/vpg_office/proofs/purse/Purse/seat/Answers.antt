use Rattle.std.proofs.Common.{◌+◌, arith}
use Rattle.vpg_office.proofs.Counting.{few_parts, up_to-next}
use Rattle.vpg_office.proofs.purse.Purse.seat.Goals as goal

pub split_off-share-requires-clause-has_parts : goal.split_off-share-requires-clause-has_parts
split_off-share-requires-clause-has_parts g c =
    let n = c.self.inside.sessions in
    omega (arith, up_to-next n, few_parts (n + 1) (omega (arith, c.self.invariant.2, c.if-self-eq-MOST_SESSIONS.false)), c.self.invariant.1, c.requires, c.self.view_is)

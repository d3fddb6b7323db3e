use Rattle.std.proofs.Common.{arith}
use Rattle.vpg_office.proofs.Counting.{few_parts}
use Rattle.vpg_office.proofs.purse.Purse.issue.Goals as goal

pub split_off-share-requires-clause-has_parts : goal.split_off-share-requires-clause-has_parts
split_off-share-requires-clause-has_parts g c = omega (arith, few_parts c.self.inside.sessions c.self.invariant.2, c.self.invariant.1, c.requires, c.self.view_is)

use Rattle.std.proofs.Common.{◌≡◌, ◌-◌, max}
use Rattle.vpg_normal.specs.Ranks.{crossed}
use Rattle.vpg_normal.proofs.rank.crossed.Given as goal

abbrev pub invariant-loop : goal.invariant-loop
invariant-loop l = max l.greatest (crossed l.scopes l.priorities l.low (l.most - l.counter) l.at) ≡ crossed l.scopes l.priorities l.low l.most l.fn.from

use Rattle.std.proofs.Common.{◌≡◌, ◌-◌}
use Rattle.vpg_normal.specs.Scopes.{walked}
use Rattle.vpg_normal.proofs.scope.outer.Given as goal

abbrev pub invariant-loop : goal.invariant-loop
invariant-loop l = walked l.scopes (l.between - l.counter) l.at ≡ walked l.scopes l.between l.fn.from

use Rattle.std.proofs.Common.{◌≡◌, ◌++◌, [], drop, reverse}
use Rattle.vpg_normal.specs.Scopes.{scopes_from}
use Rattle.vpg_normal.proofs.scope.scopes.Given as goal

abbrev pub invariant-loop-place : goal.invariant-loop-place
invariant-loop-place l = l.scopes.items ++ scopes_from (drop l.place l.symbols) l.place (reverse l.awaited.items) ≡ scopes_from l.symbols 0 []

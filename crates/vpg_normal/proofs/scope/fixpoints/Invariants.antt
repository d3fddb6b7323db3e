use Rattle.std.proofs.Common.{◌≡◌, ℕ, ◌<◌, None, length, get_or}
use Rattle.vpg_parts.specs.declared.symbol.Symbol.TheVariants.{True}
use Rattle.vpg_normal.specs.Scopes.{fixpoint_of}
use Rattle.vpg_normal.proofs.scope.fixpoints.Given as goal

abbrev pub invariant-loop-place : goal.invariant-loop-place
invariant-loop-place l = record {
  count : length l.fixpoints.items ≡ l.place;
  each : (k : ℕ) → k < l.place → get_or l.fixpoints.items k None ≡ fixpoint_of l.scopes (get_or l.scopes k None) (get_or l.symbols k True);
}

use Rattle.std.proofs.Common.{◌≡◌, ℕ, ◌<◌, length, get_or}
use Rattle.vpg_parts.specs.declared.symbol.Symbol.TheVariants.{True}
use Rattle.vpg_parts.specs.Parts.{part_at}
use Rattle.vpg_normal.specs.Placing.{part_of}
use Rattle.vpg_normal.proofs.arena.parts.Given as goal

abbrev pub invariant-loop-place : goal.invariant-loop-place
invariant-loop-place l = record {
  count : length l.parts.items ≡ l.place;
  each : (k : ℕ) → k < l.place → part_at l.parts.items k ≡ part_of l.sizes l.fixpoints l.priorities k (get_or l.symbols k True);
}

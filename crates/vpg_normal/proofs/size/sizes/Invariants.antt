use Rattle.std.proofs.Common.{◌≡◌, length, drop}
use Rattle.vpg_normal.specs.Sizes.{sizes_of}
use Rattle.vpg_normal.proofs.size.sizes.Given as goal

abbrev pub invariant-loop-place : goal.invariant-loop-place
invariant-loop-place l = record {
  count : length l.sizes.items ≡ length l.symbols;
  behind : drop l.place l.sizes.items ≡ sizes_of (drop l.place l.symbols);
}

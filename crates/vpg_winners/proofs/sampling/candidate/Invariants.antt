use Rattle.std.proofs.Common.{◌≡◌, ◌≤◌, length}
use Rattle.vpg_sets.specs.Sets.{IsInside, first_looked}
use Rattle.vpg_winners.proofs.sampling.candidate.Given as goal

abbrev pub invariant-loop-feature : goal.invariant-loop-feature
invariant-loop-feature l = record {
  inside : IsInside l.sets l.left;
  later : l.feature ≤ first_looked l.sets l.left;
  long : length l.product.items ≡ l.feature;
}

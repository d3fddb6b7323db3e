use Rattle.std.proofs.Common.{◌≡◌, ◌≤◌, length, filter, take}
use Rattle.std.specs.Prelude.{nat_le}
use Rattle.vpg_checking.proofs.text.count_upto.Given as goal

abbrev pub invariant-loop-root : goal.invariant-loop-root
invariant-loop-root l = record {
  counted : l.count ≡ length (filter (λ root. nat_le root l.place) (take l.root-index l.places));
  few : l.count ≤ l.root-index;
}

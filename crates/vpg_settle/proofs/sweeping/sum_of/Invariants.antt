use Rattle.std.proofs.Common.{◌≡◌, ◌+◌, sum, drop}
use Rattle.vpg_settle.proofs.sweeping.sum_of.Given as goal

abbrev pub invariant-loop-value : goal.invariant-loop-value
invariant-loop-value l = l.total + sum (drop l.value-index l.value-items) ≡ sum l.table

use Rattle.std.proofs.Common.{◌≡◌, ◌≤◌, ◌++◌, length, take, drop}
use Rattle.vpg_desk.specs.Cuts.{cuts_of}
use Rattle.vpg_desk.specs.Trail.{cuts_in_front_of}
use Rattle.vpg_desk.proofs.spending.up_to.Given as goal

abbrev pub invariant-loop-n : goal.invariant-loop-n
invariant-loop-n l = record {
  in_range : l.n ≤ length l.cuts;
  so_far : cuts_in_front_of l.serial (cuts_of l.cuts) ≡ cuts_of (drop l.n l.cuts) ++ cuts_in_front_of l.serial (cuts_of (take l.n l.cuts));
}

abbrev pub decreases-loop-n : goal.decreases-loop-n
decreases-loop-n l = l.n

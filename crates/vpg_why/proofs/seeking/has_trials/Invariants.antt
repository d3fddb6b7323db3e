use Rattle.std.proofs.Common.{◌≡◌, ◌+◌, ◌≤◌, count_by, take}
use Rattle.vpg_why.specs.Suffices.{is_open, most_trials}
use Rattle.vpg_why.proofs.seeking.has_trials.Given as goal

abbrev pub invariant-loop-f : goal.invariant-loop-f
invariant-loop-f l = record { counted : l.cases ≡ most_trials (count_by is_open (take l.f l.known) + 1); enough : l.cases ≤ l.trials }

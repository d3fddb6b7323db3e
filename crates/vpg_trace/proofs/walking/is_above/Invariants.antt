use Rattle.std.proofs.Common.{◌≡◌, ◌-◌, length}
use Rattle.vpg_trace.specs.Walks.{is_above}
use Rattle.vpg_trace.proofs.walking.is_above.Given as goal

-- what is left to look at decides
abbrev pub invariant-loop : goal.invariant-loop
invariant-loop l = is_above l.visits l.k (length l.visits - l.counter) l.at ≡ is_above l.visits l.k (length l.visits) l.fn.from

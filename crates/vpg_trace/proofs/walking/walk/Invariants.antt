use Rattle.std.proofs.Common.{◌≡◌, ◌-◌, [], reverse}
use Rattle.vpg_trace.specs.Walks.{walk}
use Rattle.vpg_trace.proofs.walking.walk.Given as goal

-- what is left to be made of the whole walk
abbrev pub invariant-loop : goal.invariant-loop
invariant-loop l = walk l.arena l.moves (l.most - l.counter) (reverse l.pending.items) l.visits.items ≡ walk l.arena l.moves l.most (reverse l.fn.pending.items) []

use Rattle.std.proofs.Common.{ℕ, ◌<◌}
use Rattle.vpg_partial.specs.Rules.{Advances, IsDoneAt}
use Rattle.vpg_partial.proofs.propagation.visit_all.Given as goal

-- the rules so far are done
abbrev pub invariant-loop-number : goal.invariant-loop-number
invariant-loop-number l = record {
  advances : Advances l.clauses l.counts l.fn.known l.fn.waiting.items l.known l.waiting.items;
  done : (number : ℕ) → number < l.number → IsDoneAt l.clauses l.counts l.known l.waiting.items number;
}

use Rattle.std.proofs.Common.{ℕ, take, Contains}
use Rattle.vpg_partial.specs.Rules.{Advances, IsDoneAt}
use Rattle.vpg_partial.proofs.propagation.visit_each.Given as goal

-- the rules of the numbers so far are done
abbrev pub invariant-loop-number : goal.invariant-loop-number
invariant-loop-number l = record {
  advances : Advances l.clauses l.counts l.fn.known l.fn.waiting.items l.known l.waiting.items;
  done : (number : ℕ) → Contains (take l.number-index l.numbers) number → IsDoneAt l.clauses l.counts l.known l.waiting.items number;
}

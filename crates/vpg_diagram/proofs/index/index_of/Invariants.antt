use Rattle.std.proofs.Common.{◌≡◌, ◌+◌, length}
use Rattle.vpg_diagram.proofs.IndexLemmas.{IndexedBelow}
use Rattle.vpg_diagram.proofs.index.index_of.Given as goal

-- a row for each feature, and the clauses so far noted
abbrev pub invariant-loop-number : goal.invariant-loop-number
invariant-loop-number l = record {
  rows : length l.index ≡ l.features;
  noted : IndexedBelow l.clauses l.counts l.index l.number;
}

-- the same with all clauses, and the counts so far
abbrev pub invariant-loop-place : goal.invariant-loop-place
invariant-loop-place l = record {
  rows : length l.index ≡ l.features;
  noted : IndexedBelow l.clauses l.counts l.index (length l.clauses + l.place);
}

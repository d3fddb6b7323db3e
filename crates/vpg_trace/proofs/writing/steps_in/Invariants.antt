use Rattle.std.proofs.Common.{◌≡◌, ◌≤◌, ℕ, List}
use Rattle.vpg_trace.specs.Texts.{family_of, steps_in}
use Rattle.vpg_trace.proofs.writing.steps_in.Given as goal

abbrev pub invariant-loop-i : goal.invariant-loop-i
invariant-loop-i l = record {
  few : l.count ≤ l.i;
  counted : (features actions : List (List ℕ)) → l.count ≡ steps_in (family_of features actions l.known l.source.states.items l.source.sets.items l.source.parts.items l.pairs.keys) l.visits l.i;
}

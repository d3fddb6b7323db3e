use Rattle.std.proofs.Common.{◌≡◌, ◌++◌}
use Rattle.vpg_trace.specs.Texts.{family_of, visits_text}
use Rattle.vpg_trace.proofs.writing.put_visits.Given as goal

abbrev pub invariant-loop-i : goal.invariant-loop-i
invariant-loop-i l = l.out.items ≡ l.fn.out.items
    ++ visits_text (family_of l.names l.actions l.known l.source.states.items l.source.sets.items l.source.parts.items l.pairs.keys) l.visits l.i

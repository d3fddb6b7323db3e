use Rattle.std.proofs.Common.{length}
use Rattle.vpg_formula.specs.ReadCode.{texts}
use Rattle.vpg_formula.specs.EntryCode.{words_in, entries_of, Goes}
use Rattle.vpg_formula.specs.FaultCode.{AreReadTo}
use Rattle.vpg_formula.proofs.requirement.several.Given as goal

abbrev pub invariant-loop-next : goal.invariant-loop-next
invariant-loop-next l = record {
  goes : Goes l.items.negated (entries_of l.items.entries.items) (texts l.words) (words_in l.next);
  read : AreReadTo l.items.negated (entries_of l.items.entries.items) (texts l.words) (words_in l.next);
}

abbrev pub decreases-loop-next : goal.decreases-loop-next
decreases-loop-next l = length (words_in l.next)

use Rattle.std.proofs.Common.{◌-◌, ◌≤◌, [], ◌∷◌, ◌++◌, length, map, reverse}
use Rattle.vpg_written.specs.Tasks.{Basis, Fill, AreTerms, entry_form}
use Rattle.vpg_written.specs.declared.task.Item.TheVariants as items
use Rattle.vpg_written.proofs.writing.write.Given as goal

abbrev pub invariant-loop-item : goal.invariant-loop-item
invariant-loop-item l = record {
  short : length l.symbols.items ≤ 65536;
  filled : (g : Basis) → AreTerms g l.terms → Fill g (entry_form g l.entry ∷ []) (map items.Symbol l.symbols.items ++ reverse l.items.items);
}

abbrev pub decreases-loop-item : goal.decreases-loop-item
decreases-loop-item l = 65536 - length l.symbols.items

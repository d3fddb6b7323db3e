use Rattle.std.proofs.Common.{◌≡◌, length}
use Rattle.vpg_formula.specs.ReadCode.{texts}
use Rattle.vpg_formula.specs.EntryCode.{words_in}
use Rattle.vpg_formula.specs.Needs.{way, formula_way}
use Rattle.vpg_formula.specs.NeedsCode.{needs_of}
use Rattle.vpg_formula.proofs.needs.formula_way.Given as goal

abbrev pub invariant-loop-next : goal.invariant-loop-next
invariant-loop-next l = record {
  counted : l.left ≡ length (words_in l.next);
  reads : way l.flag (needs_of l.needs.items) (words_in l.next) ≡ formula_way 64 (texts l.words);
}

abbrev pub decreases-loop-next : goal.decreases-loop-next
decreases-loop-next l = length (words_in l.next)

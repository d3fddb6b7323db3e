use Rattle.std.proofs.Common.{◌≤◌, length, All}
use Rattle.vpg_written.specs.Tasks.{Basis, AreTerms}
use Rattle.vpg_written.specs.Whole.{AreSpelledForms}
use Rattle.vpg_written.proofs.translation.forms.Given as goal

abbrev pub invariant-loop-entry : goal.invariant-loop-entry
invariant-loop-entry l = record {
  spelled : (g : Basis) → AreTerms g l.terms → AreSpelledForms g l.entry l.forms.items;
  short : All (λ ss. length ss ≤ 65536) l.forms.items;
}

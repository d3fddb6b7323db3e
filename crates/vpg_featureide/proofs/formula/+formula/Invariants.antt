use Rattle.std.proofs.Common.{◌≡◌, ◌+◌, ◌*◌, ◌≤◌, [], drop, length, map}
use Rattle.vpg_rules.specs.View.{constraint_of}
use Rattle.vpg_xml.specs.View.{elements_of}
use Rattle.vpg_featureide.specs.Formulas.{operands_with, formula_with}
use Rattle.vpg_featureide.proofs.formula.+formula.Given as goal

abbrev pub decreases-formula : goal.decreases-formula
decreases-formula l = 2 * l.depth

abbrev pub decreases-operands : goal.decreases-operands
decreases-operands l = 2 * l.depth + 1

abbrev pub invariant-operands-loop-j : goal.invariant-operands-loop-j
invariant-operands-loop-j l = record {
  within : l.j-end ≤ length l.elements;
  same : operands_with (formula_with l.depth l.names l.roles (elements_of l.elements)) l.roles l.i 0 [] (elements_of l.elements)
      ≡ operands_with (formula_with l.depth l.names l.roles (elements_of l.elements)) l.roles l.i l.j (map constraint_of l.parts.items) (drop l.j (elements_of l.elements));
}

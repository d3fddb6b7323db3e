use Rattle.std.proofs.Common.{◌≡◌, [], drop, map}
use Rattle.vpg_rules.specs.View.{constraint_of}
use Rattle.vpg_xml.specs.View.{elements_of}
use Rattle.vpg_featureide.specs.Formulas.{rules_with}
use Rattle.vpg_featureide.proofs.formula.rules_in_spans.Given as goal

abbrev pub invariant-loop-i : goal.invariant-loop-i
invariant-loop-i l =
    rules_with l.names l.roles (elements_of l.elements) 0 [] (elements_of l.elements)
    ≡ rules_with l.names l.roles (elements_of l.elements) l.i (map constraint_of l.found.items) (elements_of (drop l.i l.elements))

use Rattle.std.proofs.Common.{sym, subst}
use Rattle.vpg_guards.specs.Formula.{named}
use Rattle.vpg_guards.specs.View.{formula_of}
use Rattle.vpg_diagram.specs.FeatureDiagram.{feature_count}
use Rattle.vpg_warnings.specs.Guards.{AreTriedOf}
use Rattle.vpg_warnings.proofs.Refuted.{tried_below, judged_by}
use Rattle.vpg_warnings.proofs.guards.is_unmet.Goals as goal

pub is_refuted-requires-clause-features : goal.is_refuted-requires-clause-features
is_refuted-requires-clause-features c =
    tried_below (feature_count c.args.diagram.now.lines) (formula_of c.args.guard.now) c.deref.result.now c.requires
    (subst (AreTriedOf (named (formula_of c.args.guard.now))) (sym c.deref.ensures.value) c.in_ok-features.ensures)

pub returns : goal.returns
returns c =
    judged_by c.args.diagram.now.lines (formula_of c.args.guard.now) c.deref.result.now c.is_refuted.result c.features-features.ensures.diagram.diagram
    (subst (AreTriedOf (named (formula_of c.args.guard.now))) (sym c.deref.ensures.value) c.in_ok-features.ensures) c.is_refuted.ensures

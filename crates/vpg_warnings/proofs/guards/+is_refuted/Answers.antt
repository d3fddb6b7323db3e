use Rattle.std.proofs.Common.{true, false, map, ap, ◌∙◌, arith}
use Rattle.vpg_guards.specs.View.{formula_of}
use Rattle.vpg_diagram.specs.FeatureDiagram.{feature_count}
use Rattle.vpg_partial.specs.Known.{literal_of}
use Rattle.vpg_warnings.proofs.Refuted.{found_none, found_closed, found_open, found_by_last, more_choices, rest_below}
use Rattle.vpg_warnings.proofs.guards.+is_refuted.Goals as goal

pub returns-in_default : goal.returns-in_default
returns-in_default t c =
    found_none c.args.diagram.now.lines (formula_of c.args.guard.now) c.args.features.now (map literal_of c.args.decisions.now) c.in_ok-is_closed.is_closed c.in_default.ensures.cases c.in_ok-is_closed.ensures

pub returns-then-is_closed : goal.returns-then-is_closed
returns-then-is_closed t c = found_closed c.args.diagram.now.lines (formula_of c.args.guard.now) c.args.features.now (map literal_of c.args.decisions.now) c.in_ok-is_closed.is_closed c.if-is_closed.true c.in_ok-is_closed.ensures

pub is_refuted-requires : goal.is_refuted-requires
is_refuted-requires t c = (
  omega (arith, c.decreases, c.in-Some.ensures.cases.1),
  (
    more_choices c.args.diagram.now.lines c.in-Some.first.now c.in-Some.rest.now c.args.features.now true (map literal_of c.args.decisions.now) (map literal_of c.deref.result.now)
        c.in-Some.ensures.cases.0 c.requires.features (ap (map literal_of) c.deref.ensures.value ∙ c.in_ok-within.ensures) c.requires.choices,
    (c.requires.guard, rest_below (feature_count c.args.diagram.now.lines) c.in-Some.first.now c.in-Some.rest.now c.args.features.now c.in-Some.ensures.cases.0 c.requires.features),
  ),
)

pub returns-then-not-branch : goal.returns-then-not-branch
returns-then-not-branch t c =
    found_open c.args.diagram.now.lines (formula_of c.args.guard.now) c.in-Some.first.now c.in-Some.rest.now c.args.features.now (map literal_of c.args.decisions.now) (map literal_of c.deref.result.now)
    c.in_ok-is_refuted.field-0 c.in-Some.ensures.cases.0 (ap (map literal_of) c.deref.ensures.value ∙ c.in_ok-within.ensures) c.if-not-branch.true c.in_ok-is_refuted.ensures

pub is_refuted-requires-2 : goal.is_refuted-requires-2
is_refuted-requires-2 t c = (
  omega (arith, c.decreases, c.in-Some.ensures.cases.1),
  (
    more_choices c.args.diagram.now.lines c.in-Some.first.now c.in-Some.rest.now c.args.features.now false (map literal_of c.args.decisions.now) (map literal_of c.deref-2.result.now)
        c.in-Some.ensures.cases.0 c.requires.features (ap (map literal_of) c.deref-2.ensures.value ∙ c.in_ok-without.ensures) c.requires.choices,
    (c.requires.guard, rest_below (feature_count c.args.diagram.now.lines) c.in-Some.first.now c.in-Some.rest.now c.args.features.now c.in-Some.ensures.cases.0 c.requires.features),
  ),
)

pub returns : goal.returns
returns t c =
    found_by_last c.args.diagram.now.lines (formula_of c.args.guard.now) c.in-Some.first.now c.in-Some.rest.now c.args.features.now (map literal_of c.args.decisions.now) (map literal_of c.deref.result.now)
    (map literal_of c.deref-2.result.now) c.in_ok-is_refuted.field-0 c.is_refuted-2.result c.in-Some.ensures.cases.0 (ap (map literal_of) c.deref.ensures.value ∙ c.in_ok-within.ensures)
    (ap (map literal_of) c.deref-2.ensures.value ∙ c.in_ok-without.ensures) c.if-not-branch.false c.in_ok-is_refuted.ensures c.is_refuted-2.ensures

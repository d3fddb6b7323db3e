use Rattle.std.proofs.Common.{◌+◌, false, List, [], ◌∷◌, length, map, take, get_or, refl, sym, ap, ◌∙◌, subst}
use Rattle.std.proofs.lemmas.List.{with_items_is}
use Rattle.vpg_guards.specs.declared.tri.Tri.{Tri}
use Rattle.vpg_partial.specs.Known.{literal_of}
use Rattle.vpg_partial.specs.declared.decision.Decision.{Decision}
use Rattle.vpg_diagram.specs.FeatureDiagram.{feature_count}
use Rattle.vpg_products.specs.Growing.{GrowsWith, AreRefuted}
use Rattle.vpg_products.proofs.Growth.{GrewWith, grew_none, grew_next, refuted_here, decision_below}
use Rattle.vpg_products.proofs.growing.is_refuted.Goals as goal

pub loop-decision-init : goal.loop-decision-init
loop-decision-init c = record {
  same = ap (λ (ts : List Tri). length ts) c.in_ok-more.ensures.items;
  grew = grew_none c.args.diagram.now.lines c.args.known.now c.in_ok-more.more.items c.in_ok-more.ensures.items;
}

pub decide-requires-clause-named : goal.decide-requires-clause-named
decide-requires-clause-named c =
    decision_below c.args.decisions.now (feature_count c.args.diagram.now.lines) c.loop-decision.decision-index (record { serial = 0; session = 0; feature = 0; value = false }) c.loop-decision-test.true c.requires.named

pub returns-then-branch : goal.returns-then-branch
returns-then-branch c = λ t.
    let d : Decision = record { serial = 0; session = 0; feature = 0; value = false } in
    let x : Decision = get_or c.args.decisions.now c.loop-decision.decision-index d in
    refuted_here c.args.diagram.now.lines c.args.decisions.now c.loop-decision.decision-index d x c.args.known.now c.loop-decision.more.items
    c.loop-decision-test.true refl c.loop-decision.invariant.grew
    (subst (λ (ts : List Tri). AreRefuted c.args.diagram.now.lines ts (literal_of x ∷ [])) c.deref_mut.ensures.value (c.in_ok-decide.ensures.refuted c.if-branch.true))

pub loop-decision-preserved : goal.loop-decision-preserved
loop-decision-preserved c =
    let d : Decision = record { serial = 0; session = 0; feature = 0; value = false } in
    let x : Decision = get_or c.args.decisions.now c.loop-decision.decision-index d in
    let e = with_items_is c.loop-decision.more c.decide.new.known (c.in_ok-decide.ensures.length ∙ c.deref_mut.ensures.len) in
    let g = grew_next c.args.diagram.now.lines c.args.decisions.now c.loop-decision.decision-index d x c.args.known.now c.loop-decision.more.items c.decide.new.known
    c.loop-decision-test.true refl c.loop-decision.invariant.grew
    (subst (λ (ts : List Tri). GrowsWith c.args.diagram.now.lines (literal_of x) ts c.decide.new.known) c.deref_mut.ensures.value c.in_ok-decide.ensures.kept) in
    record {
      same = ap (λ (ts : List Tri). length ts) e ∙ c.in_ok-decide.ensures.length ∙ ap (λ (ts : List Tri). length ts) c.deref_mut.ensures.value ∙ c.loop-decision.invariant.same;
      grew = subst (λ (ts : List Tri). GrewWith c.args.diagram.now.lines (map literal_of (take (c.loop-decision.decision-index + 1) c.args.decisions.now)) c.args.known.now ts) (sym e) g;
    }

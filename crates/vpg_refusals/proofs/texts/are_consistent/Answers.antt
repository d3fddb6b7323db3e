use Rattle.std.proofs.Common.{◌≡◌, true, false, List, map, sym, subst, ◌∙◌}
use Rattle.vpg_guards.specs.declared.tri.Tri.{Tri}
use Rattle.vpg_diagram.specs.declared.clause.Literal.{Literal}
use Rattle.vpg_diagram.specs.FeatureDiagram.{Line}
use Rattle.vpg_diagram.specs.Clauses.{feature_in}
use Rattle.vpg_partial.specs.declared.decision.Decision.{Decision}
use Rattle.vpg_partial.specs.Known.{literal_of}
use Rattle.vpg_partial.specs.KnownLaws.{HasConflictOf}
use Rattle.vpg_partial.specs.TableLaws.{IsKnownTable}
use Rattle.vpg_partial.proofs.ClauseSteps.{not_both_in}
use Rattle.vpg_refusals.proofs.texts.are_consistent.Goals as goal

-- a table of what is known shows that there is no conflict
consistent : (lines : List Line) (choices : List Literal) (known : List Tri) → IsKnownTable lines choices known → HasConflictOf lines choices → ⊥
consistent lines choices known t (f, i, o) =
    clash (sym (t.all_known (feature_in f) i) ∙ not_both_in known (feature_in f) (t.all_known _ o))
  where
    clash : true ≡ false → ⊥
    clash e = cc

pub returns : goal.returns
returns c = subst (λ (decisions : List Decision). HasConflictOf c.args.diagram.now.lines (map literal_of decisions) → ⊥) c.as_slice.ensures
    (consistent c.args.diagram.now.lines (map literal_of c.as_slice.result.now) _ c.in_ok-close.ensures.known)

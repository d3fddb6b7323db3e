use Rattle.std.proofs.Common.{◌≡◌, ℕ, List, refl, sym, ◌∙◌, subst, arith}
use Rattle.std.proofs.lemmas.Grind.{common_steps}
use Rattle.std.specs.List.{AllByRecursion}
use Rattle.vpg_diagram.specs.declared.clause.Literal.{Literal}
use Rattle.vpg_diagram.specs.Clauses.{clauses_of, IsClauseBelow}
use Rattle.vpg_diagram.specs.FeatureDiagram.{feature_count}
use Rattle.vpg_diagram.specs.LineView.{lines_of}
use Rattle.vpg_diagram.proofs.BoundLemmas.{clauses_over_features, counts_over_features}
use Rattle.vpg_diagram.proofs.diagram.Diagram.of.Goals as goal

pub index_of-requires-clause-clauses : goal.index_of-requires-clause-clauses
index_of-requires-clause-clauses c =
    let lines = lines_of c.args.lines.items in
    let made : c.in_ok-clauses.clauses.items ≡ clauses_of lines = rw c.deref.ensures.value at c.in_ok-clauses.ensures in
    subst (λ (n : ℕ). AllByRecursion (IsClauseBelow n) c.deref-3.result.now) (sym (c.len.ensures.len ∙ c.requires.each_named))
    (subst (λ (cs : List (List Literal)). AllByRecursion (IsClauseBelow (feature_count lines)) cs) (sym (c.deref-3.ensures.value ∙ made)) (clauses_over_features lines c.requires.diagram))

pub index_of-requires-clause-counts : goal.index_of-requires-clause-counts
index_of-requires-clause-counts c =
    rw (c.deref-4.ensures.value, c.in_ok-counts.ensures, c.deref-2.ensures.value, c.len.ensures.len, c.requires.each_named) (counts_over_features (lines_of c.args.lines.items) c.requires.diagram)

pub invariant_of-result : goal.invariant_of-result
invariant_of-result c = record {
  named = c.requires;
  clauses_are = rw (c.in_ok-clauses.ensures, c.deref.ensures.value) refl;
  counts_are = rw (c.in_ok-counts.ensures, c.deref-2.ensures.value) refl;
  indexed = rw (← c.deref-3.ensures.value, ← c.deref-4.ensures.value) c.in_ok-index.ensures;
}

pub returns : goal.returns
returns c = grind (arith, common_steps)

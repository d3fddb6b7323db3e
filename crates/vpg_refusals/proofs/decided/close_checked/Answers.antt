use Rattle.std.proofs.Common.{◌≡◌, ℕ, ◌<◌, List, map, All, subst}
use Rattle.std.specs.List.{AllByRecursion}
use Rattle.std.proofs.lemmas.List.Elements.{recursion_from_All}
use Rattle.vpg_diagram.specs.FeatureDiagram.{Line, feature_count}
use Rattle.vpg_diagram.specs.declared.clause.Literal.{Literal}
use Rattle.vpg_diagram.proofs.Lists.{All-map}
use Rattle.vpg_partial.specs.Known.{literal_of}
use Rattle.vpg_partial.specs.TableLaws.{AreChoicesOf}
use Rattle.vpg_partial.specs.declared.decision.Decision.{Decision}
use Rattle.vpg_refusals.proofs.decided.close_checked.Goals as goal

choices_below : (lines : List Line) (decisions : List Decision) (n : ℕ) → n ≡ feature_count lines → All (λ d. d.feature < n) decisions → AreChoicesOf lines (map literal_of decisions)
choices_below lines decisions n e below =
    subst (λ (m : ℕ). AllByRecursion (λ (l : Literal). l.feature < m) (map literal_of decisions)) e
    (All-map (λ (l : Literal). l.feature < n) literal_of decisions (recursion_from_All (λ (d : Decision). d.feature < n) decisions below))

pub close-requires : goal.close-requires
close-requires c =
    choices_below c.args.diagram.now.lines c.args.decisions.now c.features.result c.features.ensures.count (c.are_below.ensures.0 c.if-not-are_below.false)

-- Decisions of features of a diagram.
use Rattle.std.proofs.Common.{zero, suc, ◌<◌, List, [], ◌∷◌, map, All, arith}
use Rattle.std.proofs.lemmas.List.Elements.{recursion_from_All}
use Rattle.vpg_diagram.specs.FeatureDiagram.{Line, feature_count}
use Rattle.vpg_diagram.specs.declared.clause.Literal.{Literal}
use Rattle.vpg_diagram.proofs.Lists.{All-map}
use Rattle.vpg_partial.specs.Known.{literal_of}
use Rattle.vpg_partial.specs.TableLaws.{AreChoicesOf}
use Rattle.vpg_partial.specs.declared.decision.Decision.{Decision}

pub choices_below : (lines : List Line) (decisions : List Decision) → All (λ d. d.feature < feature_count lines) decisions
    → AreChoicesOf lines (map literal_of decisions)
choices_below lines decisions below =
    All-map (λ (l : Literal). l.feature < feature_count lines) literal_of decisions
    (recursion_from_All (λ (d : Decision). d.feature < feature_count lines) decisions below)

pub below_choices : (lines : List Line) (decisions : List Decision) → AreChoicesOf lines (map literal_of decisions) → All (λ d. d.feature < feature_count lines) decisions
below_choices lines [] named k d l = absurd (omega (arith, l))
below_choices lines (x ∷ decisions) named zero d l = named.0
below_choices lines (x ∷ decisions) named (suc k) d l = below_choices lines decisions named.1 k d (omega (arith, l))

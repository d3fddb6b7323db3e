-- Decisions with one more behind them.
use Rattle.std.proofs.Common.{◌≡◌, ◌<◌, List, [], ◌∷◌, ◌++◌, sym, ap, ◌∙◌, subst}
use Rattle.std.proofs.lemmas.List.{map-append}
use Rattle.std.proofs.lemmas.List.Elements.{Contains-append_left}
use Rattle.vpg_diagram.specs.FeatureDiagram.{Line, feature_count}
use Rattle.vpg_diagram.specs.declared.clause.Literal.{Literal}
use Rattle.vpg_diagram.proofs.Lists.{All-append}
use Rattle.vpg_partial.specs.Known.{literal_of}
use Rattle.vpg_partial.specs.TableLaws.{AreAmong, AreChoicesOf}
use Rattle.vpg_partial.specs.declared.decision.Decision.{Decision}
use Rattle.vpg_why.specs.Explained.{choices}

-- one more decision names a feature too, and those before are still there
pub one_more : (lines : List Line) (few : List Literal) (old new : List Decision) (x : Decision) → new ≡ old ++ x ∷ [] → x.feature < feature_count lines →
    AreChoicesOf lines (choices old) × AreAmong few (choices old) → AreChoicesOf lines (choices new) × AreAmong few (choices new)
one_more lines few old new x step less so = (subst (λ (cs : List Literal). AreChoicesOf lines cs) (sym all) named, subst (λ (cs : List Literal). AreAmong few cs) (sym all) among)
  where
    all : choices new ≡ choices old ++ literal_of x ∷ []
    all = ap (λ (ds : List Decision). choices ds) step ∙ map-append literal_of old (x ∷ [])

    named : AreChoicesOf lines (choices old ++ literal_of x ∷ [])
    named = All-append (λ c. c.feature < feature_count lines) (choices old) (literal_of x ∷ []) so.0 (less, tt)

    among : AreAmong few (choices old ++ literal_of x ∷ [])
    among c h = Contains-append_left (choices old) (literal_of x ∷ []) c (so.1 c h)

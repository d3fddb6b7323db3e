-- What rules add to what is known of features: no product is lost by it. This project's own.
use Rattle.std.specs.Prelude.{◌≡◌, Bool, true, false, List, length}
use Rattle.vpg_guards.specs.declared.tri.Tri.{Tri}
use Rattle.vpg_guards.specs.declared.tri.Tri.TheVariants.{No, Yes}
use Rattle.vpg_guards.specs.Known.{IsCompletion, IsFiner}
use Rattle.vpg_diagram.specs.FeatureDiagram.{Line, IsProduct, feature_count}
use Rattle.vpg_diagram.specs.Clauses.{IsTrueIn}
use Rattle.vpg_diagram.specs.declared.clause.Literal.{Literal}
use Rattle.vpg_partial.specs.Known.{AgreesWithChoices}
use Rattle.vpg_partial.specs.KnownLaws.{IsRemaining}

-- Each product that agrees with what is known first agrees with what is known then. What was known stays known.
pub record GrowsBy (lines : List Line) (old new : List Tri) : Type 0 where
  pub same_length : length new ≡ length old
  pub finer : IsFiner old new
  pub kept : (set : List Bool) → IsProduct lines set → IsCompletion old set → IsCompletion new set

-- no product agrees with what is known
abbrev pub LeavesNone : List Line → List Tri → Type 0
LeavesNone lines known = (set : List Bool) → IsProduct lines set → IsCompletion known set → ⊥

-- no product agrees both with what is known and with the choices
abbrev pub AreRefuted : List Line → List Tri → List Literal → Type 0
AreRefuted lines known choices =
    (set : List Bool) → IsProduct lines set → IsCompletion known set → AgreesWithChoices set choices → ⊥

-- there is a value for each feature, and each product that agrees with the choices agrees with what is known
pub record AreShown (lines : List Line) (choices : List Literal) (known : List Tri) : Type 0 where
  pub length_is : length known ≡ feature_count lines
  pub agree : (set : List Bool) → IsRemaining lines choices set → IsCompletion known set

-- the value for a choice
abbrev pub tri_of : Bool → Tri
tri_of true = Yes
tri_of false = No

-- each product that has the literal, and agrees with what is known first, agrees with what is known then
abbrev pub GrowsWith : List Line → Literal → (old new : List Tri) → Type 0
GrowsWith lines l old new =
    (set : List Bool) → IsProduct lines set → IsTrueIn set l → IsCompletion old set → IsCompletion new set

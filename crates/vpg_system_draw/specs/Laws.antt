-- Statements of the laws. This project's own.
use Rattle.std.specs.Prelude.{◌≡◌, Bool, true, false, List}
use Rattle.vpg_guards.specs.declared.tri.Tri.{Tri}
use Rattle.vpg_guards.specs.declared.tri.Tri.TheVariants.{No, Yes}
use Rattle.vpg_guards.specs.Formula.{truth}
use Rattle.vpg_diagram.specs.FeatureDiagram.{Line, IsDiagram}
use Rattle.vpg_diagram.specs.declared.clause.Literal.{Literal}
use Rattle.vpg_partial.specs.KnownLaws.{IsRemaining}
use Rattle.vpg_partial.specs.TableLaws.{IsKnownTable}
use Rattle.vpg_system.specs.SystemText.{Transition}
use Rattle.vpg_system_draw.specs.Arrows.{looks}
use Rattle.vpg_system_draw.specs.declared.arrows.Look.{Look}

-- the meaning of an arrow for the guard of a transition on it, in a product: true if it is solid, false if it is dotted
pub record IsSaid (value : Tri) (holds : Bool) : Type 0 where
  pub solid : value ≡ Yes → holds ≡ true
  pub dotted : value ≡ No → holds ≡ false

-- Each product left has the transitions on solid arrows, and none has those on dotted ones.
abbrev pub ArrowsTellOfProducts : Type 0
ArrowsTellOfProducts =
    (lines : List Line) (choices : List Literal) (known : List Tri) (set : List Bool) (look : Look) (t : Transition)
    (is_marked : Bool) → IsDiagram lines → IsKnownTable lines choices known → IsRemaining lines choices set →
    looks known look t is_marked ≡ true → IsSaid look.value (truth set t.guard)

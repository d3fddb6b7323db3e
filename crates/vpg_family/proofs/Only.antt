-- What the texts of a family alone spell.
use Rattle.std.proofs.Common.{◌≡◌, Result, Ok, Err, IfOk, ◌∙◌, ap}
use Rattle.std.specs.Prelude.{OnErr, MatchResult}
use Rattle.std.specs.Arc.{arc_value}
use Rattle.vpg_diagram.specs.DiagramText.{NamedDiagram}
use Rattle.vpg_game.specs.Game.{NamedGame}
use Rattle.vpg_family.specs.declared.family.Family.{Family}
use Rattle.vpg_family.specs.declared.fault.Fault.{Fault}
use Rattle.vpg_family.specs.declared.fault.Fault.TheVariants as told

-- the fault of a result that failed
abbrev fault_in : Result Family Fault → Fault
fault_in (Ok f) = told.Memory
fault_in (Err e) = e

-- a game and a diagram, where they are these
pub only_of : (r : Result Family Fault) (diagram d : NamedDiagram) (game g : NamedGame) → diagram ≡ d → game ≡ g → IfOk r (λ family. (arc_value family.game ≡ game) × (arc_value family.diagram ≡ diagram))
    → OnErr r (r ≡ Err told.Memory) → MatchResult r (λ family. (arc_value family.diagram ≡ d) × (arc_value family.game ≡ g)) (λ fault. fault ≡ told.Memory)
only_of (Ok f) diagram d game g a b (x, y) n = (y ∙ a, x ∙ b)
only_of (Err e) diagram d game g a b h n = ap fault_in n

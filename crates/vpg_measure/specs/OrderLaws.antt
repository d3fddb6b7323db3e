-- Laws of orders, as statements.
use Rattle.std.specs.Prelude.{◌≡◌, ℕ, List, length, replicate}
use Rattle.vpg_diagram.specs.DiagramText.{NamedDiagram}
use Rattle.vpg_game.specs.Game.{NamedGame}
use Rattle.vpg_partial.specs.declared.decision.Decision.{Decision}
use Rattle.vpg_sides.specs.declared.which.Which.{Which}
use Rattle.vpg_measure.specs.Orders.{IsOpeningTable}

-- a table of zeros, one for each vertex, may stand in an order
abbrev pub ZerosAreOpening : Type 0
ZerosAreOpening =
    (game : NamedGame) (diagram : NamedDiagram) (decisions : List Decision) (which : Which) (n : ℕ) →
    n ≡ length game.vertices →
    IsOpeningTable game diagram decisions which (replicate n 0)

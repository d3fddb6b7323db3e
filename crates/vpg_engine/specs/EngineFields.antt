-- An engine by its fields.
use Rattle.std.specs.Prelude.{◌≡◌, ℕ, List, length, map, Option, option_map, IfSome, true}
use Rattle.std.specs.List.{AllByRecursion}
use Rattle.vpg_diagram.specs.DiagramText.{NamedDiagram}
use Rattle.vpg_diagram.specs.FeatureDiagram.{feature_count}
use Rattle.vpg_game.specs.Game.{NamedGame}
use Rattle.vpg_partial.specs.Known.{literal_of}
use Rattle.vpg_partial.specs.TableLaws.{AreChoicesOf}
use Rattle.vpg_sides.specs.declared.verdict.Verdict.{Verdict}
use Rattle.vpg_measure.specs.Orders.{HarvestView}
use Rattle.vpg_desk.specs.Book.{Harvest}
use Rattle.vpg_desk.specs.Commit.{handed_in}
use Rattle.vpg_desk.specs.State.{DeskState}
use Rattle.vpg_office.specs.Token.{TokenView as Token}
use Rattle.vpg_engine.specs.Client.{ClientState}
use Rattle.vpg_engine.specs.Answers.{room}
use Rattle.vpg_engine.specs.Engine.{EngineState}
use Rattle.vpg_engine.specs.Serials.{serials}

-- the kept harvests as the book sees them
abbrev pub harvests_of : List (Option HarvestView) → List (Option Harvest)
harvests_of harvests = map (λ h. option_map (handed_in true) h) harvests

abbrev pub engine_in : ClientState → List Token → List Token → List (Option HarvestView) → List Verdict → EngineState
engine_in client undos redos harvests seen =
    record {
      client = client;
      held = record { undos = serials undos; redos = serials redos; harvests = harvests_of harvests; seen = seen };
    }

-- a harvest of this game and this diagram: its order has both, and decides features of the diagram, each of which has
-- a name
pub record IsOwnHarvest (of_game : NamedGame) (of_diagram : NamedDiagram) (harvest : HarvestView) : Type 0 where
  pub game : harvest.order.game ≡ of_game
  pub diagram : harvest.order.diagram ≡ of_diagram
  pub named : AreChoicesOf of_diagram.lines (map literal_of harvest.order.decisions)
  pub each_named : length of_diagram.names ≡ feature_count of_diagram.lines

abbrev pub AreOwnHarvests : NamedGame → NamedDiagram → List (Option HarvestView) → Type 0
AreOwnHarvests game diagram harvests = AllByRecursion (λ h. IfSome h (IsOwnHarvest game diagram)) harvests

-- the invariant of every engine
pub record IsEngine (limit : ℕ) (of_game : NamedGame) (of_diagram : NamedDiagram) (desk : DeskState)
    (kept : List (Option HarvestView)) : Type 0 where
  pub room_is : limit ≡ room
  -- its game and its diagram are those of the office's desk, and have as many features
  pub game : of_game ≡ desk.game
  pub diagram : of_diagram ≡ desk.diagram
  pub features : of_game.features ≡ feature_count of_diagram.lines
  pub harvests : AreOwnHarvests of_game of_diagram kept

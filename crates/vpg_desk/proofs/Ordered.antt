-- What an order of a desk stands on.
use Rattle.std.proofs.Common.{◌≡◌, ℕ, List, length, map, sym, ◌∙◌, ap}
use Rattle.std.specs.Arc.{arc_value}
use Rattle.vpg_diagram.specs.DiagramText.{NamedDiagram}
use Rattle.vpg_game.specs.Game.{NamedGame, graph_of}
use Rattle.vpg_guards.specs.Formula.{Formula}
use Rattle.vpg_guards.specs.Known.{kleene}
use Rattle.vpg_guards.specs.declared.tri.Tri.{Tri}
use Rattle.vpg_measure.proofs.TwoGames.{progress_earlier}
use Rattle.vpg_measure.specs.Lifts.{IsProgressTable}
use Rattle.vpg_measure.specs.Orders.{OrderView, IsOrder, IsSettledOrder, order_table}
use Rattle.vpg_measure.specs.TwoGames.{levels_for, arena_for, IsProgressOf, IsTableBelow}
use Rattle.vpg_partial.specs.TableLaws.{AreChoicesOf, IsKnownTable}
use Rattle.vpg_trail.specs.Page.{Which, Hopeful, Dual, Literal, literal_of, choices_of, table_of}
use Rattle.vpg_desk.specs.Book.{IsSettledPage}
use Rattle.vpg_desk.specs.Desk.{family_of, IsProgressUnder}
use Rattle.vpg_desk.specs.DeskFields.{setting_in, IsDesk}
use Rattle.vpg_desk.specs.declared.desk.Desk.TheInside.{Inside}
use Rattle.vpg_desk.proofs.Answering.{tells}
use Rattle.vpg_desk.proofs.Deciding.{choices_inside}
use Rattle.vpg_desk.proofs.Sound.{sound_of}

module _ (d : Inside) (i : IsDesk d) (game : NamedGame) (diagram : NamedDiagram) (choices : List Literal) (game_is : game ≡ arc_value d.game) (diagram_is : diagram ≡ arc_value d.diagram) (choices_are : choices ≡ choices_of d.trail.entries) where
  pub named_told : AreChoicesOf diagram.lines choices
  named_told = coe 0 1 (k. AreChoicesOf (sym diagram_is k).lines (sym choices_are k)) (choices_inside (setting_in d) (choices_of d.trail.entries) (tells d i).consistent)

  pub opening_told : (which : Which) (table : List ℕ) → table ≡ table_of which d.trail.entries d.trail.vertices → (known : List Tri) → IsKnownTable diagram.lines choices known → IsTableBelow (kleene known) which (graph_of game) table
  opening_told which table e known t =
      coe 0 1 (k. IsTableBelow (kleene known) which (graph_of (sym game_is k)) (sym (e ∙ ap (table_of which d.trail.entries) i.vertices) k))
      ((tells d i).tables known (coe 0 1 (k. IsKnownTable (diagram_is k).lines (choices_are k) known) t) which)

-- the order of a settled page is settled
module _ (d : Inside) (i : IsDesk d) (order : OrderView) (is_order : IsOrder order) (game_is : order.game ≡ arc_value d.game) (diagram_is : order.diagram ≡ arc_value d.diagram) (choices_are : map literal_of order.decisions ≡ choices_of d.trail.entries)
    (hopeful_is : order.hopeful ≡ table_of Hopeful d.trail.entries d.trail.vertices) (dual_is : order.dual ≡ table_of Dual d.trail.entries d.trail.vertices) where
  order_tables : (which : Which) → order_table which order ≡ table_of which d.trail.entries d.trail.vertices
  order_tables Hopeful = hopeful_is
  order_tables Dual = dual_is

  pub order_settled : IsSettledPage (family_of (setting_in d)) d.trail.entries → IsSettledOrder order
  order_settled settled which =
      coe 0 1 (k. IsProgressTable (levels_for which (graph_of (sym game_is k))) (arena_for (kleene order.known) which (graph_of (sym game_is k))) (sym table_is k)) there.settled
    where
      page : IsProgressUnder (setting_in d) (choices_of d.trail.entries) which (table_of which d.trail.entries (length (graph_of (arc_value d.game))))
      page = settled which

      known : IsKnownTable (arc_value d.diagram).lines (choices_of d.trail.entries) order.known
      known = coe 0 1 (k. IsKnownTable (diagram_is k).lines (choices_are k) order.known) is_order.known

      there : IsProgressOf (kleene order.known) which (graph_of (arc_value d.game)) (table_of which d.trail.entries (length (graph_of (arc_value d.game))))
      there = progress_earlier Formula (kleene page.0) (kleene order.known) (graph_of (arc_value d.game)) which _
          ((sound_of (setting_in d) i.opened.is_setting).grows (choices_of d.trail.entries) (choices_of d.trail.entries) order.known page.0 (λ c s. s) known page.1.0) page.1.1

      table_is : order_table which order ≡ table_of which d.trail.entries (length (graph_of (arc_value d.game)))
      table_is = order_tables which ∙ ap (table_of which d.trail.entries) i.vertices

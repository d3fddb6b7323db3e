-- A harvest that one lift made, as the book sees it.
use Rattle.std.proofs.Common.{◌≡◌, ℕ, ◌+◌, ◌<◌, true, List, Some, length, refl, sym, ap, ◌∙◌, subst}
use Rattle.std.specs.Prelude.{map}
use Rattle.vpg_guards.specs.Formula.{Formula}
use Rattle.vpg_guards.specs.Known.{kleene}
use Rattle.vpg_game.specs.Game.{graph_of}
use Rattle.vpg_partial.specs.Known.{literal_of}
use Rattle.vpg_partial.specs.TableLaws.{IsKnownTable}
use Rattle.vpg_sides.specs.declared.which.Which.{Which}
use Rattle.vpg_sides.specs.declared.which.Which.TheVariants.{Hopeful, Dual}
use Rattle.vpg_measure.specs.Lifts.{raised}
use Rattle.vpg_measure.specs.Orders.{OrderView, HarvestView, IsOrder, IsSameOrder, order_table, harvest_table, order_levels, order_arena, other_table}
use Rattle.vpg_measure.specs.TwoGames.{IsTableBelow}
use Rattle.vpg_measure.proofs.OrderLemmas.{IsLawfulTable, own_lawful, raised_lawful}
use Rattle.vpg_measure.proofs.TwoGames.{arena_length}
use Rattle.vpg_desk.specs.Book.{Order, Ordered, Commit}
use Rattle.vpg_desk.specs.Commit.{IsOrderOf, handed_in}
use Rattle.vpg_desk.specs.Desk.{family_of}
use Rattle.vpg_desk.specs.Lawful.{harvested}
use Rattle.vpg_desk.specs.State.{DeskState, setting_between, setting_of}
use Rattle.vpg_script.specs.declared.tone.Tone.{Tone}
use Rattle.vpg_engine.specs.Client.{ClientState, IsLogged}
use Rattle.vpg_desk.proofs.Lawful.{harvests_are_lawful}
use Rattle.vpg_script.specs.Script as script
use Rattle.vpg_texts.specs.Scene.{table_in}
use Rattle.vpg_engine.specs.Answers.{IsOf, IsLifted, Asks, TellsAdded, room, vertex_of}
use Rattle.vpg_engine.specs.Engine.{EngineState, scene_at, AnswersTo}
use Rattle.vpg_engine.proofs.Asked.{Goes, lifts}
use Rattle.vpg_engine.proofs.Settling.{order_setting}

-- the harvest's tables are those that the book sees
seen : (harvest : HarvestView) (which : Which) → harvested (handed_in true harvest) which ≡ harvest_table which harvest
seen harvest Hopeful = refl
seen harvest Dual = refl

ordered_table : (order : OrderView) (which : Which) → table_in order.hopeful order.dual which ≡ order_table which order
ordered_table order Hopeful = refl
ordered_table order Dual = refl

module _ (order : OrderView) (harvest : HarvestView) (is_order : IsOrder order) (same : IsSameOrder harvest.order order) (table : Which) (v : ℕ) (less : v < length order.game.vertices)
    (made : harvest_table table harvest ≡ raised (order_levels table order) (order_arena table order) (order_table table order) v)
    (other : harvest_table (other_table table) harvest ≡ order_table (other_table table) order) where
  -- both its tables are on or above the order's, and below every progress table
  lawful_in : (which lifted : Which) → harvest_table lifted harvest ≡ raised (order_levels lifted order) (order_arena lifted order) (order_table lifted order) v →
      harvest_table (other_table lifted) harvest ≡ order_table (other_table lifted) order → IsLawfulTable which order (harvest_table which harvest)
  lawful_in Hopeful Hopeful made other = subst (λ (t : List ℕ). IsLawfulTable Hopeful order t) (sym made) (raised_lawful order is_order Hopeful v less)
  lawful_in Hopeful Dual made other = subst (λ (t : List ℕ). IsLawfulTable Hopeful order t) (sym other) (own_lawful order is_order Hopeful)
  lawful_in Dual Hopeful made other = subst (λ (t : List ℕ). IsLawfulTable Dual order t) (sym other) (own_lawful order is_order Dual)
  lawful_in Dual Dual made other = subst (λ (t : List ℕ). IsLawfulTable Dual order t) (sym made) (raised_lawful order is_order Dual v less)

  lawful : (which : Which) → IsLawfulTable which order (harvest_table which harvest)
  lawful which = lawful_in which table made other

  below : (which : Which) → IsTableBelow (kleene order.known) which (graph_of order.game) (harvested (handed_in true harvest) which)
  below which = subst (λ (t : List ℕ). IsTableBelow (kleene order.known) which (graph_of order.game) t) (sym (seen harvest which)) (lawful which).below

  known_made : IsKnownTable order.diagram.lines (map literal_of harvest.order.decisions) order.known
  known_made = subst (λ ds. IsKnownTable order.diagram.lines (map literal_of ds) order.known) (sym same.decisions) is_order.known

  within : (which : Which) (w : ℕ) → w < length (graph_of order.game) → w < length (order_table which order)
  within which w l =
      subst (λ (n : ℕ). w < n) (sym ((is_order.below which).is_table.len ∙ arena_length Formula (kleene order.known) which (graph_of order.game))) l

  of_order : IsOf (family_of (setting_between order.game order.diagram)) order.decisions order.hopeful order.dual (handed_in true harvest)
  of_order = record {
    of_this_desk = refl;
    same_decisions = same.decisions;
    lawful = harvests_are_lawful (setting_between order.game order.diagram) (handed_in true harvest) order.known (order_setting order is_order) known_made below;
    hopeful_len = (below Hopeful).is_table.len ∙ arena_length Formula (kleene order.known) Hopeful (graph_of order.game);
    dual_len = (below Dual).is_table.len ∙ arena_length Formula (kleene order.known) Dual (graph_of order.game);
    hopeful_above = λ w l. (lawful Hopeful).above.1 w (within Hopeful w l);
    dual_above = λ w l. (lawful Dual).above.1 w (within Dual w l);
  }

  lifted_in : IsLifted (setting_between order.game order.diagram) table v order.decisions order.hopeful order.dual (handed_in true harvest)
  lifted_in = record {
    of_order = of_order;
    known = order.known;
    known_is = is_order.known;
    lifted = seen harvest table ∙ made ∙ ap (λ (t : List ℕ). raised (order_levels table order) (order_arena table order) t v) (sym (ordered_table order table));
    other_stays = seen harvest (other_table table) ∙ other ∙ sym (ordered_table order (other_table table));
  }

  lifted : (desk : DeskState) → order.game ≡ desk.game → order.diagram ≡ desk.diagram →
      IsLifted (setting_of desk) table v order.decisions order.hopeful order.dual (handed_in true harvest)
  lifted desk game diagram =
      coe 0 1 (i. IsLifted (setting_between (game i) (diagram i)) table v order.decisions order.hopeful order.dual (handed_in true harvest)) lifted_in

  -- an order of the desk is lifted once, and its harvest is handed in
  pub lift_answers : {tone : Tone} (limit : ℕ) → limit ≡ room → (session : ℕ) (old new : EngineState) (first : ClientState) (named : script.Vertex) (before after : List ℕ) → vertex_of (scene_at old) named ≡ Some v →
      IsLogged limit old.client session Order (Ordered order.decisions order.hopeful order.dual) first → IsOrderOf old.client.desk order →
      Goes first (Asks (scene_at old) old.held (old.client.calls + 1) session (Commit (handed_in true harvest)) (TellsAdded old.held)) tone before after new →
      AnswersTo old (record { label = session; command = script.Lift table named }) tone before after new
  lift_answers limit limit_is session old new first named before after vertex ordered ours goes =
      lifts limit limit_is session old new first order.decisions order.hopeful order.dual (handed_in true harvest) before after ordered table named v vertex (lifted old.client.desk ours.0 ours.1) goes

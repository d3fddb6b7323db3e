-- A harvest that sweeps made, as the book sees it.
use Rattle.std.proofs.Common.{◌≡◌, ℕ, ◌+◌, ◌<◌, ◌≤◌, List, [], Option, Some, None, length, refl, sym, ap, ◌∙◌, arith, subst, true}
use Rattle.std.specs.Prelude.{codes, unwrap_or, map}
use Rattle.vpg_guards.specs.Known.{kleene}
use Rattle.vpg_game.specs.Game.{NamedGame, graph_of}
use Rattle.vpg_diagram.specs.DiagramText.{NamedDiagram}
use Rattle.vpg_partial.specs.Known.{literal_of}
use Rattle.vpg_partial.specs.TableLaws.{IsKnownTable}
use Rattle.vpg_partial.proofs.Tables.{conflicts_stay}
use Rattle.vpg_sides.specs.declared.which.Which.{Which}
use Rattle.vpg_sides.specs.declared.which.Which.TheVariants.{Hopeful, Dual}
use Rattle.vpg_measure.specs.Lifts.{IsBelowTable}
use Rattle.vpg_measure.specs.Orders.{OrderView, HarvestView, IsOrder, IsSettledHarvest, order_table, harvest_table}
use Rattle.vpg_measure.specs.TwoGames.{IsTableBelow}
use Rattle.vpg_measure.proofs.TwoGames.{arena_length}
use Rattle.vpg_guards.specs.Formula.{Formula}
use Rattle.vpg_desk.specs.Book.{Family, Harvest, Order, Ordered, Commit}
use Rattle.vpg_desk.specs.Setting.{IsSetting}
use Rattle.vpg_desk.specs.Desk.{family_of}
use Rattle.vpg_desk.specs.Lawful.{harvested}
use Rattle.vpg_desk.proofs.Lawful.{harvests_are_lawful}
use Rattle.vpg_desk.proofs.Deciding.{setting_stands, known_is_consistent}
use Rattle.vpg_desk.specs.State.{DeskState, setting_between, setting_of}
use Rattle.vpg_script.specs.Script as script
use Rattle.vpg_script.specs.Answer.{IsGiven, done}
use Rattle.vpg_script.specs.declared.tone.Tone.{Tone}
use Rattle.vpg_engine.specs.Held.{with_harvest}
use Rattle.vpg_engine.specs.Engine.{EngineState, SweepsTo, scene_at}
use Rattle.vpg_engine.specs.Made.{IsMadeBy}
use Rattle.vpg_engine.proofs.Asked.{Goes, settles, keeps}
use Rattle.vpg_desk.specs.Commit.{IsOrderOf, handed_in}
use Rattle.vpg_engine.specs.Client.{ClientState, IsLogged}
use Rattle.vpg_engine.specs.Answers.{IsSwept, Checks, Asks, AsksSettled, most_sweeps, room, sweeps_of, numbered}
use Rattle.vpg_settle.specs.Sweeping.{IsSweptOrder, Settles}
use Rattle.vpg_settle.proofs.Repeated.{progress_moves}

-- an order's game and diagram are a setting
pub order_setting : (order : OrderView) → IsOrder order → IsSetting (setting_between order.game order.diagram)
order_setting order is_order =
    setting_stands order.game order.diagram is_order.game is_order.diagram is_order.features
    (λ conflict. known_is_consistent order.diagram.lines (map literal_of order.decisions) order.known is_order.known
    (conflicts_stay order.diagram.lines [] (map literal_of order.decisions) (λ l within. absurd (omega (arith, within.1))) conflict))

module _ (order : OrderView) (harvest : HarvestView) (sweeps : ℕ) (is_order : IsOrder order) (swept_order : IsSweptOrder order sweeps harvest) where
  -- the harvest as the book sees it
  abbrev made : Harvest
  made = handed_in true harvest

  above : (which : Which) → IsBelowTable (order_table which order) (harvested made which)
  above Hopeful = swept_order.above Hopeful
  above Dual = swept_order.above Dual

  moves_to : (which : Which) (table : List ℕ) → IsTableBelow (kleene harvest.order.known) which (graph_of harvest.order.game) table → IsTableBelow (kleene order.known) which (graph_of order.game) table
  moves_to which table is = coe 0 1 (i. IsTableBelow (kleene (swept_order.page.known i)) which (graph_of (swept_order.page.game i)) table) is

  below : (which : Which) → IsTableBelow (kleene order.known) which (graph_of order.game) (harvested made which)
  below Hopeful = moves_to Hopeful harvest.hopeful (swept_order.lawful.below Hopeful)
  below Dual = moves_to Dual harvest.dual (swept_order.lawful.below Dual)

  abbrev family : Family
  family = family_of (setting_between order.game order.diagram)

  known_made : IsKnownTable order.diagram.lines (map literal_of made.decisions) order.known
  known_made = subst (λ ds. IsKnownTable order.diagram.lines (map literal_of ds) order.known) (sym swept_order.page.decisions) is_order.known

  within : (which : Which) (v : ℕ) → v < length (graph_of order.game) → v < length (order_table which order)
  within which v l =
      subst (λ (n : ℕ). v < n) (sym ((is_order.below which).is_table.len ∙ arena_length Formula (kleene order.known) which (graph_of order.game))) l

  checks : IsSettledHarvest harvest → Checks family made
  checks settled = (
    (order.known, (known_made, record { is_table = (below Hopeful).is_table; settled = progress_moves harvest.order order swept_order.page Hopeful harvest.hopeful (settled Hopeful) })),
    (order.known, (known_made, record { is_table = (below Dual).is_table; settled = progress_moves harvest.order order swept_order.page Dual harvest.dual (settled Dual) })),
  )

  pub swept : IsSwept family sweeps order.decisions order.hopeful order.dual made
  swept = record {
    of_order = record {
      of_this_desk = refl;
      same_decisions = swept_order.page.decisions;
      lawful = harvests_are_lawful (setting_between order.game order.diagram) made order.known (order_setting order is_order) known_made below;
      hopeful_len = (below Hopeful).is_table.len ∙ arena_length Formula (kleene order.known) Hopeful (graph_of order.game);
      dual_len = (below Dual).is_table.len ∙ arena_length Formula (kleene order.known) Dual (graph_of order.game);
      hopeful_above = λ v l. (above Hopeful).1 v (within Hopeful v l);
      dual_above = λ v l. (above Dual).1 v (within Dual v l);
    };
    moved = λ fails. swept_order.moved (λ settled. fails (checks settled));
  }

pub swept_seen : (desk : DeskState) (order : OrderView) (harvest : HarvestView) (sweeps : ℕ) → order.game ≡ desk.game → order.diagram ≡ desk.diagram → IsOrder order → IsSweptOrder order sweeps harvest →
    IsSwept (family_of (setting_of desk)) sweeps order.decisions order.hopeful order.dual (handed_in true harvest)
swept_seen desk order harvest sweeps game diagram is_order swept_order =
    subst (λ (g : NamedGame). IsSwept (family_of (setting_between g desk.diagram)) sweeps order.decisions order.hopeful order.dual (handed_in true harvest)) game
    (subst (λ (d : NamedDiagram). IsSwept (family_of (setting_between order.game d)) sweeps order.decisions order.hopeful order.dual (handed_in true harvest)) diagram
    (swept order harvest sweeps is_order swept_order))

-- the sweeps that made it
pub made_seen : (desk : DeskState) (lifters most n : ℕ) (order : OrderView) (harvest : HarvestView) → order.game ≡ desk.game → order.diagram ≡ desk.diagram → n ≤ most → Settles lifters n order harvest →
    (most ≡ 0 → (which : Which) → harvest_table which harvest ≡ order_table which order) →
    IsMadeBy (setting_of desk) lifters most order.decisions order.hopeful order.dual (handed_in true harvest)
made_seen desk lifters most n order harvest game diagram few settles none = record {
  order = order;
  harvest = harvest;
  sweeps = n;
  setting_is = ap (λ (g : NamedGame). setting_between g order.diagram) game ∙ ap (λ (d : NamedDiagram). setting_between desk.game d) diagram;
  decisions_are = refl;
  hopeful_is = refl;
  dual_is = refl;
  made_is = refl;
  few = few;
  settles = settles;
  none = none;
}

module _ {tone : Tone} (limit : ℕ) (limit_is : limit ≡ room) (session : ℕ) (old new : EngineState) (first : ClientState) (lifters times : ℕ) (order : OrderView) (harvest : HarvestView) (before after : List ℕ)
    (ordered : IsLogged limit old.client session Order (Ordered order.decisions order.hopeful order.dual) first) (ours : IsOrderOf old.client.desk order) (is_order : IsOrder order) where
  -- an order of the desk is swept, and its harvest is handed in
  pub settle_answers : (sweeps : Option ℕ) (n : ℕ) → n ≡ sweeps_of sweeps → IsSweptOrder order n harvest → times ≤ n → Settles lifters times order harvest → (n ≡ 0 → (which : Which) → harvest_table which harvest ≡ order_table which order) →
      Goes first (Asks (scene_at old) old.held (old.client.calls + 1) session (Commit (handed_in true harvest)) (AsksSettled (scene_at old) old.held (old.client.calls + 1 + 1) session)) tone before after new →
      SweepsTo old lifters (record { label = session; command = script.Settle sweeps }) tone before after new
  settle_answers sweeps n given swept_order few made none goes =
      settles limit limit_is session old new first order.decisions order.hopeful order.dual (handed_in true harvest) before after ordered lifters sweeps
      (subst (λ (m : ℕ). IsSwept (family_of (setting_of old.client.desk)) m order.decisions order.hopeful order.dual (handed_in true harvest)) given (swept_seen old.client.desk order harvest n ours.0 ours.1 is_order swept_order))
      (subst (λ (m : ℕ). IsMadeBy (setting_of old.client.desk) lifters m order.decisions order.hopeful order.dual (handed_in true harvest)) given (made_seen old.client.desk lifters n times order harvest ours.0 ours.1 few made none)) goes

  -- its harvest is kept
  pub harvest_answers : (n : ℕ) → IsSweptOrder order most_sweeps harvest → times ≤ most_sweeps → Settles lifters times order harvest → (most_sweeps ≡ 0 → (which : Which) → harvest_table which harvest ≡ order_table which order) →
      new.client ≡ first → new.held ≡ with_harvest old.held (handed_in true harvest) → n ≡ length old.held.harvests + 1 → IsGiven (done (numbered (codes "harvest") n)) tone before after →
      SweepsTo old lifters (record { label = session; command = script.Harvest }) tone before after new
  harvest_answers n swept_order few made none client held counted appended =
      keeps limit limit_is session old new first order.decisions order.hopeful order.dual (handed_in true harvest) before after ordered lifters n
      (swept_seen old.client.desk order harvest most_sweeps ours.0 ours.1 is_order swept_order) (made_seen old.client.desk lifters most_sweeps times order harvest ours.0 ours.1 few made none) client held counted appended

-- the sweeps of a settle
pub rounds_given : (sweeps : Option ℕ) → unwrap_or sweeps 1000000 ≡ sweeps_of sweeps
rounds_given None = refl
rounds_given (Some n) = refl

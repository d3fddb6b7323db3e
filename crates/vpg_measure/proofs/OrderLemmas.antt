-- Orders and harvests.
use Rattle.std.proofs.Common.{◌≡◌, ℕ, ◌<◌, ◌≤◌, Bool, List, length, map, replicate, get_or, refl, sym, ap, ◌∙◌, subst, arith}
use Rattle.std.specs.Prelude.{sum, MatchBool}
use Rattle.std.proofs.lemmas.List.Elements.{All-from_get_or}
use Rattle.vpg_guards.specs.Known.{kleene}
use Rattle.vpg_diagram.specs.DiagramText.{NamedDiagram}
use Rattle.vpg_diagram.specs.FeatureDiagram.{feature_count}
use Rattle.vpg_game.specs.Game.{NamedGame, graph_of}
use Rattle.vpg_diagram.specs.declared.clause.Literal.{Literal}
use Rattle.vpg_partial.specs.declared.decision.Decision.{Decision}
use Rattle.vpg_partial.specs.Known.{literal_of}
use Rattle.vpg_partial.specs.TableLaws.{AreChoicesOf}
use Rattle.vpg_game.specs.declared.levels.Level.{Level}
use Rattle.vpg_sides.specs.declared.which.Which.{Which}
use Rattle.vpg_sides.specs.declared.which.Which.TheVariants.{Hopeful, Dual}
use Rattle.vpg_guards.specs.declared.tri.Tri.{Tri}
use Rattle.vpg_guards.specs.Formula.{Formula}
use Rattle.vpg_game.proofs.Graphs.{same_count}
use Rattle.vpg_hope.specs.Games.{Game}
use Rattle.vpg_measure.specs.Lifts.{IsBelowTable, IsProgressTable, raised, after_rounds}
use Rattle.vpg_measure.specs.Orders.{OrderView, HarvestView, harvest_of, order_table, order_room, harvest_table, order_levels, order_arena, with_room, IsOpeningTable, IsOrder, IsSameOrder, IsHarvest, IsRaised, IsSettledOrder, IsSettledHarvest, other_table}
use Rattle.vpg_measure.specs.Games.{GamesView, ArePageGames, games_levels, games_arena}
use Rattle.vpg_measure.specs.TwoGames.{IsTableBelow, IsProgressOf, levels_for, arena_for, top_for}
use Rattle.vpg_measure.proofs.Below.{raise_is_below, zeros_are_below}
use Rattle.vpg_measure.proofs.Rounds.{below_self, below_trans, raised_above, raised_table, after_table, after_above, after_stays}
use Rattle.vpg_measure.proofs.TwoGames.{arena_length, tops, tops_progress, top_bounds}

-- the order of what is handed in, over games that are made and room that is taken
abbrev pub order_with : NamedGame → NamedDiagram → List Decision → GamesView → (hopeful dual hopeful_room dual_room : List ℕ) → OrderView
order_with game diagram decisions games hopeful dual hopeful_room dual_room = record {
  game = game;
  diagram = diagram;
  decisions = decisions;
  known = games.known;
  hopeful = hopeful;
  dual = dual;
  hopeful_room = hopeful_room;
  dual_room = dual_room;
}

module _ (game : NamedGame) (diagram : NamedDiagram) (decisions : List Decision) (games : GamesView) (hopeful dual hopeful_room dual_room : List ℕ) where
  pub order_made : game.features ≡ feature_count diagram.lines → AreChoicesOf diagram.lines (map literal_of decisions) →
      IsOpeningTable game diagram decisions Hopeful hopeful → IsOpeningTable game diagram decisions Dual dual → ArePageGames game diagram (map literal_of decisions) games →
      length hopeful_room ≡ length game.vertices → length dual_room ≡ length game.vertices →
      IsOrder (order_with game diagram decisions games hopeful dual hopeful_room dual_room)
  order_made features named first second are e f = record {
    game = are.is_game;
    not_at_limit = are.not_at_limit;
    diagram = are.is_diagram;
    features = features;
    named = named;
    known = are.known;
    below = at;
    hopeful_room = e;
    dual_room = f;
  }
    where
      at : (which : Which) → IsTableBelow (kleene games.known) which (graph_of game) (order_table which (order_with game diagram decisions games hopeful dual hopeful_room dual_room))
      at Hopeful = first games.known are.known
      at Dual = second games.known are.known

-- ---- the vertices of an order

pub arena_count : (known : List Tri) (which : Which) (game : NamedGame) → length (arena_for (kleene known) which (graph_of game)) ≡ length game.vertices
arena_count known which game = arena_length Formula (kleene known) which (graph_of game) ∙ same_count game

pub table_count : (order : OrderView) → IsOrder order → (which : Which) → length (order_table which order) ≡ length order.game.vertices
table_count order is which = (is.below which).is_table.len ∙ arena_count order.known which order.game

-- tables of zeros may stand in every order
pub zeros_open : (game : NamedGame) (diagram : NamedDiagram) (decisions : List Decision) (which : Which) (n : ℕ) → n ≡ length game.vertices →
    IsOpeningTable game diagram decisions which (replicate n 0)
zeros_open game diagram decisions which n e known is =
    let arena = arena_for (kleene known) which (graph_of game) in
    let zeros = zeros_are_below (levels_for which (graph_of game)) arena in
    let count : length arena ≡ n = arena_count known which game ∙ sym e in
    subst (λ (m : ℕ). IsTableBelow (kleene known) which (graph_of game) (replicate m 0)) count (record { is_table = zeros.0; below = zeros.1 })

-- ---- an order's room

pub room_put : (order : OrderView) (hopeful dual : List ℕ) → IsOrder order → length hopeful ≡ length order.game.vertices → length dual ≡ length order.game.vertices →
    IsOrder (record order { hopeful_room = hopeful; dual_room = dual })
room_put order hopeful dual is e f = record {
  game = is.game;
  not_at_limit = is.not_at_limit;
  diagram = is.diagram;
  features = is.features;
  named = is.named;
  known = is.known;
  below = at;
  hopeful_room = e;
  dual_room = f;
}
  where
    at : (which : Which) → IsTableBelow (kleene order.known) which (graph_of order.game) (order_table which (record order { hopeful_room = hopeful; dual_room = dual }))
    at Hopeful = is.below Hopeful
    at Dual = is.below Dual

-- the order with its tables in the room
abbrev pub filled : OrderView → OrderView
filled order = record order { hopeful_room = order.hopeful; dual_room = order.dual }

-- the order with the tables of its room for its own
abbrev pub exchanged : OrderView → OrderView
exchanged order = record order { hopeful = order.hopeful_room; dual = order.dual_room; hopeful_room = order.hopeful; dual_room = order.dual }

pub room_filled : (order : OrderView) → IsOrder order → IsOrder (filled order)
room_filled order is = room_put order order.hopeful order.dual is (table_count order is Hopeful) (table_count order is Dual)

pub room_exchanged : (order : OrderView) → IsOrder order → ((which : Which) → IsTableBelow (kleene order.known) which (graph_of order.game) (order_room which order)) →
    IsOrder (exchanged order)
room_exchanged order is below = record {
  game = is.game;
  not_at_limit = is.not_at_limit;
  diagram = is.diagram;
  features = is.features;
  named = is.named;
  known = is.known;
  below = at;
  hopeful_room = table_count order is Hopeful;
  dual_room = table_count order is Dual;
}
  where
    at : (which : Which) → IsTableBelow (kleene order.known) which (graph_of order.game) (order_table which (exchanged order))
    at Hopeful = below Hopeful
    at Dual = below Dual

pub filled_room : (order : OrderView) (which : Which) → order_room which (filled order) ≡ order_table which order
filled_room order Hopeful = refl
filled_room order Dual = refl

pub harvest_room : (order : OrderView) (which : Which) → harvest_table which (harvest_of order) ≡ order_room which order
harvest_room order Hopeful = refl
harvest_room order Dual = refl

-- ---- the games of a page

module _ (game : NamedGame) (diagram : NamedDiagram) (choices : List Literal) (games read : GamesView) (are : ArePageGames game diagram choices games) (same : read ≡ games) (which : Which) where
  pub levels_read : (shape : List Level) → shape ≡ games_levels which read → shape ≡ levels_for which (graph_of game)
  levels_read shape e = e ∙ ap (λ (g : GamesView). games_levels which g) same ∙ are.levels which

  pub arena_read : (arena : Game) → arena ≡ games_arena which read → arena ≡ arena_for (kleene games.known) which (graph_of game)
  arena_read arena e = e ∙ ap (λ (g : GamesView). games_arena which g) same ∙ are.arena which

-- a table over kept edges of the order has one value for each vertex
pub room_count : (order : OrderView) (which : Which) (arena : Game) (table : List ℕ) → arena ≡ order_arena which order → length table ≡ length arena →
    length table ≡ length order.game.vertices
room_count order which arena table e t = t ∙ ap (λ (g : Game). length g) e ∙ arena_count order.known which order.game

-- the order with a table in its room that was computed over the order's own levels and kept edges
pub room_changed : (op : List Level → Game → List ℕ → List ℕ) (order now : OrderView) (which w : Which) (shape : List Level) (arena : Game) (table : List ℕ) →
    shape ≡ order_levels which order → arena ≡ order_arena which order → which ≡ w → table ≡ op shape arena (order_room w order) → order ≡ now →
    with_room w table order ≡ with_room which (op (order_levels which now) (order_arena which now) (order_room which now)) now
room_changed op order now which w shape arena table e f is changed same =
    ap (λ (t : List ℕ). with_room w t order)
    (changed
    ∙ ap (λ (l : List Level). op l arena (order_room w order)) e
    ∙ ap (λ (g : Game). op (order_levels which order) g (order_room w order)) f)
    ∙ ap (λ (u : Which). with_room u (op (order_levels which order) (order_arena which order) (order_room u order)) order) (sym is)
    ∙ ap (λ (o : OrderView). with_room which (op (order_levels which o) (order_arena which o) (order_room which o)) o) same

-- ---- the tables of a harvest

pub record IsLawfulTable (which : Which) (order : OrderView) (table : List ℕ) : Type 0 where
  pub above : IsBelowTable (order_table which order) table
  pub below : IsTableBelow (kleene order.known) which (graph_of order.game) table

module _ (order : OrderView) (is : IsOrder order) (which : Which) where
  pub own_lawful : IsLawfulTable which order (order_table which order)
  own_lawful = record { above = below_self (order_table which order); below = is.below which }

  pub raised_lawful : (v : ℕ) → v < length order.game.vertices →
      IsLawfulTable which order (raised (order_levels which order) (order_arena which order) (order_table which order) v)
  raised_lawful v less = record {
    above = raised_above (order_levels which order) (order_arena which order) (order_table which order) v;
    below = record {
      is_table = raised_table (order_levels which order) (order_arena which order) (order_table which order) v (is.below which).is_table;
      below = raise_is_below (order_levels which order) (order_arena which order) (order_table which order) (order_table which order) v
          (is.below which).is_table (is.below which).below (is.below which).is_table (is.below which).below
          (subst (λ n. v < n) (sym (arena_count order.known which order.game)) less);
    };
  }

  pub settled_lawful : (k : ℕ) → IsLawfulTable which order (after_rounds (order_levels which order) (order_arena which order) k (order_table which order))
  settled_lawful k = record {
    above = after_above (order_levels which order) (order_arena which order) k (order_table which order);
    below = record {
      is_table = after_table (order_levels which order) (order_arena which order) k (order_table which order) (is.below which).is_table;
      below = λ other t p. after_stays (order_levels which order) (order_arena which order) k (order_table which order) other (is.below which).is_table t p
          ((is.below which).below other t p);
    };
  }

  -- the table with the top everywhere is a progress table, so what is below each is within the top
  pub handed_lawful : (table : List ℕ) → IsRaised which order table → IsLawfulTable which order table
  handed_lawful table h = record {
    above = h.above;
    below = record { is_table = record { len = len; within = All-from_get_or (λ n. n ≤ top_for which (graph_of order.game)) table 0 within }; below = h.below };
  }
    where
      len : length table ≡ length (order_arena which order)
      len = sym h.above.0 ∙ (is.below which).is_table.len

      most : IsProgressOf (kleene order.known) which (graph_of order.game) (tops Formula (kleene order.known) which (graph_of order.game))
      most = tops_progress Formula (kleene order.known) which (graph_of order.game)

      within : (v : ℕ) → v < length table → get_or table v 0 ≤ top_for which (graph_of order.game)
      within v less = omega (
        arith,
        (h.below (tops Formula (kleene order.known) which (graph_of order.game)) most.is_table most.settled).1 v less,
        top_bounds Formula (kleene order.known) which (graph_of order.game) v (subst (λ n. v < n) (len ∙ arena_length Formula (kleene order.known) which (graph_of order.game)) less),
      )

pub harvest_made : (order : OrderView) (hopeful dual : List ℕ) → IsOrder order → IsLawfulTable Hopeful order hopeful → IsLawfulTable Dual order dual →
    IsHarvest (harvest_of (record order { hopeful_room = hopeful; dual_room = dual }))
harvest_made order hopeful dual is h d = record {
  order = room_put order hopeful dual is (h.below.is_table.len ∙ arena_count order.known Hopeful order.game) (d.below.is_table.len ∙ arena_count order.known Dual order.game);
  above = above_at;
  below = below_at;
}
  where
    above_at : (which : Which) → IsBelowTable (order_table which (record order { hopeful_room = hopeful; dual_room = dual }))
        (harvest_table which (harvest_of (record order { hopeful_room = hopeful; dual_room = dual })))
    above_at Hopeful = h.above
    above_at Dual = d.above

    below_at : (which : Which) → IsTableBelow (kleene order.known) which (graph_of order.game) (harvest_table which (harvest_of (record order { hopeful_room = hopeful; dual_room = dual })))
    below_at Hopeful = h.below
    below_at Dual = d.below

-- one table raised at a vertex
pub one_made : (order : OrderView) (which : Which) (v : ℕ) → IsOrder order → v < length order.game.vertices →
    IsHarvest (harvest_of (with_room which (raised (order_levels which order) (order_arena which order) (order_table which order) v) (filled order)))
one_made order Hopeful v is less = harvest_made order _ order.dual is (raised_lawful order is Hopeful v less) (own_lawful order is Dual)
one_made order Dual v is less = harvest_made order order.hopeful _ is (own_lawful order is Hopeful) (raised_lawful order is Dual v less)

pub one_same : (order : OrderView) (which : Which) (table : List ℕ) → IsSameOrder (harvest_of (with_room which table (filled order))).order order
one_same order Hopeful table = record { game = refl; diagram = refl; decisions = refl; known = refl; hopeful = refl; dual = refl }
one_same order Dual table = record { game = refl; diagram = refl; decisions = refl; known = refl; hopeful = refl; dual = refl }

pub one_other : (order : OrderView) (which : Which) (table : List ℕ) → harvest_table (other_table which) (harvest_of (with_room which table (filled order))) ≡ order_table (other_table which) order
one_other order Hopeful table = refl
one_other order Dual table = refl

-- a harvest's table raised at a vertex
pub raised_made : (order : OrderView) (which : Which) (v : ℕ) → IsHarvest (harvest_of order) → v < length order.game.vertices →
    IsHarvest (harvest_of (with_room which (raised (order_levels which order) (order_arena which order) (order_room which order) v) order))
raised_made order which v is less = at which
  where
    own : (w : Which) → IsLawfulTable w order (harvest_table w (harvest_of order))
    own w = record { above = is.above w; below = is.below w }

    more : (w : Which) → IsLawfulTable w order (raised (order_levels w order) (order_arena w order) (harvest_table w (harvest_of order)) v)
    more w = record {
      above = below_trans (order_table w order) (harvest_table w (harvest_of order)) _ (is.above w) (raised_above (order_levels w order) (order_arena w order) (harvest_table w (harvest_of order)) v);
      below = record {
        is_table = raised_table (order_levels w order) (order_arena w order) (harvest_table w (harvest_of order)) v (is.below w).is_table;
        below = raise_is_below (order_levels w order) (order_arena w order) (harvest_table w (harvest_of order)) (harvest_table w (harvest_of order)) v
            (is.below w).is_table (is.below w).below (is.below w).is_table (is.below w).below
            (subst (λ n. v < n) (sym (arena_count order.known w order.game)) less);
      };
    }

    at : (w : Which) → IsHarvest (harvest_of (with_room w (raised (order_levels w order) (order_arena w order) (order_room w order) v) order))
    at Hopeful = harvest_made order _ order.dual_room is.order (more Hopeful) (own Dual)
    at Dual = harvest_made order order.hopeful_room _ is.order (own Hopeful) (more Dual)

pub with_room_at : (order : OrderView) (which : Which) (room : List ℕ) → harvest_table which (harvest_of (with_room which room order)) ≡ room
with_room_at order Hopeful room = refl
with_room_at order Dual room = refl

pub with_room_other : (order : OrderView) (which : Which) (room : List ℕ) →
    harvest_table (other_table which) (harvest_of (with_room which room order)) ≡ harvest_table (other_table which) (harvest_of order)
with_room_other order Hopeful room = refl
with_room_other order Dual room = refl

pub with_room_same : (order : OrderView) (which : Which) (room : List ℕ) → IsSameOrder (with_room which room order) order
with_room_same order Hopeful room = record { game = refl; diagram = refl; decisions = refl; known = refl; hopeful = refl; dual = refl }
with_room_same order Dual room = record { game = refl; diagram = refl; decisions = refl; known = refl; hopeful = refl; dual = refl }

-- what a raise in the room leaves of the harvest
pub record IsRaisedAt (which : Which) (v : ℕ) (old new : HarvestView) : Type 0 where
  pub order : IsSameOrder new.order old.order
  pub raised : harvest_table which new ≡ raised (order_levels which old.order) (order_arena which old.order) (harvest_table which old) v
  pub other : harvest_table (other_table which) new ≡ harvest_table (other_table which) old

pub raised_at : (order new : OrderView) (old : HarvestView) (which : Which) (v : ℕ) → harvest_of order ≡ old →
    new ≡ with_room which (raised (order_levels which order) (order_arena which order) (order_room which order) v) order → IsRaisedAt which v old (harvest_of new)
raised_at order new old which v e f =
    subst (λ (h : HarvestView). IsRaisedAt which v h (harvest_of new)) e (subst (λ (o : OrderView). IsRaisedAt which v (harvest_of order) (harvest_of o)) (sym f) here)
  where
    room : List ℕ
    room = raised (order_levels which order) (order_arena which order) (order_room which order) v

    here : IsRaisedAt which v (harvest_of order) (harvest_of (with_room which room order))
    here = record {
      order = with_room_same order which room;
      raised = with_room_at order which room ∙ ap (λ (t : List ℕ). raised (order_levels which order) (order_arena which order) t v) (sym (harvest_room order which));
      other = with_room_other order which room;
    }

pub rose_at : (order new : OrderView) (old : HarvestView) (which : Which) (b : Bool) → harvest_of order ≡ old →
    MatchBool b (sum (order_room which order) < sum (order_room which new)) (order_room which new ≡ order_room which order) →
    MatchBool b (sum (harvest_table which old) < sum (harvest_table which (harvest_of new))) (harvest_table which (harvest_of new) ≡ harvest_table which old)
rose_at order new old which b e h = subst (λ (x : HarvestView). MatchBool b (sum (harvest_table which x) < sum (harvest_table which (harvest_of new))) (harvest_table which (harvest_of new) ≡ harvest_table which x)) e
    (subst (λ (t : List ℕ). MatchBool b (sum (harvest_table which (harvest_of order)) < sum t) (t ≡ harvest_table which (harvest_of order))) (sym (harvest_room new which))
    (subst (λ (t : List ℕ). MatchBool b (sum t < sum (order_room which new)) (order_room which new ≡ t)) (sym (harvest_room order which)) h))

-- ---- whether both tables are settled

pub tables_settled : (order : OrderView) → IsProgressTable (order_levels Hopeful order) (order_arena Hopeful order) order.hopeful →
    IsProgressTable (order_levels Dual order) (order_arena Dual order) order.dual → IsSettledOrder order
tables_settled order h d Hopeful = h
tables_settled order h d Dual = d

-- whatever stands in its room
pub still_settled : (order : OrderView) (hopeful dual : List ℕ) → IsSettledOrder order → IsSettledOrder (record order { hopeful_room = hopeful; dual_room = dual })
still_settled order hopeful dual settled Hopeful = settled Hopeful
still_settled order hopeful dual settled Dual = settled Dual

pub both_settled : (harvest : HarvestView) → IsProgressTable (order_levels Hopeful harvest.order) (order_arena Hopeful harvest.order) harvest.hopeful →
    IsProgressTable (order_levels Dual harvest.order) (order_arena Dual harvest.order) harvest.dual → IsSettledHarvest harvest
both_settled harvest h d Hopeful = h
both_settled harvest h d Dual = d

-- ---- both tables settled

abbrev pub alone_of : ℕ → OrderView → OrderView
alone_of rounds order = record order {
  hopeful_room = after_rounds (order_levels Hopeful order) (order_arena Hopeful order) rounds order.hopeful;
  dual_room = after_rounds (order_levels Dual order) (order_arena Dual order) rounds order.dual;
}

pub alone_at : (rounds : ℕ) (order : OrderView) (which : Which) →
    harvest_table which (harvest_of (alone_of rounds order)) ≡ after_rounds (order_levels which order) (order_arena which order) rounds (order_table which order)
alone_at rounds order Hopeful = refl
alone_at rounds order Dual = refl

-- the order after its first table is settled
pub hopeful_settled : (order ready after : OrderView) (rounds : ℕ) → ready ≡ filled order →
    after ≡ with_room Hopeful (after_rounds (order_levels Hopeful ready) (order_arena Hopeful ready) rounds (order_room Hopeful ready)) ready →
    after ≡ with_room Hopeful (after_rounds (order_levels Hopeful order) (order_arena Hopeful order) rounds order.hopeful) (filled order)
hopeful_settled order ready after rounds e f =
    f ∙ ap (λ (o : OrderView). with_room Hopeful (after_rounds (order_levels Hopeful o) (order_arena Hopeful o) rounds (order_room Hopeful o)) o) e

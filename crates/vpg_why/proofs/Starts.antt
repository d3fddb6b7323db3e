-- Tables that a trial begins with: what more is known only raises tables.
use Rattle.std.proofs.Common.{◌≡◌, ℕ, List, sym, subst, ◌∙◌}
use Rattle.vpg_guards.specs.declared.tri.Tri.{Tri}
use Rattle.vpg_guards.specs.Formula.{Formula}
use Rattle.vpg_guards.specs.Known.{kleene, IsFiner}
use Rattle.vpg_diagram.specs.DiagramText.{NamedDiagram}
use Rattle.vpg_diagram.specs.declared.clause.Literal.{Literal}
use Rattle.vpg_game.specs.declared.levels.Level.{Level}
use Rattle.vpg_game.specs.Game.{NamedGame, graph_of}
use Rattle.vpg_game.specs.Guarded.{GuardedGame}
use Rattle.vpg_hope.specs.Arena.{Vertex as Node}
use Rattle.vpg_hope.specs.Hope.{Extends}
use Rattle.vpg_partial.specs.TableLaws.{IsKnownTable}
use Rattle.vpg_sides.specs.declared.which.Which.{Which}
use Rattle.vpg_measure.specs.Games.{GamesView, ArePageGames, games_arena, games_levels}
use Rattle.vpg_measure.specs.Least.{IsBelowProgressTables}
use Rattle.vpg_measure.specs.Lifts.{IsBelowTable, IsTableOf}
use Rattle.vpg_measure.specs.Orders.{OrderView, IsOrder, order_table}
use Rattle.vpg_measure.specs.TwoGames.{levels_for, arena_for, IsProgressOf, IsTableBelow}
use Rattle.vpg_measure.proofs.TwoGames.{arena_length, progress_earlier}
use Rattle.vpg_why.specs.Explained.{choices}
use Rattle.vpg_why.proofs.Monotone.{extends, extends_finer}

-- a table that lies below under what is known still does where more is
stays_below : (game : GuardedGame Formula) (which : Which) (known more : List Tri) (table : List ℕ) → Extends (kleene more) (kleene known) game → IsTableBelow (kleene known) which game table →
    IsTableBelow (kleene more) which game table
stays_below game which known more table extended is = record {
  is_table = record {
    len = is.is_table.len ∙ arena_length Formula (kleene known) which game ∙ sym (arena_length Formula (kleene more) which game);
    within = is.is_table.within;
  };
  below = λ other t p. before other (progress_earlier Formula (kleene more) (kleene known) game which other extended (record { is_table = t; settled = p }));
}
  where
    before : (other : List ℕ) → IsProgressOf (kleene known) which game other → IsBelowTable table other
    before other q = is.below other q.is_table q.settled

-- ---- a table moved along equal levels and edges

pub moved : (levels from_levels : List Level) (arena from_arena : List Node) (table : List ℕ) → levels ≡ from_levels → arena ≡ from_arena → IsTableOf from_levels from_arena table → IsTableOf levels arena table
moved levels from_levels arena from_arena table e f t = subst (λ (g : List Node). IsTableOf levels g table) (sym f) (subst (λ (s : List Level). IsTableOf s from_arena table) (sym e) t)

pub moved_below : (levels from_levels : List Level) (arena from_arena : List Node) (table : List ℕ) → levels ≡ from_levels → arena ≡ from_arena → IsBelowProgressTables from_levels from_arena table →
    IsBelowProgressTables levels arena table
moved_below levels from_levels arena from_arena table e f b =
    subst (λ (g : List Node). IsBelowProgressTables levels g table) (sym f) (subst (λ (s : List Level). IsBelowProgressTables s from_arena table) (sym e) b)

-- ---- the page's tables, in games in which all is known that is known on the page

module _ (order : OrderView) (is : IsOrder order) (games : GamesView) (chosen : List Literal)
    (are : ArePageGames order.game order.diagram chosen games) (page : List Tri)
    (of_page : IsKnownTable order.diagram.lines (choices order.decisions) page) (finer : IsFiner page games.known)
    (which : Which) where
  abbrev game : GuardedGame Formula
  game = graph_of order.game

  there : IsTableBelow (kleene games.known) which game (order_table which order)
  there = stays_below game which page games.known (order_table which order) (extends_finer page games.known game finer)
      (stays_below game which order.known page (order_table which order)
      (extends order.diagram.lines (choices order.decisions) (choices order.decisions) order.known page game (λ c h. h) is.known of_page) (is.below which))

  pub page_table : IsTableOf (games_levels which games) (games_arena which games) (order_table which order)
  page_table = moved (games_levels which games) (levels_for which game) (games_arena which games) (arena_for (kleene games.known) which game) (order_table which order) (are.levels which) (are.arena which) there.is_table

  pub page_below : IsBelowProgressTables (games_levels which games) (games_arena which games) (order_table which order)
  page_below = moved_below (games_levels which games) (levels_for which game) (games_arena which games) (arena_for (kleene games.known) which game) (order_table which order) (are.levels which) (are.arena which) there.below

-- ---- tables of an order of some decisions: they lie below whatever these make known

pub opening : (named : NamedGame) (diagram : NamedDiagram) (chosen : List Literal) (games : GamesView) → ArePageGames named diagram chosen games → (which : Which) (table : List ℕ) →
    IsTableOf (games_levels which games) (games_arena which games) table → IsBelowProgressTables (games_levels which games) (games_arena which games) table →
    (known : List Tri) → IsKnownTable diagram.lines chosen known → IsTableBelow (kleene known) which (graph_of named) table
opening named diagram chosen games are which table fits below known t =
    stays_below (graph_of named) which games.known known table (extends diagram.lines chosen chosen games.known known (graph_of named) (λ c h. h) are.known t) (record {
      is_table = moved (levels_for which (graph_of named)) (games_levels which games) (arena_for (kleene games.known) which (graph_of named)) (games_arena which games) table (sym (are.levels which)) (sym (are.arena which)) fits;
      below = moved_below (levels_for which (graph_of named)) (games_levels which games) (arena_for (kleene games.known) which (graph_of named)) (games_arena which games) table (sym (are.levels which)) (sym (are.arena which)) below;
    })

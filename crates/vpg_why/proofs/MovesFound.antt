-- Moves that win the cautious game win in each product that is left.
use Rattle.std.proofs.Common.{◌≡◌, ℕ, ◌<◌, Bool, List, Option, length, slice_index, refl, sym, ap, ◌∙◌, subst}
use Rattle.std.proofs.lemmas.List.{length-map}
use Rattle.std.specs.Prelude.{All, IfSome}
use Rattle.vpg_guards.specs.declared.tri.Tri.{Tri}
use Rattle.vpg_guards.specs.Formula.{Formula, truth}
use Rattle.vpg_guards.specs.Known.{kleene}
use Rattle.vpg_diagram.specs.DiagramText.{NamedDiagram, IsNamedDiagram}
use Rattle.vpg_diagram.specs.declared.clause.Literal.{Literal}
use Rattle.vpg_sides.specs.declared.player.Player.{Player}
use Rattle.vpg_sides.specs.Players.{opponent}
use Rattle.vpg_game.specs.Game.{NamedGame, IsGame, graph_of}
use Rattle.vpg_game.specs.Guarded.{GuardedGame, IsClosedGuarded, guarded_priorities, dual}
use Rattle.vpg_game.specs.Levels.{levels_of, top_of}
use Rattle.vpg_game.proofs.Graphs.{games_have_graphs, same_count as graph_count}
use Rattle.vpg_hope.specs.Games.{Game, IsClosed, priorities}
use Rattle.vpg_hope.specs.Hope.{product_game, cautious_game, keeps_in_hope}
use Rattle.vpg_hope.specs.Strategies.{Strategy, Wins}
use Rattle.vpg_hope.proofs.Dual.{wins_from_dual}
use Rattle.vpg_hope.proofs.Edges.{AreEdgesInside, edges_inside}
use Rattle.vpg_hope.proofs.Guards.{restrict_closed, restrict_priorities, same_count, dual_closed, product_dual}
use Rattle.vpg_hope.proofs.Pages.{remaining_products_are_easier}
use Rattle.vpg_partial.specs.KnownLaws.{IsRemaining}
use Rattle.vpg_partial.specs.TableLaws.{IsKnownTable}
use Rattle.vpg_sides.specs.declared.which.Which.{Which}
use Rattle.vpg_sides.specs.declared.which.Which.TheVariants.{Hopeful, Dual}
use Rattle.vpg_measure.specs.Least.{IsLeastTable, IsBelowProgressTables}
use Rattle.vpg_measure.specs.Lifts.{IsTableOf, AreChoices}
use Rattle.vpg_measure.specs.Views.{strategy_of}
use Rattle.vpg_game.specs.declared.levels.Level.{Level}
use Rattle.vpg_measure.specs.TwoGames.{game_for, levels_for, top_for}
use Rattle.vpg_measure.proofs.Easier.{wins_easier}
use Rattle.vpg_measure.proofs.NumberVerdicts.{top_number_refutes}
use Rattle.vpg_measure.proofs.TwoGames.{closed_from_edges}
use Rattle.vpg_why.specs.Played.{ArePlayed}
use Rattle.vpg_why.proofs.Plays.{played_inside, played_wins}
use Rattle.vpg_why.specs.Moves.{caution_for, WinsInEach, NoneWins, AreWinning, AreFound}
use Rattle.vpg_why.specs.declared.winning.Moves.TheVariants.{Nothing}
use Rattle.vpg_why.specs.Products.{loser}

module _ (game : NamedGame) (is : IsGame game) (which : Which) (known : List Tri) where
  cautious : Player → Formula → Bool
  cautious mover guard = keeps_in_hope (opponent mover) (kleene known guard)

  closed_for : (w : Which) → IsClosedGuarded (game_for w (graph_of game))
  closed_for Hopeful = (games_have_graphs game is).closed
  closed_for Dual = dual_closed Formula (graph_of game) (games_have_graphs game is).closed

  count_for : (w : Which) → length (game_for w (graph_of game)) ≡ length (graph_of game)
  count_for Hopeful = refl
  count_for Dual = simp length-map

  pub caution_count : length (caution_for known which (graph_of game)) ≡ length game.vertices
  unfolding cautious
  caution_count = same_count Formula cautious (game_for which (graph_of game)) ∙ count_for which ∙ graph_count game

  pub caution_closed : IsClosed (caution_for known which (graph_of game))
  unfolding cautious
  caution_closed = closed_from_edges (caution_for known which (graph_of game))
      (restrict_closed Formula cautious (game_for which (graph_of game)) (closed_for which))

  -- the top in the least table refutes each strategy
  pub none_wins : (table : List ℕ) (vertex : ℕ) → vertex < length game.vertices →
      IsLeastTable (levels_for which (graph_of game)) (caution_for known which (graph_of game)) table →
      slice_index table vertex ≡ top_for which (graph_of game) → NoneWins (graph_of game) which known vertex
  unfolding cautious
  none_wins table vertex inside least high =
      top_number_refutes (caution_for known which (graph_of game)) table caution_closed
      (subst (λ ps. IsTableOf (levels_of ps) (caution_for known which (graph_of game)) table) same least.is_table)
      (subst (λ ps. IsBelowProgressTables (levels_of ps) (caution_for known which (graph_of game)) table) same least.below)
      vertex (subst (λ n. vertex < n) (sym caution_count) inside)
      (subst (λ ps. slice_index table vertex ≡ top_of (levels_of ps)) same high)
    where
      same : guarded_priorities (game_for which (graph_of game)) ≡ priorities (caution_for known which (graph_of game))
      same = sym (restrict_priorities Formula cautious (game_for which (graph_of game)))

-- what is left after some choices
module _ (game : NamedGame) (is : IsGame game) (diagram : NamedDiagram) (ok : IsNamedDiagram diagram)
    (choices : List Literal) (known : List Tri) (table : IsKnownTable diagram.lines choices known)
    (strategy : Strategy) (vertex : ℕ) (inside : vertex < length game.vertices) where
  graph : GuardedGame Formula
  graph = graph_of game

  edges : (set : List Bool) → AreEdgesInside (product_game (truth set) (graph_of game))
  edges set = restrict_closed Formula (λ mover guard. truth set guard) (graph_of game) (games_have_graphs game is).closed

  there : (set : List Bool) → vertex < length (product_game (truth set) (graph_of game))
  there set = subst (λ n. vertex < n)
      (sym (same_count Formula (λ mover guard. truth set guard) (graph_of game) ∙ graph_count game)) inside

  easier : (g : GuardedGame Formula) (set : List Bool) → IsRemaining diagram.lines choices set →
      Wins (cautious_game (kleene known) g) Player.Even strategy vertex →
      Wins (product_game (truth set) g) Player.Even strategy vertex
  easier g set left wins = wins_easier (product_game (truth set) g) (cautious_game (kleene known) g)
      (remaining_products_are_easier diagram.lines choices known set g ok.diagram table left) strategy vertex wins

  pub wins_in_each : (which : Which) → Wins (caution_for known which (graph_of game)) Player.Even strategy vertex →
      WinsInEach (graph_of game) diagram.lines choices (loser which) strategy vertex
  wins_in_each Hopeful wins set left = easier (graph_of game) set left wins
  wins_in_each Dual wins set left =
      wins_from_dual (product_game (truth set) (graph_of game)) Player.Odd strategy vertex (edges set) (there set)
      (subst (λ (g : Game). Wins g Player.Even strategy vertex) (product_dual Formula (truth set) (graph_of game))
      (easier (dual (graph_of game)) set left wins))

-- the same of the levels and the arena of a page's games
module _ (game : NamedGame) (is : IsGame game) (diagram : NamedDiagram) (ok : IsNamedDiagram diagram)
    (choices : List Literal) (known : List Tri) (is_known : IsKnownTable diagram.lines choices known) (which : Which)
    (vertex : ℕ) (inside : vertex < length game.vertices) where
  pub vertex_there : (arena : Game) → arena ≡ caution_for known which (graph_of game) → vertex < length arena
  vertex_there arena of_arena =
      subst (λ n. vertex < n) (sym (ap length of_arena ∙ caution_count game is which known)) inside

  pub are_winning : (levels : List Level) (arena : Game) (table : List ℕ) (all moves : List (Option ℕ)) →
      levels ≡ levels_for which (graph_of game) → arena ≡ caution_for known which (graph_of game) →
      IsLeastTable levels arena table → AreChoices levels arena table all → slice_index table vertex < top_of levels →
      Wins arena Player.Even (strategy_of all) vertex → ArePlayed arena all vertex moves →
      AreWinning (graph_of game) diagram.lines choices which vertex moves
  are_winning levels arena table all moves of_levels of_arena least chosen low wins played = record {
    wins = wins_in_each game is diagram ok choices known is_known (strategy_of moves) vertex inside which there;
    count = played.count ∙ ap length of_arena ∙ caution_count game is which known ∙ sym (graph_count game);
    inside = subst (λ (n : ℕ). All (λ m. IfSome m (λ w. w < n)) moves)
        (caution_count game is which known ∙ sym (graph_count game))
        (played_inside (caution_for known which (graph_of game)) all vertex moves in_caution
        (edges_inside (caution_for known which (graph_of game)) (caution_closed game is which known))
        (subst (λ (g : Game). Wins g Player.Even (strategy_of all) vertex) of_arena wins));
    known = known;
    is_known = is_known;
    cautious = there;
    all = all;
    least = record {
      table = table;
      least = rw (of_levels, of_arena) at least;
      low = rw of_levels at low;
      chosen = rw (of_levels, of_arena) at chosen;
    };
    played = in_caution;
  }
    where
      in_caution : ArePlayed (caution_for known which (graph_of game)) all vertex moves
      in_caution = subst (λ (g : Game). ArePlayed g all vertex moves) of_arena played

      there : Wins (caution_for known which (graph_of game)) Player.Even (strategy_of moves) vertex
      there = played_wins (caution_for known which (graph_of game)) all vertex moves in_caution
          (subst (λ (g : Game). Wins g Player.Even (strategy_of all) vertex) of_arena wins)

  pub nothing_found : (levels : List Level) (arena : Game) (table : List ℕ) →
      levels ≡ levels_for which (graph_of game) → arena ≡ caution_for known which (graph_of game) →
      IsLeastTable levels arena table → slice_index table vertex ≡ top_of levels →
      AreFound (graph_of game) diagram.lines choices which vertex Nothing
  nothing_found levels arena table of_levels of_arena least high =
      (known, is_known, none_wins game is which known table vertex inside (rw (of_levels, of_arena) at least) (rw of_levels at high))

-- Where all is known and a progress table is below the top, the verdict's loser wins in the one product.
use Rattle.std.proofs.Common.{◌≡◌, ◌≢◌, ℕ, ◌<◌, Bool, cond, List, length, slice_index, sym, subst}
use Rattle.vpg_guards.specs.declared.tri.Tri.{Tri}
use Rattle.vpg_guards.specs.declared.tri.Tri.TheVariants.{No, Yes}
use Rattle.vpg_guards.specs.Formula.{Formula, truth, IsBelow}
use Rattle.vpg_guards.specs.Known.{kleene, AreAllKnown}
use Rattle.vpg_guards.proofs.Full.{full_values_decide}
use Rattle.vpg_diagram.specs.DiagramText.{NamedDiagram, IsNamedDiagram}
use Rattle.vpg_diagram.specs.FeatureDiagram.{feature_count}
use Rattle.vpg_diagram.specs.declared.clause.Literal.{Literal}
use Rattle.vpg_sides.specs.declared.player.Player.{Player}
use Rattle.vpg_game.specs.Game.{NamedGame, IsGame, graph_of}
use Rattle.vpg_game.specs.Guarded.{GuardedGame, AllGuards, IsClosedGuarded}
use Rattle.vpg_game.proofs.Graphs.{games_have_graphs, same_count}
use Rattle.vpg_hope.specs.Hope.{product_game, hopeful_game, keeps_in_hope, IsFullOf}
use Rattle.vpg_hope.specs.Strategies.{Strategy, Wins}
use Rattle.vpg_hope.proofs.Guards.{full_same, restrict_closed}
use Rattle.vpg_hope.proofs.Guards.{same_count as hope_count}
use Rattle.vpg_partial.specs.KnownLaws.{IsRemaining}
use Rattle.vpg_partial.specs.TableLaws.{IsKnownTable}
use Rattle.vpg_partial.proofs.Tables.{remaining_products_complete}
use Rattle.vpg_sides.specs.declared.which.Which.{Which}
use Rattle.vpg_sides.specs.declared.which.Which.TheVariants.{Hopeful, Dual}
use Rattle.vpg_measure.specs.Measures.{Top}
use Rattle.vpg_measure.specs.Tables.{IsProgressMeasure}
use Rattle.vpg_measure.specs.TwoGames.{levels_for, arena_for}
use Rattle.vpg_measure.specs.Views.{measures_of}
use Rattle.vpg_measure.proofs.NumberTables.{number_not_top, progress_to}
use Rattle.vpg_measure.proofs.Verdicts.{progress_wins, unsure_wins}
use Rattle.vpg_why.specs.declared.question.Aim.{Aim}
use Rattle.vpg_why.specs.declared.question.Aim.TheVariants as aims
use Rattle.vpg_why.specs.Products.{loser, Meets}
use Rattle.vpg_why.specs.Suffices.{IsAim, IsLowUnder, MayMeet}

all_guards : (P Q : Formula → Type 0) (game : GuardedGame Formula) → ((g : Formula) → P g → Q g) → AllGuards P game → AllGuards Q game
all_guards P Q game f h = λ i d l j e k. f _ (h i d l j e k)

module _ (game : NamedGame) (known : List Tri) (set : List Bool) (full : IsFullOf (kleene known) (truth set) (graph_of game)) (closed : IsClosedGuarded (graph_of game)) (vertex : ℕ) (inside : vertex < length (graph_of game)) where
  wins_in : (which : Which) → IsLowUnder game which vertex known → (strategy : Strategy) × Wins (product_game (truth set) (graph_of game)) (loser which) strategy vertex
  wins_in Hopeful low = of (progress_wins (levels_for Hopeful (graph_of game)) (hopeful_game (kleene known) (graph_of game)) (measures_of (levels_for Hopeful (graph_of game)) low.table)
      (restrict_closed Formula keeps (graph_of game) closed) progress)
    where
      keeps : Player → Formula → Bool
      keeps mover guard = keeps_in_hope mover (kleene known guard)

      progress : IsProgressMeasure (levels_for Hopeful (graph_of game)) (hopeful_game (kleene known) (graph_of game)) (measures_of (levels_for Hopeful (graph_of game)) low.table)
      progress = progress_to (levels_for Hopeful (graph_of game)) (arena_for (kleene known) Hopeful (graph_of game)) low.table low.progress.is_table low.progress.settled

      of : (strategy : Strategy) × ((v : ℕ) → v < length (hopeful_game (kleene known) (graph_of game)) → measures_of (levels_for Hopeful (graph_of game)) low.table v ≢ Top → Wins (hopeful_game (kleene known) (graph_of game)) Player.Even strategy v) → (strategy : Strategy) × Wins (product_game (truth set) (graph_of game)) Player.Even strategy vertex
      of s = (
        s.0,
        subst (λ g. Wins g Player.Even s.0 vertex) (full_same Formula (kleene known) (truth set) (graph_of game) full)
            (s.1 vertex (subst (λ n. vertex < n) (sym (hope_count Formula keeps (graph_of game))) inside) (number_not_top (levels_for Hopeful (graph_of game)) (slice_index low.table vertex) low.low)),
      )
  wins_in Dual low = unsure_wins Formula (kleene known) (truth set) (graph_of game) full (levels_for Dual (graph_of game)) (measures_of (levels_for Dual (graph_of game)) low.table) closed progress vertex inside
      (number_not_top (levels_for Dual (graph_of game)) (slice_index low.table vertex) low.low)
    where
      progress : IsProgressMeasure (levels_for Dual (graph_of game)) (arena_for (kleene known) Dual (graph_of game)) (measures_of (levels_for Dual (graph_of game)) low.table)
      progress = progress_to (levels_for Dual (graph_of game)) (arena_for (kleene known) Dual (graph_of game)) low.table low.progress.is_table low.progress.settled

-- where everything is known and the verdict doesn't bar the aim, the one product that is left meets it
pub met_where_full : (game : NamedGame) (diagram : NamedDiagram) (aim : Aim) (choices : List Literal) (known : List Tri) (set : List Bool) → IsGame game → IsNamedDiagram diagram → game.features ≡ feature_count diagram.lines →
    IsKnownTable diagram.lines choices known → AreAllKnown (feature_count diagram.lines) known → IsRemaining diagram.lines choices set → IsAim game aim → MayMeet game aim known → Meets game aim set
met_where_full game diagram aims.Any choices known set is is_diagram features t all remaining inside may = tt
met_where_full game diagram (aims.Won which vertex) choices known set is is_diagram features t all remaining inside low =
    wins_in game known set full (games_have_graphs game is).closed vertex (subst (λ n. vertex < n) (sym (same_count game)) inside) which low
  where
    full : IsFullOf (kleene known) (truth set) (graph_of game)
    full = all_guards (IsBelow (feature_count diagram.lines)) (λ g. kleene known g ≡ cond (truth set g) Yes No) (graph_of game)
        (λ g below. full_values_decide (feature_count diagram.lines) known set g all (remaining_products_complete diagram.lines choices known set is_diagram.diagram t remaining) below)
        (subst (λ (n : ℕ). AllGuards (IsBelow n) (graph_of game)) features (games_have_graphs game is).named)

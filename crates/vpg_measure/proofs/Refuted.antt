-- A progress table of the dual game refutes every progress table that is below the top at the same vertex.
use Rattle.std.proofs.Common.{◌≡◌, ◌≢◌, ℕ, suc, ◌<◌, ◌≤◌, ◌⊎◌, inl, inr, length, slice_index, sym, subst, All, arith}
use Rattle.std.proofs.lemmas.Bool.{cases_lt}
use Rattle.std.proofs.lemmas.List.{length-map}
use Rattle.std.proofs.lemmas.List.Elements.{All-map}
use Rattle.vpg_sides.specs.declared.player.Player.{Player}
use Rattle.vpg_game.specs.Levels.{top_of}
use Rattle.vpg_sides.specs.Players.{opponent}
use Rattle.vpg_hope.specs.Arena.{Vertex as Node}
use Rattle.vpg_hope.specs.Comparison.{dual_game}
use Rattle.vpg_hope.specs.Games.{Game, IsClosed}
use Rattle.vpg_hope.specs.Strategies.{Strategy, Wins}
use Rattle.vpg_hope.proofs.Both.{not_both}
use Rattle.vpg_hope.proofs.Dual.{wins_from_dual}
use Rattle.vpg_hope.proofs.Edges.{edges_inside}
use Rattle.vpg_measure.specs.BoundLaws.{DualProgressMeansTop}
use Rattle.vpg_measure.specs.Measures.{Top}
use Rattle.vpg_measure.specs.Views.{measures_of}
use Rattle.vpg_measure.proofs.NumberTables.{number_not_top, progress_to, value_within}
use Rattle.vpg_measure.proofs.Verdicts.{progress_wins}

abbrev pub dual_vertex : Node → Node
dual_vertex x = record { owner = opponent x.owner; priority = suc x.priority; successors = x.successors }

pub dual_closed : (game : Game) → IsClosed game → IsClosed (dual_game game)
dual_closed game closed = subst (λ n. All (λ (x : Node). All (λ w. w < n) x.successors) (dual_game game)) (sym (length-map game dual_vertex))
    (All-map (λ (x : Node). All (λ w. w < length game) x.successors) dual_vertex game closed)

pub dual_progress_means_top : DualProgressMeansTop
dual_progress_means_top levels dual_levels arena table dual_table closed is_table settled is_dual_table dual_settled v inside dual_low = of (cases_lt (slice_index table v) (top_of levels))
  where
    there : v < length (dual_game arena)
    there = rw length-map inside

    clash : slice_index table v < top_of levels →
        (strategy : Strategy) × ((u : ℕ) → u < length arena → measures_of levels table u ≢ Top → Wins arena Player.Even strategy u) →
        (strategy : Strategy) × ((u : ℕ) → u < length (dual_game arena) → measures_of dual_levels dual_table u ≢ Top → Wins (dual_game arena) Player.Even strategy u) → ⊥
    clash low s t = not_both arena s.0 t.0 v (s.1 v inside (number_not_top levels (slice_index table v) low))
        (wins_from_dual arena Player.Odd t.0 v (edges_inside arena closed) inside (t.1 v there (number_not_top dual_levels (slice_index dual_table v) dual_low)))

    of : (slice_index table v < top_of levels) ⊎ (top_of levels ≤ slice_index table v) → slice_index table v ≡ top_of levels
    of (inr high) = omega (arith, value_within levels arena table is_table v)
    of (inl low) = absurd (clash low (progress_wins levels arena (measures_of levels table) (edges_inside arena closed) (progress_to levels arena table is_table settled))
        (progress_wins dual_levels (dual_game arena) (measures_of dual_levels dual_table) (edges_inside (dual_game arena) (dual_closed arena closed))
        (progress_to dual_levels (dual_game arena) dual_table is_dual_table dual_settled)))

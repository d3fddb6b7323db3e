-- The state of a lift that has loaded some of the successors.
use Rattle.std.specs.Prelude.{ℕ, List, map, take, slice_index}
use Rattle.vpg_game.specs.Levels.{top_of}
use Rattle.vpg_hope.specs.Arena.{vertex_at}
use Rattle.vpg_sides.specs.declared.which.Which.{Which}
use Rattle.vpg_measure.specs.Lifts.{best_for}
use Rattle.vpg_measure.specs.Orders.{OrderView, order_levels, order_arena}
use Rattle.vpg_board.specs.Places.{table_in}

-- the best value of the first n successors, as they were seen
abbrev pub best_of : OrderView → Which → List ℕ → ℕ → ℕ → ℕ
best_of order which seen v n =
    let x = vertex_at (order_arena which order) v in
    best_for x.owner (top_of (order_levels which order))
    (map (λ w. slice_index (table_in order which seen) w) (take n x.successors))

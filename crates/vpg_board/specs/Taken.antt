-- The board that a lifter is on, and the steps that it took there. This project's own.
use Rattle.std.specs.Prelude.{◌≡◌, ℕ, Bool, true, false, List, [], ◌∷◌, ◌++◌, map}
use mathlib.Core.Option.{some}
use lib.ListN.{get_elem?}
use Rattle.vpg_board.specs.declared.lifter.Lifter.{Lifter}
use Rattle.vpg_hope.specs.Arena.{vertex_at}
use Rattle.vpg_sides.specs.declared.which.Which.{Which}
use Rattle.vpg_measure.specs.Orders.{OrderView, order_arena}
use Rattle.vpg_board.specs.Places.{place_of}
use Rattle.vpg_board.specs.Run.{BoardState, Move, load, raise, after, May, Reached}

-- some run leads to a board that has a lifter that knows this
pub record IsOnBoard (v : Lifter) : Type 0 where
  pub board : BoardState
  pub id : ℕ
  pub reached : Reached v.order board
  pub there : get_elem? board.lifters id ≡ some v

-- some run leads to a board on which a lifter knows v, may take this step, and then knows w
pub record Takes (m : ℕ → Move) (v w : Lifter) : Type 0 where
  pub board : BoardState
  pub id : ℕ
  pub reached : Reached v.order board
  pub before : get_elem? board.lifters id ≡ some v
  pub may : May v.order board (m id)
  pub behind : get_elem? (after v.order board (m id)).lifters id ≡ some w

-- it takes these steps in turn, whatever others do between them
abbrev pub TakesAll : List (ℕ → Move) → Lifter → Lifter → Type 0
TakesAll [] v w = v ≡ w
TakesAll (m ∷ ms) v w = (u : Lifter) × Takes m v u × TakesAll ms u w

abbrev pub load_of : OrderView → Which → ℕ → ℕ → Move
load_of order which v i = load i (place_of order which v)

abbrev pub raise_of : OrderView → Which → ℕ → ℕ → Move
raise_of order which v i = raise i (place_of order which v)

-- a lift loads the word of its vertex and those of the kept successors, and then raises the first or does not
abbrev pub lift_steps : OrderView → Which → ℕ → Bool → List (ℕ → Move)
lift_steps order which v false = map (load_of order which) (v ∷ (vertex_at (order_arena which order) v).successors)
lift_steps order which v true =
    map (load_of order which) (v ∷ (vertex_at (order_arena which order) v).successors) ++ raise_of order which v ∷ []

-- The run of a board that led to a seat and to the words, with all joins of that seat. This project's own.
use Rattle.std.specs.Prelude.{◌≡◌, ◌≢◌, ℕ, List, ◌∷◌, ◌++◌, All}
use mathlib.Core.Option.{some}
use lib.ListN.{get_elem?}
use Rattle.vpg_sides.specs.declared.which.Which.{Which}
use Rattle.vpg_measure.specs.Orders.{OrderView, HarvestView, harvest_table}
use Rattle.vpg_board.specs.declared.lifter.Lifter.{Lifter}
use Rattle.vpg_board.specs.declared.lifter.Joined.{Joined}
use Rattle.vpg_board.specs.Places.{table_in}
use Rattle.vpg_board.specs.Lifters.{part_of}
use Rattle.vpg_board.specs.Run.{Move, join, lifter, IsHere, ran, IsBoardRun}

-- Two lifters became one in this run, in which the last step comes first. Before that step both were there, and knew
-- this.
pub record Happened (order : OrderView) (run : List Move) (j : Joined) : Type 0 where
  pub later : List Move
  pub earlier : List Move
  pub one : ℕ
  pub other : ℕ
  pub run_is : run ≡ later ++ join one other ∷ earlier
  pub one_here : IsHere (ran order earlier) one
  pub other_here : IsHere (ran order earlier) other
  pub apart : other ≢ one
  pub one_knew : part_of (lifter (ran order earlier) one) ≡ j.one
  pub other_knew : part_of (lifter (ran order earlier) other) ≡ j.other

-- after this run, of steps that seats may take, some lifter knows this, and all its joins are steps of the run
pub record IsOfRun (order : OrderView) (run : List Move) (v : Lifter) : Type 0 where
  pub may : IsBoardRun order run
  pub id : ℕ
  pub there : get_elem? (ran order run).lifters id ≡ some v
  pub joins : All (Happened order run) v.joins

-- after one run some lifter knows this, and the words are the harvest's tables
pub record IsEndOf (order : OrderView) (v : Lifter) (harvest : HarvestView) : Type 0 where
  pub run : List Move
  pub seat : IsOfRun order run v
  pub words : (which : Which) → harvest_table which harvest ≡ table_in order which (ran order run).measures

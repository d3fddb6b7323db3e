-- A run of a board: any list of steps of any lifters. This project's own.
use Rattle.std.specs.Prelude.{◌≡◌, ◌≢◌, ℕ, ◌+◌, ◌<◌, true, max, List, [], ◌∷◌, ◌++◌, length, slice_index, slice_index_or, slice_set}
use Rattle.vpg_measure.specs.Orders.{OrderView}
use Rattle.vpg_board.specs.declared.lifter.Lifter.{Lifter}
use Rattle.vpg_board.specs.Places.{places, values, lift_at}
use Rattle.vpg_board.specs.Lifters.{opener, spent, sees, claims, splits, newcomer, both}

-- the claim number, the measures, and the knowledge of each lifter
pub record BoardState : Type 0 where
  pub claimed : ℕ
  pub measures : List ℕ
  pub lifters : List Lifter

-- a step: the lifter's number, and the place, or the number of the lifter that it merges
pub data Move : Type 0 where
  load : ℕ → ℕ → Move
  raise : ℕ → ℕ → Move
  claim : ℕ → Move
  split : ℕ → Move
  join : ℕ → ℕ → Move

abbrev pub lifter : BoardState → ℕ → Lifter
lifter b i = slice_index_or b.lifters i spent

-- the lifter is there, and no other merged it
abbrev pub IsHere : BoardState → ℕ → Type 0
IsHere b i = (i < length b.lifters) × (0 < (lifter b i).stands)

abbrev pub opened : OrderView → BoardState
opened order = record { claimed = 0; measures = values order; lifters = opener order ∷ [] }

module _ (order : OrderView) where
  -- the word after a raise: the greater of it and the lift of the values that the lifter has seen
  abbrev pub raised_to : BoardState → ℕ → ℕ → ℕ
  raised_to b i p = max (slice_index b.measures p) (lift_at order (lifter b i).seen p)

  abbrev pub after : BoardState → Move → BoardState
  after b (load i p) = record b { lifters = slice_set b.lifters i (sees (lifter b i) p (slice_index b.measures p)) }
  after b (raise i p) =
      record b { measures = slice_set b.measures p (raised_to b i p); lifters = slice_set b.lifters i (sees (lifter b i) p (raised_to b i p)) }
  after b (claim i) =
      record b { claimed = b.claimed + 1; lifters = slice_set b.lifters i (claims (places order) (lifter b i) b.claimed) }
  after b (split i) = record b { lifters = slice_set b.lifters i (splits (lifter b i)) ++ newcomer (lifter b i) ∷ [] }
  after b (join i j) = record b { lifters = slice_set (slice_set b.lifters i (both (lifter b i) (lifter b j))) j spent }

  -- a step is of lifters that are there, at a place of the board; none merges itself
  abbrev pub IsStep : BoardState → Move → Type 0
  IsStep b (load i p) = IsHere b i × (p < places order)
  IsStep b (raise i p) = IsHere b i × (p < places order)
  IsStep b (claim i) = IsHere b i
  IsStep b (split i) = IsHere b i
  IsStep b (join i j) = IsHere b i × IsHere b j × (j ≢ i)

  -- A seat claims until it found none left. The opening seat, or the one that merged it, splits, at most 63 times.
  abbrev pub May : BoardState → Move → Type 0
  May b (load i p) = IsStep b (load i p)
  May b (raise i p) = IsStep b (raise i p)
  May b (claim i) = IsStep b (claim i) × ((lifter b i).empty ≡ 0)
  May b (split i) = IsStep b (split i) × ((lifter b i).opening ≡ true) × ((lifter b i).splits < 63)
  May b (join i j) = IsStep b (join i j)

  -- the board after these steps, the last one first
  abbrev pub ran : List Move → BoardState
  ran [] = opened order
  ran (m ∷ ms) = after (ran ms) m

  -- any steps of any lifters
  abbrev pub IsRun : List Move → Type 0
  IsRun [] = Unit {0}
  IsRun (m ∷ ms) = IsRun ms × IsStep (ran ms) m

  -- steps that seats may take
  abbrev pub IsBoardRun : List Move → Type 0
  IsBoardRun [] = Unit {0}
  IsBoardRun (m ∷ ms) = IsBoardRun ms × May (ran ms) m

  -- such steps lead to this board
  abbrev pub Reached : BoardState → Type 0
  Reached b = (ms : List Move) × IsBoardRun ms × (ran ms ≡ b)

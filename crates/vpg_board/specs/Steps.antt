-- The rule of the shared words: they and the seats are a board that some run reached. Each atomic step has a definition
-- of what it leaves and what it shows.
use Rattle.std.specs.Prelude.{◌≡◌, ℕ, ◌+◌, ◌-◌, ◌%◌, ◌^◌, ◌<◌, ◌≤◌, max, [], ◌∷◌, ◌++◌, slice_index, slice_set, All}
use Rattle.atomic_table.specs.Table.{State, Me, Step}
use Rattle.vpg_measure.specs.Orders.{OrderView}
use Rattle.vpg_board.specs.declared.lifter.Lifter.{Lifter}
use Rattle.vpg_board.specs.Places.{places, lift_at}
use Rattle.vpg_board.specs.Lifters.{spent, sees, claims, splits, newcomer, both}
use Rattle.vpg_board.specs.Run.{BoardState, Move, load, raise, claim, after, May, Reached}
use Rattle.vpg_board.specs.Taken.{IsOnBoard, Takes}
use Rattle.vpg_board.specs.Seats.{IsSafe, AreSeatClaims}

-- the words are the claim number and the measures, the views are the lifters
pub record Shows (s : State (Unit {0}) Lifter) (b : BoardState) : Type 0 where
  pub words : s.words ≡ b.claimed ∷ b.measures
  pub views : s.views ≡ b.lifters

-- the state of the words and seats is one that some run reached
abbrev pub IsBoard : OrderView → State (Unit {0}) Lifter → Type 0
IsBoard order s = (b : BoardState) × Reached order b × Shows s b

-- The first state shows a board that some run reached. The step may be taken there, and the second state shows the
-- board after it.
pub record Leads (order : OrderView) (m : Move) (s t : State (Unit {0}) Lifter) : Type 0 where
  pub board : BoardState
  pub reached : Reached order board
  pub before : Shows s board
  pub may : May order board m
  pub behind : Shows t (after order board m)

-- The words and seats after each atomic step of the seat with this number, which knows v. The measure of a place is one
-- word after it.
module _ (s : State (Unit {0}) Lifter) (id : ℕ) (v : Lifter) where
  -- the word becomes n, and the seat has seen it
  abbrev pub written : ℕ → ℕ → State (Unit {0}) Lifter
  written word n =
      record { words = slice_set s.words word n; homes = s.homes; views = slice_set s.views id (sees v (word - 1) n) }

  -- the words and seats after a load
  abbrev pub after_load : ℕ → State (Unit {0}) Lifter
  after_load word = written word (slice_index s.words word)

  -- the words and seats after a raise, by one fetch-max
  abbrev pub after_raise : OrderView → ℕ → State (Unit {0}) Lifter
  after_raise order word = written word (max (slice_index s.words word) (lift_at order v.seen (word - 1)))

  -- the words and seats after a claim, by one fetch-add of a word of 64 bits
  abbrev pub after_claim : State (Unit {0}) Lifter
  after_claim =
      record { words = slice_set s.words 0 ((slice_index s.words 0 + 1) % 2 ^ 64); homes = s.homes; views = slice_set s.views id (claims (places v.order) v (slice_index s.words 0)) }

  -- the words and seats after a split: one more seat
  abbrev pub after_split : State (Unit {0}) Lifter
  after_split = record { words = s.words; homes = s.homes; views = slice_set s.views id (splits v) ++ newcomer v ∷ [] }

  -- the words and seats after a join: the other lifter is spent
  abbrev pub after_join : ℕ → Lifter → State (Unit {0}) Lifter
  after_join other w =
      record { words = s.words; homes = s.homes; views = slice_set (slice_set s.views id (both v w)) other spent }

-- the word at a place was found; it is at least the value seen there before
abbrev pub Loads : Step (Unit {0}) → Me (Unit {0}) Lifter → ℕ → Me (Unit {0}) Lifter → Type 0
Loads s v found w =
    (w ≡ (sees v.0 (s.word - 1) found, v.1)) × (slice_index v.0.seen (s.word - 1) ≤ found) × IsSafe w.0 ×
    Takes (λ i. load i (s.word - 1)) v.0 w.0 × IsOnBoard w.0

-- the word at a place was found, at least the value seen there before, and became at least the operand
abbrev pub Raises : Step (Unit {0}) → Me (Unit {0}) Lifter → ℕ → Me (Unit {0}) Lifter → Type 0
Raises s v found w =
    (w ≡ (sees v.0 (s.word - 1) (max found s.first), v.1)) × (slice_index v.0.seen (s.word - 1) ≤ found) × IsSafe w.0 ×
    Takes (λ i. raise i (s.word - 1)) v.0 w.0 × IsOnBoard w.0

-- a claim, after all that the seat had
abbrev pub Claims : Step (Unit {0}) → Me (Unit {0}) Lifter → ℕ → Me (Unit {0}) Lifter → Type 0
Claims s v found w =
    (w ≡ (claims (places v.0.order) v.0 found, v.1)) × All (λ m. m < found) v.0.claims × AreSeatClaims w.0 ×
    Takes claim v.0 w.0 × IsOnBoard w.0

-- a look that shows what holds of the seat
abbrev pub Looks : Step (Unit {0}) → Me (Unit {0}) Lifter → ℕ → Me (Unit {0}) Lifter → Type 0
Looks s v found w = (w ≡ v) × IsSafe w.0 × AreSeatClaims w.0 × IsOnBoard w.0

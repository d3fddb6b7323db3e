-- The game of pairs of a state and the place of a part, in words of pairs alone: its moves, the pairs that can be
-- reached, and when it is refused. This project's own.
use Rattle.std.specs.Prelude.{◌≡◌, ℕ, ◌<◌, ◌⊎◌, List, [], ◌∷◌, length, map, filter, sum_by, Bool, false, All, Contains, slice_index_or}
use Rattle.std.specs.List.{AllZip}
use Rattle.vpg_sides.specs.declared.player.Player.{Player}
use Rattle.vpg_sides.specs.declared.player.Player.TheVariants.{Even, Odd}
use Rattle.vpg_guards.specs.Formula.{Formula as Guard, always}
use Rattle.vpg_guards.specs.Writing.{IsReadable}
use Rattle.vpg_game.specs.Game.{IsNarrow}
use Rattle.vpg_game.specs.Guarded.{GuardedEdge, GuardedVertex, GuardedGame}
use Rattle.vpg_requirement.specs.Building.{join_edges}
use Rattle.vpg_parts.specs.declared.part.Part.{Part}
use Rattle.vpg_parts.specs.declared.part.Part.TheVariants.{True, False, And, Or, SomeStep, EveryStep, Fixpoint, Variable}
use Rattle.vpg_model.specs.declared.fault.ModelFault.{ModelFault}
use Rattle.vpg_model.specs.declared.fault.ModelFault.TheVariants as faults
use Rattle.vpg_model.specs.Departures.{Departure, PairMove}
use Rattle.vpg_parts.specs.Parts.{part_at, resolved_part}
use Rattle.vpg_parts.specs.Sets.{is_permitted}

-- the pair of a part: for `true` and `false` that of the shared ones in state 0, for a variable that of its fixpoint
abbrev pub pair_by : ℕ → ℕ → Part → ℕ × ℕ
pair_by s k True = (0, 0)
pair_by s k False = (0, 1)
pair_by s k (And a b) = (s, k)
pair_by s k (Or a b) = (s, k)
pair_by s k (SomeStep x a) = (s, k)
pair_by s k (EveryStep x a) = (s, k)
pair_by s k (Fixpoint kind p b) = (s, k)
pair_by s k (Variable m) = (s, m)

-- the vertex of a part at a state
abbrev pub pair_for : List Part → ℕ → ℕ → ℕ × ℕ
pair_for parts s k = pair_by s k (part_at parts k)

-- a move under a guard
abbrev pub move_under : Guard → ℕ × ℕ → PairMove
move_under guard to = record { guard = guard; to = to }

-- a move in each product
abbrev pub free_to : ℕ × ℕ → PairMove
free_to to = record { guard = always; to = to }

-- the moves to a part by the transitions with an action of a set
abbrev pub moves_along : List (List Bool) → List Part → ℕ → ℕ → List Departure → List PairMove
moves_along sets parts x a departures =
    map (λ t. record { guard = t.guard; to = pair_for parts t.target a })
    (filter (λ t. is_permitted sets x t.action) departures)

-- the transitions from a state
abbrev pub departures_at : List (List Departure) → ℕ → List Departure
departures_at states s = slice_index_or states s []

-- the guards of all transitions are over this many features, and can be written and read again
abbrev pub HaveGuards : ℕ → List (List Departure) → Type 0
HaveGuards features states = All (λ departures. All (λ t. IsReadable features t.guard) departures) states

-- the moves to a part by the transitions from a state with an action of a set
abbrev pub leaving_moves : List (List Departure) → List (List Bool) → List Part → ℕ → ℕ → ℕ → List PairMove
leaving_moves states sets parts s x a = moves_along sets parts x a (departures_at states s)

-- the moves from a part at a state
abbrev pub moves_by : List (List Departure) → List (List Bool) → List Part → ℕ → Part → List PairMove
moves_by states sets parts s True = []
moves_by states sets parts s False = []
moves_by states sets parts s (And a b) = free_to (pair_for parts s a) ∷ free_to (pair_for parts s b) ∷ []
moves_by states sets parts s (Or a b) = free_to (pair_for parts s a) ∷ free_to (pair_for parts s b) ∷ []
moves_by states sets parts s (SomeStep x a) = leaving_moves states sets parts s x a
moves_by states sets parts s (EveryStep x a) = leaving_moves states sets parts s x a
moves_by states sets parts s (Fixpoint kind p b) = free_to (pair_for parts s b) ∷ []
moves_by states sets parts s (Variable m) = []

-- the moves from a pair
abbrev pub pair_moves : List (List Departure) → List (List Bool) → List Part → ℕ × ℕ → List PairMove
pair_moves states sets parts pair = moves_by states sets parts pair.0 (resolved_part parts pair.1)

-- the player who moves at a part
abbrev pub owner_of_part : Part → Player
owner_of_part True = Odd
owner_of_part False = Even
owner_of_part (And a b) = Odd
owner_of_part (Or a b) = Even
owner_of_part (SomeStep x a) = Even
owner_of_part (EveryStep x a) = Odd
owner_of_part (Fixpoint kind p b) = Even
owner_of_part (Variable m) = Even

-- its priority
abbrev pub priority_of_part : Part → ℕ
priority_of_part True = 0
priority_of_part False = 0
priority_of_part (And a b) = 0
priority_of_part (Or a b) = 0
priority_of_part (SomeStep x a) = 0
priority_of_part (EveryStep x a) = 0
priority_of_part (Fixpoint kind p b) = p
priority_of_part (Variable m) = 0

-- ---- the pairs that can be reached

-- the pair of a number
abbrev pub pair_at : List (ℕ × ℕ) → ℕ → ℕ × ℕ
pair_at pairs v = slice_index_or pairs v (0, 0)

-- no pair is there twice
abbrev pub AreDistinct : List (ℕ × ℕ) → Type 0
AreDistinct pairs = (u v : ℕ) → u < v → v < length pairs → pair_at pairs u ≡ pair_at pairs v → ⊥

-- the targets of the moves
abbrev pub targets : List PairMove → List (ℕ × ℕ)
targets moves = map (λ move. move.to) moves

-- the targets of the moves from a pair
abbrev pub targets_from : List (List Departure) → List (List Bool) → List Part → ℕ × ℕ → List (ℕ × ℕ)
targets_from states sets parts pair = targets (pair_moves states sets parts pair)

-- each pair is a root, or a move of an earlier one leads to it
abbrev pub AreReached : List (List Departure) → List (List Bool) → List Part → List (ℕ × ℕ) → List (ℕ × ℕ) → Type 0
AreReached states sets parts roots pairs = (v : ℕ) → v < length pairs → Contains roots (pair_at pairs v) ⊎
    ((u : ℕ) × (u < v) × Contains (targets_from states sets parts (pair_at pairs u)) (pair_at pairs v))

-- each root is among the pairs, and each that a move of one leads to
pub record AreAll (states : List (List Departure)) (sets : List (List Bool)) (parts : List Part)
    (roots pairs : List (ℕ × ℕ)) : Type 0 where
  pub started : All (λ pair. Contains pairs pair) roots
  pub closed : All (λ pair. All (λ target. Contains pairs target) (targets_from states sets parts pair)) pairs

-- the number of moves of all pairs
abbrev pub moves_in : List (List Departure) → List (List Bool) → List Part → List (ℕ × ℕ) → ℕ
moves_in states sets parts pairs = sum_by (λ pair. length (pair_moves states sets parts pair)) pairs

-- ---- the game

-- the edge goes to the vertex of the move's pair, under its guard
pub record IsPairEdge (pairs : List (ℕ × ℕ)) (move : PairMove) (edge : GuardedEdge Guard) : Type 0 where
  pub guard : edge.guard ≡ move.guard
  pub inside : edge.to < length pairs
  pub target : pair_at pairs edge.to ≡ move.to

-- an edge for each move, joined
pub record AreEdges (pairs : List (ℕ × ℕ)) (moves : List PairMove) (edges : List (GuardedEdge Guard)) : Type 0 where
  pub named : List (GuardedEdge Guard)
  pub joined : edges ≡ join_edges [] named
  pub each : AllZip (IsPairEdge pairs) moves named

-- the vertex is that of the pair: its player, its priority, and its moves
pub record IsPairRow (states : List (List Departure)) (sets : List (List Bool)) (parts : List Part)
    (pairs : List (ℕ × ℕ)) (pair : ℕ × ℕ) (vertex : GuardedVertex Guard) : Type 0 where
  pub owner : vertex.owner ≡ owner_of_part (resolved_part parts pair.1)
  pub priority : vertex.priority ≡ priority_of_part (resolved_part parts pair.1)
  pub edges : AreEdges pairs (pair_moves states sets parts pair) vertex.edges

-- a vertex for each pair, in their order
abbrev pub IsPairBuilt : List (List Departure) → List (List Bool) → List Part → List (ℕ × ℕ) → GuardedGame Guard →
    Type 0
IsPairBuilt states sets parts pairs game = AllZip (IsPairRow states sets parts pairs) pairs game

-- the identifier of each vertex is its number
abbrev pub AreNumbered : List ℕ → Type 0
AreNumbered ids = (v : ℕ) → v < length ids → slice_index_or ids v 0 ≡ v

-- each root's pair has the vertex that is named for it
abbrev pub ArePlaced : List (ℕ × ℕ) → List (ℕ × ℕ) → List ℕ → Type 0
ArePlaced pairs roots vertices = AllZip (λ pair at. (at < length pairs) × (pair_at pairs at ≡ pair)) roots vertices

-- The game of these roots: its vertices are different pairs; each is a root, or a move of an earlier one leads to it.
pub record IsPairGame (states : List (List Departure)) (sets : List (List Bool)) (parts : List Part)
    (roots : List (ℕ × ℕ)) (pairs : List (ℕ × ℕ)) (vertices : List ℕ) (game : GuardedGame Guard) : Type 0 where
  pub distinct : AreDistinct pairs
  pub built : IsPairBuilt states sets parts pairs game
  pub placed : ArePlaced pairs roots vertices
  pub reached : AreReached states sets parts roots pairs

-- ---- refusals

-- the priorities of the pairs' vertices
abbrev pub pair_priorities : List Part → List (ℕ × ℕ) → List ℕ
pair_priorities parts pairs = map (λ pair. priority_of_part (resolved_part parts pair.1)) pairs

-- Priorities as a game that is read has them: each is below 65,536, and the top measures of the game and of its dual
-- are at most 2^62.
abbrev pub AreWithin : List ℕ → Type 0
AreWithin priorities = All (λ p. p < 65536) priorities × IsNarrow priorities

-- Some different pairs that can be reached from the roots have this property.
pub record SomeReached (states : List (List Departure)) (sets : List (List Bool)) (parts : List Part)
    (roots : List (ℕ × ℕ)) (P : List (ℕ × ℕ) → Type 0) : Type 0 where
  pub pairs : List (ℕ × ℕ)
  pub distinct : AreDistinct pairs
  pub reached : AreReached states sets parts roots pairs
  pub holds : P pairs

-- The pairs are all that can be reached, and no game that is read has their priorities.
pub record AreTooWide (states : List (List Departure)) (sets : List (List Bool)) (parts : List Part)
    (roots pairs : List (ℕ × ℕ)) : Type 0 where
  pub all : AreAll states sets parts roots pairs
  pub wide : AreWithin (pair_priorities parts pairs) → ⊥

-- Why no game is made. More than 65,536 different vertices can be reached; or some that can be have more than 1,048,576
-- moves in all; or no game that is read has the priorities of all.
abbrev pub IsRefused : List (List Departure) → List (List Bool) → List Part → List (ℕ × ℕ) → ModelFault → Type 0
IsRefused states sets parts roots faults.TooManyVertices =
    SomeReached states sets parts roots (λ pairs. 65536 < length pairs)
IsRefused states sets parts roots faults.TooManyEdges =
    SomeReached states sets parts roots (λ pairs. 1048576 < moves_in states sets parts pairs)
IsRefused states sets parts roots faults.TooWide =
    SomeReached states sets parts roots (AreTooWide states sets parts roots)
IsRefused states sets parts roots faults.Memory = Unit {0}

-- The state of the search for the pairs, for private contracts alone.
use Rattle.std.specs.Prelude.{◌≡◌, ℕ, ◌+◌, ◌<◌, ◌≤◌, ◌⊎◌, List, [], ◌∷◌, ◌++◌, length, take, Bool, All, Contains}
use Rattle.std.specs.List.{AllZip}
use Rattle.vpg_game.specs.declared.fault.GameFault.{GameFault}
use Rattle.vpg_game.specs.declared.fault.GameFault.TheVariants as game_faults
use Rattle.vpg_game.specs.Spelled.{SpelledSuccessor, SpelledEntry, named_in}
use Rattle.vpg_game.specs.Building.{AreReadable}
use Rattle.vpg_game.specs.Game.{entry_ids, entry_priorities}
use Rattle.vpg_parts.specs.declared.part.Part.{Part}
use Rattle.vpg_parts.specs.Parts.{resolved_part}
use Rattle.vpg_model.specs.declared.fault.ModelFault.{ModelFault}
use Rattle.vpg_model.specs.declared.fault.ModelFault.TheVariants as faults
use Rattle.vpg_model.specs.Departures.{Departure, PairMove}
use Rattle.vpg_model.specs.Pairs.{pair_at, AreDistinct, AreNumbered, AreReached, AreWithin, ArePlaced, SomeReached, owner_of_part, priority_of_part, targets, targets_from, pair_moves, moves_in}

-- the pairs have grown by different ones of these
pub record IsGrown (old new sources : List (ℕ × ℕ)) : Type 0 where
  pub added : List (ℕ × ℕ)
  pub new_is : new ≡ old ++ added
  pub are : All (λ pair. Contains sources pair) added
  pub distinct : AreDistinct old → AreDistinct new

-- the pairs have grown so, and are too many now
pub record IsOvergrown (old new sources : List (ℕ × ℕ)) : Type 0 where
  pub grown : IsGrown old new sources
  pub many : 65536 < length new

-- why a pair, or pairs, could not be added
abbrev pub IsGrowthFault : List (ℕ × ℕ) → List (ℕ × ℕ) → List (ℕ × ℕ) → ModelFault → Type 0
IsGrowthFault old new sources faults.TooManyVertices = IsOvergrown old new sources
IsGrowthFault old new sources faults.TooManyEdges = ⊥
IsGrowthFault old new sources faults.TooWide = ⊥
IsGrowthFault old new sources faults.Memory = Unit {0}

-- the pair has this number, and is added at the end if it is new
pub record IsPlaced (old new : List (ℕ × ℕ)) (pair : ℕ × ℕ) (at : ℕ) : Type 0 where
  pub grown : (new ≡ old) ⊎ (new ≡ old ++ pair ∷ [])
  pub within : at < length new
  pub room : length new ≤ 65536
  pub distinct : AreDistinct new
  pub stored : pair_at new at ≡ pair

-- the successor names the number of the move's pair, under its guard
pub record IsPairSuccessor (pairs : List (ℕ × ℕ)) (move : PairMove) (successor : SpelledSuccessor) : Type 0 where
  pub guard : successor.guard ≡ move.guard
  pub inside : successor.id < length pairs
  pub target : pair_at pairs successor.id ≡ move.to

-- a successor for each move
abbrev pub ArePairSuccessors : List (ℕ × ℕ) → List PairMove → List SpelledSuccessor → Type 0
ArePairSuccessors pairs moves successors = AllZip (IsPairSuccessor pairs) moves successors

-- the successors of these moves; the pairs that they lead to were added
pub record AreSuccessors (old new : List (ℕ × ℕ)) (moves : List PairMove) (successors : List SpelledSuccessor) :
    Type 0 where
  pub grown : IsGrown old new (targets moves)
  pub room : length old ≤ 65536 → length new ≤ 65536
  pub each : ArePairSuccessors new moves successors

-- the entry is that of the pair: its player, its priority, and its moves
pub record IsPairEntry (states : List (List Departure)) (sets : List (List Bool)) (parts : List Part)
    (pairs : List (ℕ × ℕ)) (pair : ℕ × ℕ) (entry : SpelledEntry) : Type 0 where
  pub owner : entry.owner ≡ owner_of_part (resolved_part parts pair.1)
  pub priority : entry.priority ≡ priority_of_part (resolved_part parts pair.1)
  pub successors : ArePairSuccessors pairs (pair_moves states sets parts pair) entry.successors

-- the entry of a pair, with this number; the pairs that its moves lead to were added
pub record IsNewEntry (states : List (List Departure)) (sets : List (List Bool)) (parts : List Part)
    (old new : List (ℕ × ℕ)) (pair : ℕ × ℕ) (at : ℕ) (entry : SpelledEntry) : Type 0 where
  pub grown : IsGrown old new (targets_from states sets parts pair)
  pub room : length old ≤ 65536 → length new ≤ 65536
  pub id : entry.id ≡ at
  pub is : IsPairEntry states sets parts new pair entry

-- why there is none, if this many moves had been counted
abbrev pub IsEntryFault : List (List Departure) → List (List Bool) → List Part → List (ℕ × ℕ) → List (ℕ × ℕ) → ℕ × ℕ →
    ℕ → ModelFault → Type 0
IsEntryFault states sets parts old new pair count faults.TooManyVertices =
    IsOvergrown old new (targets_from states sets parts pair)
IsEntryFault states sets parts old new pair count faults.TooManyEdges =
    1048576 < count + length (pair_moves states sets parts pair)
IsEntryFault states sets parts old new pair count faults.TooWide = ⊥
IsEntryFault states sets parts old new pair count faults.Memory = Unit {0}

-- why the search from these pairs breaks off
abbrev pub IsSearchFault : List (List Departure) → List (List Bool) → List Part → List (ℕ × ℕ) → ModelFault → Type 0
IsSearchFault states sets parts start faults.TooManyVertices =
    SomeReached states sets parts start (λ pairs. 65536 < length pairs)
IsSearchFault states sets parts start faults.TooManyEdges =
    SomeReached states sets parts start (λ pairs. 1048576 < moves_in states sets parts pairs)
IsSearchFault states sets parts start faults.TooWide = ⊥
IsSearchFault states sets parts start faults.Memory = Unit {0}

-- the pair is there
pub record IsPairAt (pairs : List (ℕ × ℕ)) (at : ℕ) (pair : ℕ × ℕ) : Type 0 where
  pub within : at < length pairs
  pub stored : pair_at pairs at ≡ pair

-- the roots have these numbers
pub record AreRoots (old new roots : List (ℕ × ℕ)) (vertices : List ℕ) : Type 0 where
  pub grown : IsGrown old new roots
  pub room : length old ≤ 65536 → length new ≤ 65536
  pub each : ArePlaced new roots vertices

-- this many entries are there, of pairs that began with these; their moves are as many as were counted
pub record IsSearched (states : List (List Departure)) (sets : List (List Bool)) (parts : List Part)
    (start pairs : List (ℕ × ℕ)) (entries : List SpelledEntry) (count : ℕ) : Type 0 where
  pub small : length pairs ≤ 65536
  pub distinct : AreDistinct pairs
  pub within : length entries ≤ length pairs
  pub added : List (ℕ × ℕ)
  pub longer : pairs ≡ start ++ added
  pub numbered : AreNumbered (entry_ids entries)
  pub each : AllZip (IsPairEntry states sets parts pairs) (take (length entries) pairs) entries
  pub reached : AreReached states sets parts start pairs
  pub counted : count ≡ moves_in states sets parts (take (length entries) pairs)

-- ---- the game of entries

-- the targets of successors have entries
abbrev pub AreInside : List SpelledEntry → Type 0
AreInside entries = All (λ entry. All (λ successor. successor.id < length entries) entry.successors) entries

-- The entries are numbered, successors lead to some of them, and all is within the limits but for priorities.
pub record AreEntries (features : ℕ) (entries : List SpelledEntry) : Type 0 where
  pub some : 0 < length entries
  pub few : length entries ≤ 65536
  pub few_successors : named_in entries ≤ 1048576
  pub few_features : features ≤ 512
  pub numbered : AreNumbered (entry_ids entries)
  pub inside : AreInside entries
  pub readable : All (λ entry. AreReadable features entry.successors) entries

-- why they make no game
abbrev pub IsGameFault : List SpelledEntry → ModelFault → Type 0
IsGameFault entries faults.TooManyVertices = ⊥
IsGameFault entries faults.TooManyEdges = ⊥
IsGameFault entries faults.TooWide = AreWithin (entry_priorities entries) → ⊥
IsGameFault entries faults.Memory = Unit {0}

-- why there is no model, if a game could not be made
abbrev pub model_fault : GameFault → ModelFault
model_fault game_faults.TooWide = faults.TooWide
model_fault _ = faults.Memory

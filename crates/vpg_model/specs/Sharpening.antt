-- Games with guards that are written otherwise, so that their three-valued values are known as early as they can be.
-- This project's own.
use Rattle.std.specs.Prelude.{◌≡◌, ℕ, List, Bool}
use Rattle.std.specs.List.{AllZip}
use Rattle.vpg_guards.specs.Formula.{Formula as Guard, truth}
use Rattle.vpg_blake.specs.Blake.{IsShort}
use Rattle.vpg_blake.specs.Sharp.{IsSharp}
use Rattle.vpg_game.specs.Edges.{GuardedEdge}
use Rattle.vpg_game.specs.Guarded.{GuardedGame, AllGuards}
use Rattle.vpg_game.specs.Spelled.{SpelledSuccessor, SpelledEntry}
use Rattle.vpg_game.specs.Game.{NamedVertex}
use Rattle.vpg_guards.specs.Writing.{IsReadable}
use Rattle.vpg_requirement.specs.Building.{IsAlikeGame}

-- Each set of features counts.
abbrev pub EachCounts : List Bool → Type 0
EachCounts set = Unit {0}

-- The games differ in guards alone, and each guard is as true as the other's in each set of features.
abbrev pub IsSameGame : GuardedGame Guard → GuardedGame Guard → Type 0
IsSameGame game other = IsAlikeGame EachCounts game other

-- Each guard of at most six features and 64 prime implicants is sharp: its three-valued value is known wherever all
-- products that agree with what is known agree on the guard.
abbrev pub AreSharp : ℕ → GuardedGame Guard → Type 0
AreSharp features game = AllGuards (λ g. IsShort features g → IsSharp g) game

-- ---- for private contracts alone

-- the successor names the vertex of the edge, under a guard that is as true, can be read again, and is sharp
pub record IsSharpSuccessor (features : ℕ) (edge : GuardedEdge Guard) (successor : SpelledSuccessor) : Type 0 where
  pub to : successor.id ≡ edge.to
  pub same : (set : List Bool) → truth set successor.guard ≡ truth set edge.guard
  pub readable : IsReadable features successor.guard
  pub sharp : IsShort features successor.guard → IsSharp successor.guard

-- a successor for each edge
abbrev pub AreSharpSuccessors : ℕ → List (GuardedEdge Guard) → List SpelledSuccessor → Type 0
AreSharpSuccessors features edges successors = AllZip (IsSharpSuccessor features) edges successors

-- the entry is the vertex, with such successors
pub record IsSharpEntry (features : ℕ) (vertex : NamedVertex) (entry : SpelledEntry) : Type 0 where
  pub id : entry.id ≡ vertex.id
  pub priority : entry.priority ≡ vertex.priority
  pub owner : entry.owner ≡ vertex.owner
  pub successors : AreSharpSuccessors features vertex.edges entry.successors

-- an entry for each vertex
abbrev pub AreSharpEntries : ℕ → List NamedVertex → List SpelledEntry → Type 0
AreSharpEntries features vertices entries = AllZip (IsSharpEntry features) vertices entries

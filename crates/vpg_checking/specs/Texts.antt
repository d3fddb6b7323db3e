-- The text of a game, with a name for each vertex. This project's own.
use Rattle.std.specs.Prelude.{◌≡◌, ℕ, ◌-◌, List, [], ◌∷◌, ◌++◌, length, map, filter, Bool, nat_eq, nat_le, nat_lt, if◌then◌else◌, codes, decimal, slice_index_or}
use Rattle.vpg_game.specs.Game.{NamedGame, SpellsGame}
use Rattle.vpg_game.specs.Guarded.{GuardedGame}
use Rattle.vpg_guards.specs.Formula.{Formula as Guard}
use Rattle.vpg_requirement.specs.Building.{IsAlikeGame}
use Rattle.vpg_parts.specs.declared.part.Part.{Part}
use Rattle.vpg_model.specs.Departures.{Departure}
use Rattle.vpg_model.specs.Pairs.{IsPairGame}
use Rattle.vpg_labels.specs.Labels.{SpellsNamed, labels_from, start_told}
use Rattle.vpg_part_texts.specs.PartTexts.{numbers_from, fixpoint_name, title, cut}

-- The text added spells the game.
abbrev pub WritesGame : List (List ℕ) → NamedGame → List ℕ → List ℕ → Type 0
WritesGame names game old new = (text : List ℕ) × (new ≡ old ++ text) × SpellsGame names text game

-- ---- vertices

-- each set of features
abbrev pub EachSet : List Bool → Type 0
EachSet set = Unit {0}

-- The vertices are these pairs of a state and the place of a part, as the game of these roots has them. Its guards may
-- be written otherwise, each as true in each set of features.
pub record AreVerticesOf (states : List (List Departure)) (sets : List (List Bool)) (parts : List Part)
    (roots pairs : List (ℕ × ℕ)) (vertices : List ℕ) (game : GuardedGame Guard) : Type 0 where
  pub built : GuardedGame Guard
  pub is_built : IsPairGame states sets parts roots pairs vertices built
  pub alike : IsAlikeGame EachSet built game

-- ---- the names of vertices

-- The entry of a part: the last one with a place that is not greater. Places are in the order of the entries.
abbrev pub entry_of : List ℕ → ℕ → ℕ
entry_of places k = length (filter (λ root. nat_le root k) places) - 1

-- the name of a part of the entry of this root
abbrev pub part_name : List Part → List (List ℕ) → ℕ → ℕ → List ℕ
part_name parts sets root k = cut (title parts sets (fixpoint_name (numbers_from 0 parts) root) k)

-- `STATE ENTRY: `; nothing for `true` and `false`, which are at the places 0 and 1 for all states and entries
abbrev pub name_front : List (List ℕ) → List ℕ → ℕ → ℕ → List ℕ
name_front entries places s k =
    if nat_lt 1 k then decimal s ++ 32 ∷ (slice_index_or entries (entry_of places k) [] ++ codes ": ") else []

-- The name of the vertex of a state and a part: `STATE ENTRY: PART`. The first word is the state's number, the second
-- the name of the part's entry.
abbrev pub vertex_name : List (List ℕ) → List ℕ → List Part → List (List ℕ) → ℕ × ℕ → List ℕ
vertex_name entries places parts sets pair =
    name_front entries places pair.0 pair.1
    ++ part_name parts sets (slice_index_or places (entry_of places pair.1) 0) pair.1

-- The text added spells the game, and gives its vertices these names, without quotes and ends of lines. It starts at
-- the vertex 0 if there is one entry, and otherwise has no start.
pub record WritesNames (features : List (List ℕ)) (game : NamedGame) (entries : ℕ) (names : List (List ℕ))
    (old new : List ℕ) : Type 0 where
  pub text : List ℕ
  pub behind : new ≡ old ++ text
  pub named : SpellsNamed features text game
      (record { names = labels_from names 0 (length game.vertices); start = start_told (nat_eq entries 1) })

-- The game of a family, from the texts of its system and of its requirements: the theorem of the whole path. This
-- project's own, over the sources of what it names.
use Rattle.std.specs.Prelude.{◌≡◌, ℕ, ◌<◌, List, [], ◌∷◌, length, take, Bool, false, bytes_eq, if◌then◌else◌, Option, Some, None, slice_index, slice_index_or}
use Rattle.vpg_guards.specs.Formula.{Formula as Guard, truth}
use Rattle.vpg_diagram.specs.FeatureDiagram.{Line}
use Rattle.vpg_game.specs.Guarded.{GuardedGame}
use Rattle.vpg_hope.specs.Hope.{product_game}
use Rattle.vpg_system.specs.SystemText.{NamedSystem, IsTextOf}
use Rattle.vpg_formula.specs.Written.{constant}
use Rattle.vpg_formula.specs.Requirements.{Entry, SpellsRequirements}
use Rattle.vpg_requirement.specs.Systems.{product_system}
use Rattle.vpg_requirement.specs.Laws.{IsDecided}
use Rattle.vpg_meaning.specs.Meaning.{Holds}
use Rattle.vpg_model.specs.Sources.{system_of}
use Rattle.vpg_model.specs.Laws.{IsModel}
use Rattle.vpg_written.specs.Translations.{formula_at}

-- the entry of this number; past the end there is none but `false`
abbrev pub entry_at : List Entry → ℕ → Entry
entry_at entries n = slice_index_or entries n (record { name = []; formula = constant false })

-- This entry, after those before it, holds at the first state of the product with these features.
abbrev pub EntryHoldsIn : NamedSystem → List Entry → ℕ → List Bool → Type 0
EntryHoldsIn system entries n set =
    Holds system.actions (product_system (truth set) (system_of system)) (take n entries) (entry_at entries n).formula
    system.first

-- The game is a model of each entry over these lines, at the vertex that is named for it. In each product Even wins
-- there exactly if the entry holds at the first state, and Odd exactly if it does not.
pub record IsModelOfEntries (lines : List Line) (system : NamedSystem) (entries : List Entry)
    (game : GuardedGame Guard) (roots : List ℕ) : Type 0 where
  pub count : length roots ≡ length entries
  pub models : (n : ℕ) → n < length entries →
      IsModel lines game (system_of system) (formula_at system.actions entries n) system.first (slice_index roots n)
  pub decided : (n : ℕ) → n < length entries → (set : List Bool) →
      IsDecided (EntryHoldsIn system entries n set) (product_game (truth set) game) (slice_index roots n)

-- The texts spell a system, with guards over features of these names, and requirements. The game is a model of these,
-- and decides them, each at the vertex that is named for it.
pub record IsModelOfTexts (names : List (List ℕ)) (lines : List Line) (system_text requirements_text : List ℕ)
    (game : GuardedGame Guard) (roots : List ℕ) : Type 0 where
  pub system : NamedSystem
  pub is_system : IsTextOf names system_text system
  pub entries : List Entry
  pub are_entries : SpellsRequirements requirements_text entries
  pub model : IsModelOfEntries lines system entries game roots

-- The vertex of the first requirement of this name, if there is one.
abbrev pub vertex_named : List (List ℕ) → List ℕ → List ℕ → Option ℕ
vertex_named [] roots name = None
vertex_named (x ∷ names) [] name = None
vertex_named (x ∷ names) (v ∷ roots) name = if bytes_eq x name then Some v else vertex_named names roots name

-- The name of each entry leads to the vertex that is named for it.
abbrev pub AreNamed : List Entry → List (List ℕ) → List ℕ → Type 0
AreNamed entries names roots = (n : ℕ) → n < length entries →
    vertex_named names roots (entry_at entries n).name ≡ Some (slice_index roots n)

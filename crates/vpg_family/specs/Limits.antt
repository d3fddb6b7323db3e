-- The limits on files that are read as a whole. This project's own.
use Rattle.std.specs.Prelude.{◌≡◌, ℕ, ◌<◌, ◌≤◌, ⊤, Bool, true, ◌||◌, ◌==◌, List, length, take, slice_index, count_by}
use Rattle.vpg_family.specs.declared.files.GamePaths.{GamePaths}
use Rattle.vpg_family.specs.declared.files.GamePaths.TheVariants as paths
use Rattle.vpg_family.specs.declared.fault.Input.TheVariants as inputs
use Rattle.vpg_family.specs.declared.fault.Fault.{Fault}
use Rattle.vpg_family.specs.declared.fault.Fault.TheVariants as told

-- A text within the limit of a file has at most 268,435,456 bytes.
abbrev pub IsWithin : List ℕ → Type 0
IsWithin text = length text ≤ 268435456

-- the byte is one of the signs `!`, `&` and `|`
abbrev pub is_sign : ℕ → Bool
is_sign byte = (byte == 33) || (byte == 38) || (byte == 124)

-- the number of these signs in a text
abbrev pub signs_in : List ℕ → ℕ
signs_in text = count_by is_sign text

-- at this place is the first of these signs above the limit of 8,388,608
pub record IsSurplus (text : List ℕ) (at : ℕ) : Type 0 where
  pub inside : at < length text
  pub sign : is_sign (slice_index text at) ≡ true
  pub full : signs_in (take at text) ≡ 8388608

-- why the text of a game is over a limit: its size, or else its first sign above the limit
abbrev pub IsOverLimit : List ℕ → Fault → Type 0
IsOverLimit text (told.TooLarge inputs.Game) = ¬ IsWithin text
IsOverLimit text (told.TooManySigns at) = IsWithin text × IsSurplus text at
IsOverLimit text fault = ⊥

-- the text of a game's file is within both limits
abbrev pub IsWithinBoth : List ℕ → Type 0
IsWithinBoth text = IsWithin text × (signs_in text ≤ 8388608)

-- If the paths name the file of a game, its text is within both limits. One that is made has none.
abbrev pub IsGameWithin : GamePaths → List ℕ → Type 0
IsGameWithin (paths.Game path) text = IsWithinBoth text
IsGameWithin (paths.Model files) text = ⊤
IsGameWithin (paths.System path) text = ⊤

-- the texts of a diagram, a system and its requirements are within the limit
pub record AreWithin (diagram_text system_text requirements_text : List ℕ) : Type 0 where
  pub diagram : IsWithin diagram_text
  pub system : IsWithin system_text
  pub requirements : IsWithin requirements_text

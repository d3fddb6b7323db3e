-- Which entries are within the limits, and why entries make no game. This project's own.
use Rattle.std.specs.Prelude.{ℕ, ◌<◌, ◌≤◌, ◌^◌, List, [], ◌∷◌, length}
use Rattle.vpg_game.specs.declared.fault.GameFault.{GameFault}
use Rattle.vpg_game.specs.declared.fault.GameFault.TheVariants as faults
use Rattle.vpg_game.specs.Spelled.{SpelledSuccessor, SpelledEntry, named_in}
use Rattle.vpg_guards.specs.Writing.{IsReadable}
use Rattle.vpg_game.specs.Game.{IsFirstDouble, IsFirstNotHeld, IsFirstMissing, IsMissing, AreTooWide, entry_ids}

abbrev pub IsNumberingFault : List ℕ → GameFault → Type 0
IsNumberingFault ids (faults.DoubleVertex id) = IsFirstDouble ids id
IsNumberingFault ids faults.Memory = Unit {0}
IsNumberingFault ids _ = ⊥

abbrev pub IsJoiningFault : List ℕ → List SpelledSuccessor → GameFault → Type 0
IsJoiningFault ids ss (faults.MissingVertex id) = IsFirstNotHeld ids ss id
IsJoiningFault ids ss faults.Memory = Unit {0}
IsJoiningFault ids ss _ = ⊥

abbrev pub IsResolvingFault : List ℕ → List SpelledEntry → GameFault → Type 0
IsResolvingFault ids es (faults.MissingVertex id) = IsFirstMissing ids es id
IsResolvingFault ids es faults.Memory = Unit {0}
IsResolvingFault ids es _ = ⊥

-- ---- the limits

-- each successor has a guard that can be written, over this many features
abbrev pub AreReadable : ℕ → List SpelledSuccessor → Type 0
AreReadable features [] = Unit {0}
AreReadable features (s ∷ ss) = IsReadable features s.guard × AreReadable features ss

-- each entry has an identifier below 2^32, a priority below 65,536, and guards that can be written
abbrev pub AreLimited : ℕ → List SpelledEntry → Type 0
AreLimited features [] = Unit {0}
AreLimited features (e ∷ es) =
    (e.id < 2 ^ 32) × (e.priority < 65536) × AreReadable features e.successors × AreLimited features es

-- The entries are within the limits of a text: from 1 to 65,536 entries, at most 1,048,576 successors as named, and at
-- most 512 features.
pub record IsLimited (features : ℕ) (es : List SpelledEntry) : Type 0 where
  pub some : 0 < length es
  pub few : length es ≤ 65536
  pub few_successors : named_in es ≤ 1048576
  pub few_features : features ≤ 512
  pub each : AreLimited features es

-- why these entries make no game: the first doubled identifier, the first missing one, or a top measure above its limit
abbrev pub IsMakingFault : List SpelledEntry → GameFault → Type 0
IsMakingFault es (faults.DoubleVertex id) = IsFirstDouble (entry_ids es) id
IsMakingFault es (faults.MissingVertex id) = IsMissing es id
IsMakingFault es faults.TooWide = AreTooWide es
IsMakingFault es faults.Memory = Unit {0}
IsMakingFault es _ = ⊥

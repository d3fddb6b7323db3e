-- Statements of the laws. This project's own.
use Rattle.std.specs.Prelude.{ℕ, ◌≡◌, List, length}
use Rattle.vpg_features.specs.Names.{AreNames}
use Rattle.vpg_system.specs.SystemText.{NamedSystem, IsTextOf}
use Rattle.vpg_system.specs.System.{IsSystem}
use Rattle.vpg_system.specs.Writing.{system_text}

-- A text spells one system at most.
abbrev pub TextsSpellOneSystem : Type 0
TextsSpellOneSystem =
    (features : List (List ℕ)) (text : List ℕ) (s t : NamedSystem) → AreNames features → IsTextOf features text s →
    IsTextOf features text t → s ≡ t

-- Each text spells a system within the limits, if it spells one.
abbrev pub SpelledAreSystems : Type 0
SpelledAreSystems =
    (features : List (List ℕ)) (text : List ℕ) (s : NamedSystem) → IsTextOf features text s → IsSystem s

-- The text that is written spells the system.
abbrev pub WritingsSpellTheSystem : Type 0
WritingsSpellTheSystem =
    (features : List (List ℕ)) (s : NamedSystem) → AreNames features → length features ≡ s.features → IsSystem s →
    IsTextOf features (system_text features s) s

-- Laws of texts of feature diagrams.
use Rattle.std.specs.Prelude.{ℕ, ◌≡◌, List}
use Rattle.vpg_diagram.specs.DiagramText.{NamedDiagram, IsTextOf}

-- a text spells at most one diagram within the limits
abbrev pub TextsSpellOne : Type 0
TextsSpellOne = (text : List ℕ) (d e : NamedDiagram) → IsTextOf text d → IsTextOf text e → d ≡ e

-- The places of warnings in a text. This project's own.
use Rattle.std.specs.Prelude.{ℕ, ◌≤◌}
use Rattle.vpg_family.specs.declared.warnings.Warning.{Warning}

-- a warning stands at a byte of a text of this length, or at its end
abbrev pub StandsWithin : ℕ → Warning → Type 0
StandsWithin length warning = warning.at ≤ length

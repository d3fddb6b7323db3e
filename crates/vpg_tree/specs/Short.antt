-- Constraints that have a line of their own, for private contracts.
use Rattle.std.specs.Prelude.{◌≡◌, ℕ, Option, Some, None}
use Rattle.vpg_rules.specs.Constraint.{Constraint}
use Rattle.vpg_tree.specs.Lines.{constraint_line, requires_line, excludes_line, rule}
use Rattle.vpg_tree.specs.declared.writing.Short.{Short}
use Rattle.vpg_tree.specs.declared.writing.Short.TheVariants.{Requires, Excludes}

-- the line that the code finds for a constraint
abbrev pub IsShort : Constraint ℕ → Option Short → Type 0
IsShort c (Some (Requires a b)) = constraint_line c ≡ requires_line a b
IsShort c (Some (Excludes a b)) = constraint_line c ≡ excludes_line a b
IsShort c None = constraint_line c ≡ rule c

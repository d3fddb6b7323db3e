-- The lines that the code keeps, as lines of a diagram.
use Rattle.std.specs.Prelude.{ℕ, ◌-◌, List, map}
use Rattle.std.specs.List.{range_with_len}
use Rattle.vpg_diagram.specs.FeatureDiagram.{Line, Mandatory, Optional, Alternative, Or, Group, Requires, Excludes, Formula}
use Rattle.vpg_rules.specs.View.{constraint_of}
use Rattle.vpg_diagram.specs.declared.line.Members.{Members}
use Rattle.vpg_diagram.specs.declared.line.Line as kept
use Rattle.vpg_diagram.specs.declared.line.Kept as whole

-- the features from the first up to the end
abbrev pub members_of : Members → List ℕ
members_of m = range_with_len m.first (m.end - m.first)

abbrev pub line_of : kept.Line → Line
line_of (kept.TheVariants.Mandatory p c) = Mandatory p c
line_of (kept.TheVariants.Optional p c) = Optional p c
line_of (kept.TheVariants.Alternative p cs) = Alternative p (members_of cs)
line_of (kept.TheVariants.Or p cs) = Or p (members_of cs)
line_of (kept.TheVariants.Group p low high cs) = Group p low high (members_of cs)
line_of (kept.TheVariants.Requires a b) = Requires a b
line_of (kept.TheVariants.Excludes a b) = Excludes a b

abbrev pub kept_line_of : whole.Kept → Line
kept_line_of (whole.TheVariants.Line line) = line_of line
kept_line_of (whole.TheVariants.Formula rule) = Formula (constraint_of rule)

abbrev pub lines_of : List whole.Kept → List Line
lines_of lines = map kept_line_of lines

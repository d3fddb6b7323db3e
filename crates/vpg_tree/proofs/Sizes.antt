-- How large a constraint is.
use Rattle.std.proofs.Common.{ℕ, ◌+◌}
use Rattle.vpg_rules.specs.Constraint.{Constraint, Parts, always, never, feature, negation, all, any, implication, equivalence, no_parts, part}

-- the number of operators, parts and names
abbrev mutual
  pub size : Constraint ℕ → ℕ
  size always = 1
  size never = 1
  size (feature f) = 1
  size (negation c) = size c + 1
  size (all cs) = parts_size cs + 1
  size (any cs) = parts_size cs + 1
  size (implication c d) = size c + size d + 1
  size (equivalence c d) = size c + size d + 1

  pub parts_size : Parts ℕ → ℕ
  parts_size no_parts = 0
  parts_size (part c cs) = size c + parts_size cs + 1

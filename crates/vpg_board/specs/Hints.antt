-- Hints. This project's own.
use Rattle.std.specs.Prelude.{ℕ, ◌<◌}
use Rattle.vpg_sides.specs.declared.which.Which.{Which}

-- a hint names a table and a vertex of a game of this many vertices
abbrev pub IsHint : ℕ → Which × ℕ → Type 0
IsHint n hint = hint.1 < n

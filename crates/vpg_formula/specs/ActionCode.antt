-- How the code finds the end of an action.
use Rattle.std.specs.Prelude.{ℕ, zero, suc}

-- here if no parenthesis is open, else at the first open one
abbrev pub end_at : ℕ → ℕ → ℕ → ℕ
end_at zero at opened = at
end_at (suc depth) at opened = opened

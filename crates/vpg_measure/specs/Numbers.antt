-- The number of a measure: mixed radix, the greatest priority most significant. This project's own.
use Rattle.std.specs.Prelude.{◌≡◌, ℕ, ◌+◌, ◌*◌, ◌/◌, ◌%◌, nat_lt, if◌then◌else◌, List, [], ◌∷◌, All}
use Rattle.vpg_game.specs.declared.levels.Level.{Level}
use Rattle.vpg_game.specs.Levels.{top_of}
use Rattle.vpg_measure.specs.Measures.{Measure, zero_measure, Top, Components}

abbrev pub value_of : List Level → List ℕ → ℕ
value_of (l ∷ ls) (c ∷ cs) = c * top_of ls + value_of ls cs
value_of _ _ = 0

-- a measure in mixed radix, the greatest priority most significant
abbrev pub number_of : List Level → Measure → ℕ
number_of ls Top = top_of ls
number_of ls (Components cs) = value_of ls cs

abbrev pub digits_of : List Level → ℕ → List ℕ
digits_of [] n = []
digits_of (l ∷ ls) n = n / top_of ls ∷ digits_of ls (n % top_of ls)

-- the measure of a number; every number from the top on stands for top
abbrev pub measure_of : List Level → ℕ → Measure
measure_of ls n = if nat_lt n (top_of ls) then Components (digits_of ls n) else Top

-- each number is that of the shape's zero measure
abbrev pub AreZeroMeasures : List Level → List ℕ → Type 0
AreZeroMeasures ls numbers = All (λ n. measure_of ls n ≡ zero_measure ls) numbers

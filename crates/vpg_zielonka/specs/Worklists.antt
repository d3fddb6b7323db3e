-- Vertices that wait. This project's own.
use Rattle.std.specs.Prelude.{◌≡◌, ℕ, ◌<◌, Bool, true, false, List, length, slice_index_or, All, Contains}

-- the vertices that wait stand in the queue
pub record IsQueue (list : List Bool) (queue : List ℕ) : Type 0 where
  pub inside : All (λ v. v < length list) queue
  pub all : (v : ℕ) → slice_index_or list v false ≡ true → Contains queue v

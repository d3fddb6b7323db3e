-- An index: for each feature, numbers. This project's own.
use Rattle.std.specs.Prelude.{ℕ, ◌≡◌, ◌↔◌, ◌⊎◌, List, [], length, slice_index_or, Contains}

-- these features have the number noted too, and nothing else is noted
pub record NotesAlso (old : List (List ℕ)) (number : ℕ) (features : List ℕ) (new : List (List ℕ)) : Type 0 where
  pub same_length : length new ≡ length old
  pub exact : (f k : ℕ) → Contains (slice_index_or new f []) k ↔
      (Contains (slice_index_or old f []) k ⊎ ((k ≡ number) × Contains features f))

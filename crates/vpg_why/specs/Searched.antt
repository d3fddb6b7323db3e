-- Vertices as a search finds them. This project's own.
use Rattle.std.specs.Prelude.{◌≡◌, ◌↔◌, ℕ, Bool, true, false, List, ◌++◌, length, slice_index_or, Contains, count_by}

-- The vertices in the queue are marked, and no others; each is there once.
pub record AreQueued (marks : List Bool) (queue : List ℕ) : Type 0 where
  pub marked : (v : ℕ) → slice_index_or marks v false ≡ true ↔ Contains queue v
  pub count : length queue ≡ count_by (λ b. b) marks

-- Each vertex with the property was noted, and no other was added.
pub record AreNoted (Is : ℕ → Type 0) (marks : List Bool) (queue : List ℕ) (later_marks : List Bool)
    (later_queue : List ℕ) : Type 0 where
  pub count : length later_marks ≡ length marks
  pub added : List ℕ
  pub extended : later_queue ≡ queue ++ added
  pub each : (v : ℕ) → Contains added v → Is v
  pub noted : (v : ℕ) → Is v → slice_index_or later_marks v false ≡ true
  pub queued : AreQueued later_marks later_queue

-- only the first vertex is found
pub record IsBegun (first : ℕ) (marks : List Bool) (queue : List ℕ) : Type 0 where
  pub queued : AreQueued marks queue
  pub alone : (v : ℕ) → Contains queue v ↔ (v ≡ first)

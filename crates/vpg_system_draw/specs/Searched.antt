-- States as a search finds them, for private contracts. This project's own.
use Rattle.std.specs.Prelude.{◌≡◌, ◌<◌, ◌⊎◌, ◌+◌, ℕ, Bool, true, false, not, cond, List, [], ◌∷◌, ◌++◌, length, slice_index_or, slice_set, replicate, fold, Contains, count_by}
use Rattle.vpg_guards.specs.declared.tri.Tri.{Tri}
use Rattle.vpg_guards.specs.declared.tri.Tri.TheVariants.{No, Unknown, Yes}
use Rattle.vpg_guards.specs.Known.{kleene}
use Rattle.vpg_system.specs.SystemText.{Transition}
use Rattle.vpg_system_draw.specs.Reached.{Leads}

-- ---- targets by source

abbrev pub may_be : Tri → Bool
may_be No = false
may_be Unknown = true
may_be Yes = true

-- the rows with the target of a transition in that of its source, if it may be there
abbrev pub with_target : List Tri → List (List ℕ) → Transition → List (List ℕ)
with_target known rows t =
    cond (may_be (kleene known t.guard))
    (slice_set rows t.source (slice_index_or rows t.source [] ++ t.target ∷ [])) rows

-- for each of this many states the targets of its transitions that may be there
abbrev pub rows_of : List Tri → ℕ → List Transition → List (List ℕ)
rows_of known count transitions = fold (with_target known) (replicate count []) transitions

-- the rows with the target of a transition in that of its source
abbrev pub with_any_target : List (List ℕ) → Transition → List (List ℕ)
with_any_target rows t = slice_set rows t.source (slice_index_or rows t.source [] ++ t.target ∷ [])

-- for each of this many states the targets of its transitions
abbrev pub all_rows_of : ℕ → List Transition → List (List ℕ)
all_rows_of count transitions = fold with_any_target (replicate count []) transitions

-- ---- marks

abbrev pub IsMarked : List Bool → ℕ → Type 0
IsMarked marks s = slice_index_or marks s false ≡ true

-- the number of states that are not marked
abbrev pub unmarked : List Bool → ℕ
unmarked marks = count_by not marks

-- The states marked now are those marked before and those with the property. The new ones wait, and no others are
-- added.
pub record AreNoted (Is : ℕ → Type 0) (marks : List Bool) (waiting : List ℕ) (later : List Bool)
    (still : List ℕ) : Type 0 where
  pub count : length later ≡ length marks
  pub kept : (s : ℕ) → IsMarked marks s → IsMarked later s
  pub noted : (s : ℕ) → Is s → IsMarked later s
  pub only : (s : ℕ) → IsMarked later s → IsMarked marks s ⊎ Is s
  pub waits : (s : ℕ) → Contains waiting s → Contains still s
  pub new : (s : ℕ) → IsMarked later s → IsMarked marks s ⊎ Contains still s
  pub marked : (s : ℕ) → Contains still s → Contains waiting s ⊎ IsMarked later s
  pub work : unmarked later + length still ≡ unmarked marks + length waiting

-- ---- the search

-- one step, by the rows
abbrev pub RowStep : List (List ℕ) → ℕ → ℕ → Type 0
RowStep rows s w = Contains (slice_index_or rows s []) w

-- each step leads to a state that has a row
abbrev pub AreInside : List (List ℕ) → Type 0
AreInside rows = (s w : ℕ) → RowStep rows s w → w < length rows

-- Each marked state can be reached from the first one. It waits, or its steps lead to marked states.
pub record IsSearching (rows : List (List ℕ)) (first : ℕ) (marks : List Bool) (waiting : List ℕ) : Type 0 where
  pub count : length marks ≡ length rows
  pub begun : IsMarked marks first
  pub found : (s : ℕ) → IsMarked marks s → Leads (RowStep rows) first s
  pub marked : (s : ℕ) → Contains waiting s → IsMarked marks s
  pub visited : (s : ℕ) → IsMarked marks s → Contains waiting s ⊎ ((w : ℕ) → RowStep rows s w → IsMarked marks w)

-- exactly the states that steps lead to are marked
pub record IsSearched (rows : List (List ℕ)) (first : ℕ) (marks : List Bool) : Type 0 where
  pub count : length marks ≡ length rows
  pub found : (s : ℕ) → IsMarked marks s → Leads (RowStep rows) first s
  pub all : (s : ℕ) → Leads (RowStep rows) first s → IsMarked marks s
